use Rattle.views.specs.Tables.{in_field}
use Rattle.views.proofs.Letters.{field_high, letter_put}
use Rattle.views.proofs.cells.put_doubled.Goals as goal

pub loop-letter-preserved : goal.loop-letter-preserved
loop-letter-preserved c =
    letter_put in_field field_high c.in-Some.letter _ _ _ _ _ c.loop-letter.invariant c.in-Some.ensures.steps.0 c.in_ok-put_in_field.ensures
