use Rattle.std.proofs.Common.{List, ℕ, Some, ap, sym, ◌∙◌}
use Rattle.eventkey.specs.Reading.{with_rest}
use Rattle.eventkey.proofs.Readings.{message_at_is, rest_behind}
use Rattle.eventkey.proofs.reading.read_message.Goals as goal

pub returns-in-Ok : goal.returns-in-Ok
returns-in-Ok c =
    let bytes = c.args.bytes.now in
    ap (λ (rest : List ℕ). Some (c.in-Ok.message, rest)) (rest_behind 56 bytes) ∙ ap (with_rest 56 bytes) (sym c.in-Ok.is ∙ c.get_message.ensures.exact) ∙ sym (message_at_is bytes)

pub returns-in-Err : goal.returns-in-Err
returns-in-Err c = let bytes = c.args.bytes.now in ap (with_rest 56 bytes) (sym c.in-Err.is ∙ c.get_message.ensures.exact) ∙ sym (message_at_is bytes)
