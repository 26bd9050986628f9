use Rattle.std.proofs.Common.{List, ℕ, Some, ap, sym, ◌∙◌}
use Rattle.eventkey.specs.Reading.{with_rest}
use Rattle.eventkey.proofs.Readings.{signed_are_read, rest_behind}
use Rattle.eventkey.proofs.reading.read_signed.Goals as goal

pub returns-in-Ok : goal.returns-in-Ok
returns-in-Ok c =
    let bytes = c.args.bytes.now in
    ap (λ (rest : List ℕ). Some (c.in-Ok.signed, rest)) (rest_behind 57 bytes) ∙ ap (with_rest 57 bytes) (sym c.in-Ok.is ∙ c.get_signed.ensures.exact) ∙ sym (signed_are_read bytes)

pub returns-in-Err : goal.returns-in-Err
returns-in-Err c = let bytes = c.args.bytes.now in ap (with_rest 57 bytes) (sym c.in-Err.is ∙ c.get_signed.ensures.exact) ∙ sym (signed_are_read bytes)
