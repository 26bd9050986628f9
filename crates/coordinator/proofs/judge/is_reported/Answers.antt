use Rattle.std.proofs.Common.{arith, ◌≡◌, ◌∙◌, sym, ap₂}
use Rattle.std.proofs.lemmas.Bool.{both_ways, not-false, not-true}
use Rattle.std.proofs.lemmas.Slice.Eq.{bytes_eq-Decides, slice_eq-Decides}
use Rattle.model.specs.Meaning.{stamp}
use Rattle.coordinator.proofs.Judges.{same_message}
use Rattle.coordinator.proofs.judge.is_reported.Goals as goal

pub returns-then-ne : goal.returns-then-ne
returns-then-ne c =
    let differ = not-true _ (sym c.if-ne.ensures) in
    (λ t. absurd cc, λ is. absurd (both_ways _ differ ((bytes_eq-Decides c.args.next.now c.as_slice.result.now).1 (sym is.1 ∙ sym c.as_slice.ensures))))

pub returns : goal.returns
returns c =
    let same = slice_eq-Decides same_message c.as_slice-2.result.now c.as_slice-3.result.now c.eq.result c.eq.ensures in
    let to : c.to.result ≡ c.args.done.now.message.to = c.to.ensures in
    let time : c.time.result ≡ c.args.done.now.message.time = c.time.ensures in
    let stamped = c.as_slice-2.ensures ∙ c.in_ok-sent.ensures ∙ ap₂ (λ lp t. stamp lp t c.args.number c.args.sends.now) to time in
    let words : c.args.next.now ≡ c.args.done.now.after = (bytes_eq-Decides c.args.next.now c.as_slice.result.now).0 (not-false _ (sym c.if-ne.ensures)) ∙ c.as_slice.ensures in
    let number = c.if-after-many.false in
    let many = c.if-many-after.false in
    let limit = c.if-after-gt-NUMBER_LIMIT.false in (
      λ t. (
        sym c.as_slice-3.ensures ∙ sym (same.0 t) ∙ stamped,
        sym words,
        omega (arith, number, many),
        omega (arith, limit),
      ),
      λ is. same.1 (stamped ∙ sym is.0 ∙ sym c.as_slice-3.ensures),
    )
