use Rattle.std.proofs.Common.{List, [], ap, sym, ◌++◌, ◌∙◌}
use Rattle.std.proofs.lemmas.Slice.Eq.{slice_eq-Decides}
use Rattle.eventkey.specs.Bag.{add_all}
use Rattle.eventkey.specs.Message.{Message}
use Rattle.gvt.specs.Judged.{early}
use Rattle.gvt.specs.Moves.{reported_before}
use Rattle.gvt.specs.System.{reported_sends}
use Rattle.coordinator.proofs.Judges.{both-early, same_message}
use Rattle.coordinator.proofs.judge.is_whole.Goals as goal

pub returns : goal.returns
returns c =
    let same = slice_eq-Decides same_message c.as_slice.result.now c.as_slice-2.result.now c.eq.result c.eq.ensures in
    let sends = reported_sends (reported_before c.args.time c.args.gathered.now) in
    let both = c.in_ok-push_early.ensures ∙ ap (λ (xs : List Message). xs ++ early c.args.time c.args.pending.now) c.in_ok-due.ensures in
    let due = c.as_slice.ensures.value ∙ c.in_ok-due-2.ensures ∙ ap (λ (xs : List Message). add_all xs []) both ∙ both-early c.args.time sends c.args.pending.now c.requires in
    let events = c.as_slice-2.ensures.value ∙ c.in_ok-events.ensures in
    (λ t. sym due ∙ same.0 t ∙ events, λ is. same.1 (due ∙ is ∙ sym events))
