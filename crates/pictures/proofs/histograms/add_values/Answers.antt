use Rattle.std.proofs.Common.{◌+◌, ◌∙◌, ◌++◌, List, ℕ, ap, arith, subst, sym, take}
use Rattle.std.proofs.lemmas.List.{take_all}
use Rattle.pictures.specs.Histograms.{values_of}
use Rattle.pictures.specs.Tallies.{IsTally}
use Rattle.pictures.proofs.Binned.{value_passed, value_taken}
use Rattle.pictures.proofs.histograms.add_values.Goals.{then-is_of_sort+in_ok-add, else-is_of_sort}
use Rattle.pictures.proofs.histograms.add_values.Goals as goal

pub loop-event-preserved : goal.loop-event-preserved
loop-event-preserved c = λ values is.
    let w = c.args.word in
    let events = c.args.events.now in
    let i = c.loop-event.event-index in
    let x = c.event-item.result in
    let before = c.loop-event.invariant values is in
    elim c.if-is_of_sort.branch [
      | then-is_of_sort+in_ok-add b ↦
          subst (λ t. IsTally (values ++ values_of w (take (i + 1) events)) t) (sym b.tally-is)
          (subst (λ (vs : List ℕ). IsTally vs b.add.new.self) (value_taken w events i x b.content_at.result values (omega arith) c.event-item.is (sym c.is_of_sort.ensures ∙ b.if-is_of_sort.true) b.content_at.ensures)
          (b.in_ok-add.ensures (values ++ values_of w (take i events)) before))
      | else-is_of_sort b ↦
          subst (λ t. IsTally (values ++ values_of w (take (i + 1) events)) t) (sym b.tally-is)
          (subst (λ (vs : List ℕ). IsTally vs c.loop-event.tally) (value_passed w events i x values (omega arith) c.event-item.is (sym c.is_of_sort.ensures ∙ b.if-is_of_sort.false)) before)
    ]

pub returns : goal.returns
returns c = λ values is.
    let i = c.loop-event.event-index in
    subst (λ (vs : List ℕ). IsTally vs c.loop-event.tally) (ap (λ es. values ++ values_of c.args.word es) (take_all i c.args.events.now (omega arith))) (c.loop-event.invariant values is)
