use Rattle.std.proofs.Common.{get_or, sym, refl, ◌∙◌, length, arith, ap, ◌%◌}
use Rattle.std.proofs.lemmas.Bool.{and_left, and_right, le-ltb, ne_eqb}
use Rattle.std.specs.Prelude.{nat_lt}
use Rattle.node.specs.Node.{sits_on}
use Rattle.std.proofs.lemmas.List.{take_all}
use Rattle.gvt.proofs.Picking.{picking-again, picking-bad, picking-more, to_of}
use Rattle.gvt.proofs.Marks.{unmarked_is}
use Rattle.gvt.specs.Picks.{has, nothing}
use Rattle.gvt.proofs.transit.mark.Goals as goal
use Rattle.gvt.proofs.transit.mark.Goals.{then-place-messages-via-then-place-messages, then-place-messages-via-else-place-messages+then-marks-place, then-place-messages-via-else-place-messages+else-marks-place+then-to-nodes}

pub returns-then-place-messages-clause-good : goal.returns-then-place-messages-clause-good
returns-then-place-messages-clause-good c =
    let nodes = c.args.nodes in
    let node = c.args.node in
    let transit = c.args.messages.now in
    let picks = c.args.picks.now in
    let index = c.loop-pick.pick-index in
    let place = get_or picks index 0 in
    let bad = picking-bad nodes node transit c.loop-pick.marks picks index place c.loop-pick-test.true refl c.loop-pick.invariant in
    let there = nat_lt place (length transit) in
    let own = sits_on nodes node (get_or transit place nothing).message.to in
    elim c.then-place-messages.branch [
      | then-place-messages-via-then-place-messages w ↦ sym (bad (and_left there own (le-ltb place (length transit) w.if-place-messages.true)))
      | then-place-messages-via-else-place-messages+then-marks-place w ↦
          sym (picking-again nodes node transit c.loop-pick.marks picks index place c.loop-pick-test.true refl c.loop-pick.invariant w.if-marks-place.true w.if-place-messages.false)
      | then-place-messages-via-else-place-messages+else-marks-place+then-to-nodes w ↦
          let to = to_of transit place w.index-messages-place.result w.if-place-messages.false in
          sym (bad (and_right there own (ne_eqb ((get_or transit place nothing).message.to % nodes) node
          (λ e. w.if-to-nodes.true (ap (λ n. n % nodes) (w.to.ensures ∙ sym to) ∙ e)))))
    ]

pub loop-pick-preserved : goal.loop-pick-preserved
loop-pick-preserved c =
    let nodes = c.args.nodes in
    let node = c.args.node in
    let transit = c.args.messages.now in
    let picks = c.args.picks.now in
    let index = c.loop-pick.pick-index in
    let place = get_or picks index 0 in
    let to = to_of transit place c.index-messages-place.result c.if-place-messages.false in
    picking-more nodes node transit c.loop-pick.marks picks index place c.loop-pick-test.true refl c.loop-pick.invariant c.if-place-messages.false c.if-marks-place.false
    (ap (λ n. n % nodes) (to ∙ sym c.to.ensures) ∙ c.if-to-nodes.false)

pub returns-clause-marked : goal.returns-clause-marked
returns-clause-marked c _ =
    let picks = c.args.picks.now in
    let index = c.loop-pick.pick-index in
    unmarked_is c.loop-pick.marks picks 0 c.args.messages.now c.loop-pick.invariant.long
    (λ k l. c.loop-pick.invariant.each k l ∙ (ap (has k) (take_all index picks c.loop-pick-test.false) ∙ ap (λ n. has n picks) (omega arith)))
