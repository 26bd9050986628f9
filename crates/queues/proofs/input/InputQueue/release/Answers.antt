use Rattle.std.proofs.Common.{◌≡◌, ◌≤◌, ◌∙◌, ap, length, refl, subst, sym, rules, of_calls}
use Rattle.std.proofs.lemmas.Fn.{always_returns_same}
use Rattle.std.specs.Prelude.{nat_lt}
use Rattle.eventkey.specs.Message.{Message}
use Rattle.queues.proofs.Firsts.{dropped_is, early_parted, released_in_order}
use Rattle.queues.proofs.Moves.{same_queue}
use Rattle.queues.specs.Inside.{queue_inside}
use Rattle.queues.specs.Queue.{IsInOrder, released}
use Rattle.queues.proofs.input.InputQueue.release.Goals as goal

released_now : (c : goal.After-let_go) → queue_inside (record { done = c.let_go.new.done; waiting = c.self.inside.waiting; antis = c.self.inside.antis }) ≡ released c.args.floor (queue_inside c.self.inside)
released_now c =
    let xs = c.self.inside.done.items in
    let point = c.partition_point-count.ensures.partitioned (λ (y : Message). nat_lt y.time c.args.floor) (always_returns_same _ _ _ (λ a r f k. search (rules, of_calls))) (early_parted c.args.floor xs c.self.invariant.done) in
    let long : c.partition_point-count.result ≤ length xs = search rules in
    same_queue _ _ (c.let_go.ensures ∙ dropped_is c.args.floor xs c.partition_point-count.result long point.0 point.1) refl refl

pub invariant_of-self : goal.invariant_of-self
invariant_of-self c = subst IsInOrder (sym (released_now c)) (released_in_order c.args.floor (queue_inside c.self.inside) c.self.invariant)

pub returns : goal.returns
returns c = released_now c ∙ ap (released c.args.floor) c.self.view_is
