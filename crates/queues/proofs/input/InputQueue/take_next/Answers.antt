use Rattle.std.proofs.Common.{◌≡◌, ◌∙◌, Some, ap, refl, subst, sym}
use Rattle.queues.proofs.Firsts.{first_gone, taken_in_order, taken_is}
use Rattle.queues.specs.Inside.{queue_inside}
use Rattle.queues.specs.Queue.{IsInOrder, Queue, first_before, taken}
use Rattle.queues.proofs.input.InputQueue.take_next.Goals as goal

first : (c : goal.After-take_first) → first_before c.args.end (queue_inside c.self.inside).waiting ≡ Some c.in-Some.message
first c = ap (λ (q : Queue). first_before c.args.end q.waiting) c.self.view_is ∙ (sym c.next.ensures ∙ c.in-Some.is)

taken_now : (c : goal.After-take_first) → queue_inside (record { done = c.push_back.new.self; waiting = c.take_first.new.self; antis = c.self.inside.antis }) ≡ taken c.args.end (queue_inside c.self.inside)
taken_now c =
    taken_is c.args.end (queue_inside c.self.inside) (queue_inside (record { done = c.push_back.new.self; waiting = c.take_first.new.self; antis = c.self.inside.antis })) c.in-Some.message
    (first c) c.in_ok-push_back.ensures.items (c.take_first.ensures.left ∙ first_gone c.args.end (queue_inside c.self.inside).waiting c.in-Some.message (first c)) refl

pub invariant_of-self-2 : goal.invariant_of-self-2
invariant_of-self-2 c = subst IsInOrder (sym (taken_now c)) (taken_in_order c.args.end (queue_inside c.self.inside) c.in-Some.message (first c) c.self.invariant)

pub returns-clause-taken : goal.returns-clause-taken
returns-clause-taken c = taken_now c ∙ ap (taken c.args.end) c.self.view_is
