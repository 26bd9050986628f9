use Rattle.std.proofs.Common.{◌≡◌, ◌∙◌, ap, arith, refl, subst, sym, false}
use Rattle.eventkey.proofs.Bags.{IsAscending-add}
use Rattle.eventkey.specs.Bag.{IsAscending, add_all, is_among, remove_one}
use Rattle.eventkey.specs.Signed.{plus}
use Rattle.queues.proofs.Exits.{at_err, at_ok, on_err}
use Rattle.queues.proofs.Moves.{plus_met, plus_stayed, same_queue}
use Rattle.queues.proofs.Places.{after-le}
use Rattle.queues.proofs.Queues.{queues_stay_in_order}
use Rattle.queues.proofs.Undone.{not_taken, put_one_back}
use Rattle.queues.specs.Inside.{queue_inside}
use Rattle.queues.specs.Queue.{IsInOrder, arrived, last_of}
use Rattle.queues.proofs.input.InputQueue.arrive_plus.Goals as goal

pub invariant_of-self : goal.invariant_of-self
invariant_of-self c =
    let q = queue_inside c.self.inside in
    let is = plus_met c.args.message q (record { done = q.done; waiting = q.waiting; antis = c.remove.new.self }) c.self.invariant (sym c.remove.ensures.answer ∙ c.if-remove.true) refl refl c.remove.ensures.removed in
    subst IsInOrder (sym is) (queues_stay_in_order (plus c.args.message) q c.self.invariant)

pub returns-then-remove-clause-arrived : goal.returns-then-remove-clause-arrived
returns-then-remove-clause-arrived c =
    let q = queue_inside c.self.inside in
    let is = plus_met c.args.message q (record { done = q.done; waiting = q.waiting; antis = c.remove.new.self }) c.self.invariant (sym c.remove.ensures.answer ∙ c.if-remove.true) refl refl c.remove.ensures.removed in
    is ∙ ap (arrived (plus c.args.message)) c.self.view_is

pub invariant_of-self-in_err-add : goal.invariant_of-self-in_err-add
invariant_of-self-in_err-add c =
    let kept = not_taken c.args.message c.self.inside.antis c.remove.new.self (sym c.remove.ensures.answer ∙ c.if-remove.false) c.remove.ensures.removed in
    subst IsInOrder (same_queue (queue_inside c.self.inside) _ refl (sym c.in_err-add.ensures.unchanged) (sym kept)) c.self.invariant

pub returns-in_err-add-clause-unchanged : goal.returns-in_err-add-clause-unchanged
returns-in_err-add-clause-unchanged c =
    let kept = not_taken c.args.message c.self.inside.antis c.remove.new.self (sym c.remove.ensures.answer ∙ c.if-remove.false) c.remove.ensures.removed in
    on_err c.from_residual.result (same_queue _ (queue_inside c.self.inside) refl c.in_err-add.ensures.unchanged kept ∙ c.self.view_is)

pub wait_again-requires-clause-there : goal.wait_again-requires-clause-there
wait_again-requires-clause-there c = omega (arith, after-le c.args.message c.self.inside.done.items)

pub undo-requires : goal.undo-requires
undo-requires c = omega (arith, after-le c.args.message c.self.inside.done.items)

pub wait_again-requires-clause-ascending : goal.wait_again-requires-clause-ascending
wait_again-requires-clause-ascending c = subst IsAscending (sym c.in_ok-add.ensures.added) (IsAscending-add c.args.message c.self.inside.waiting c.self.invariant.waiting)

pub invariant_of-self-2 : goal.invariant_of-self-2
invariant_of-self-2 c =
    let q = queue_inside c.self.inside in
    let alone : is_among c.args.message q.antis ≡ false = sym c.remove.ensures.answer ∙ c.if-remove.false in
    let kept = not_taken c.args.message q.antis c.remove.new.self alone c.remove.ensures.removed in
    let waits = at_ok c.wait_again.result c.wait_again.ensures.waits (sym c.is_err.ensures.value ∙ c.if-is_err.false) in
    let is =
    plus_stayed c.args.message q (queue_inside (record { done = c.undo.new.done; waiting = c.wait_again.new.waiting; antis = c.remove.new.self })) c.self.invariant c.count_after-back.result alone c.count_after-back.ensures c.undo.ensures
    (waits ∙ ap (add_all (last_of c.count_after-back.result q.done)) c.in_ok-add.ensures.added) kept in
    subst IsInOrder (sym is) (queues_stay_in_order (plus c.args.message) q c.self.invariant)

pub returns-clause-arrived : goal.returns-clause-arrived
returns-clause-arrived c =
    let q = queue_inside c.self.inside in
    let alone : is_among c.args.message q.antis ≡ false = sym c.remove.ensures.answer ∙ c.if-remove.false in
    let kept = not_taken c.args.message q.antis c.remove.new.self alone c.remove.ensures.removed in
    let waits = at_ok c.wait_again.result c.wait_again.ensures.waits (sym c.is_err.ensures.value ∙ c.if-is_err.false) in
    let is =
    plus_stayed c.args.message q (queue_inside (record { done = c.undo.new.done; waiting = c.wait_again.new.waiting; antis = c.remove.new.self })) c.self.invariant c.count_after-back.result alone c.count_after-back.ensures c.undo.ensures
    (waits ∙ ap (add_all (last_of c.count_after-back.result q.done)) c.in_ok-add.ensures.added) kept in
    is ∙ ap (arrived (plus c.args.message)) c.self.view_is

pub invariant_of-self-then-is_err : goal.invariant_of-self-then-is_err
invariant_of-self-then-is_err c =
    let m = c.args.message in
    let q = queue_inside c.self.inside in
    let kept = not_taken m q.antis c.remove.new.self (sym c.remove.ensures.answer ∙ c.if-remove.false) c.remove.ensures.removed in
    let back : c.wait_again.new.waiting ≡ c.add.new.self = at_err c.wait_again.result c.wait_again.ensures.unchanged (sym c.is_err.ensures.value ∙ c.if-is_err.true) in
    let out : c.remove-then-is_err.new.self ≡ q.waiting = c.remove-then-is_err.ensures.removed ∙ (ap (remove_one m) (back ∙ c.in_ok-add.ensures.added) ∙ put_one_back m q.waiting c.self.invariant.waiting) in
    subst IsInOrder (same_queue q _ refl (sym out) (sym kept)) c.self.invariant

pub returns-then-is_err-clause-unchanged : goal.returns-then-is_err-clause-unchanged
returns-then-is_err-clause-unchanged c =
    let m = c.args.message in
    let q = queue_inside c.self.inside in
    let kept = not_taken m q.antis c.remove.new.self (sym c.remove.ensures.answer ∙ c.if-remove.false) c.remove.ensures.removed in
    let back : c.wait_again.new.waiting ≡ c.add.new.self = at_err c.wait_again.result c.wait_again.ensures.unchanged (sym c.is_err.ensures.value ∙ c.if-is_err.true) in
    let out : c.remove-then-is_err.new.self ≡ q.waiting = c.remove-then-is_err.ensures.removed ∙ (ap (remove_one m) (back ∙ c.in_ok-add.ensures.added) ∙ put_one_back m q.waiting c.self.invariant.waiting) in
    same_queue _ q refl out kept ∙ c.self.view_is
