use Rattle.std.proofs.Common.{◌≡◌, ◌∙◌, ap, arith, refl, subst, sym, false, true, length, rules}
use Rattle.eventkey.specs.Bag.{IsAscending, add_all, is_among}
use Rattle.eventkey.specs.Signed.{minus}
use Rattle.queues.proofs.Exits.{on_err}
use Rattle.queues.proofs.Moves.{minus_met, minus_stayed, minus_undone, same_queue}
use Rattle.queues.proofs.Places.{after-le}
use Rattle.queues.proofs.Releases.{popped_is}
use Rattle.queues.proofs.Queues.{queues_stay_in_order}
use Rattle.queues.proofs.Undone.{not_taken}
use Rattle.queues.specs.Inside.{queue_inside}
use Rattle.queues.specs.Queue.{IsInOrder, arrived, last_of}
use Rattle.queues.proofs.input.InputQueue.arrive_minus.Goals as goal

-- 1. The message waits

pub invariant_of-self : goal.invariant_of-self
invariant_of-self c =
    let q = queue_inside c.self.inside in
    let is = minus_met c.args.message q (record { done = q.done; waiting = c.remove.new.self; antis = q.antis }) c.self.invariant (sym c.remove.ensures.answer ∙ c.if-remove.true) refl c.remove.ensures.removed refl in
    subst IsInOrder (sym is) (queues_stay_in_order (minus c.args.message) q c.self.invariant)

pub returns-then-remove-clause-arrived : goal.returns-then-remove-clause-arrived
returns-then-remove-clause-arrived c =
    let q = queue_inside c.self.inside in
    let is = minus_met c.args.message q (record { done = q.done; waiting = c.remove.new.self; antis = q.antis }) c.self.invariant (sym c.remove.ensures.answer ∙ c.if-remove.true) refl c.remove.ensures.removed refl in
    is ∙ ap (arrived (minus c.args.message)) c.self.view_is

-- 2. The message is done

pub wait_again-requires-clause-there : goal.wait_again-requires-clause-there
wait_again-requires-clause-there c = omega (arith, after-le c.args.message c.self.inside.done.items)

pub undo-requires : goal.undo-requires
undo-requires c = omega (arith, after-le c.args.message c.self.inside.done.items)

pub wait_again-requires-clause-ascending : goal.wait_again-requires-clause-ascending
wait_again-requires-clause-ascending c = subst IsAscending (sym (not_taken c.args.message c.self.inside.waiting c.remove.new.self (sym c.remove.ensures.answer ∙ c.if-remove.false) c.remove.ensures.removed)) c.self.invariant.waiting

pub invariant_of-self-in_err-wait_again : goal.invariant_of-self-in_err-wait_again
invariant_of-self-in_err-wait_again c =
    let kept = not_taken c.args.message c.self.inside.waiting c.remove.new.self (sym c.remove.ensures.answer ∙ c.if-remove.false) c.remove.ensures.removed in
    subst IsInOrder (same_queue (queue_inside c.self.inside) _ refl (sym (c.in_err-wait_again.ensures.unchanged ∙ kept)) refl) c.self.invariant

pub returns-in_err-wait_again-clause-unchanged : goal.returns-in_err-wait_again-clause-unchanged
returns-in_err-wait_again-clause-unchanged c =
    let kept = not_taken c.args.message c.self.inside.waiting c.remove.new.self (sym c.remove.ensures.answer ∙ c.if-remove.false) c.remove.ensures.removed in
    on_err c.from_residual.result (same_queue _ (queue_inside c.self.inside) refl (c.in_err-wait_again.ensures.unchanged ∙ kept) refl ∙ c.self.view_is)

pub overflow_add-result : goal.overflow_add-result
overflow_add-result c = omega (arith, after-le c.args.message c.self.inside.done.items)

-- 3. The antimessage waits

pub invariant_of-self-in_err-add : goal.invariant_of-self-in_err-add
invariant_of-self-in_err-add c =
    let kept = not_taken c.args.message c.self.inside.waiting c.remove.new.self (sym c.remove.ensures.answer ∙ c.if-remove.false) c.remove.ensures.removed in
    subst IsInOrder (same_queue (queue_inside c.self.inside) _ refl (sym kept) (sym c.in_err-add.ensures.unchanged)) c.self.invariant

pub returns-in_err-add-clause-unchanged : goal.returns-in_err-add-clause-unchanged
returns-in_err-add-clause-unchanged c =
    let kept = not_taken c.args.message c.self.inside.waiting c.remove.new.self (sym c.remove.ensures.answer ∙ c.if-remove.false) c.remove.ensures.removed in
    on_err c.from_residual-in_err-add.result (same_queue _ (queue_inside c.self.inside) refl kept c.in_err-add.ensures.unchanged ∙ c.self.view_is)

-- 4. The queue after an arrival

pub invariant_of-self-then-holds : goal.invariant_of-self-then-holds
invariant_of-self-then-holds c =
    let q = queue_inside c.self.inside in
    let gone : is_among c.args.message q.waiting ≡ false = sym c.remove.ensures.answer ∙ c.if-remove.false in
    let kept = not_taken c.args.message q.waiting c.remove.new.self gone c.remove.ensures.removed in
    let there : is_among c.args.message q.done ≡ true = sym c.holds.ensures ∙ c.if-holds.true in
    let long : c.undo.new.done.len ≡ length c.undo.new.done.items = search rules in
    let is =
    minus_undone c.args.message q (queue_inside (record { done = c.pop_back.new.self; waiting = c.wait_again.new.waiting; antis = c.self.inside.antis })) c.self.invariant c.count_after-later.result c.undo.new.done.items gone there
    c.count_after-later.ensures c.undo.ensures (popped_is c.undo.new.done.items c.pop_back.new.self.items c.pop_back.result c.undo.new.done.len _ _ long c.pop_back.ensures.items c.pop_back.ensures.cases)
    (c.in_ok-wait_again.ensures.waits ∙ ap (add_all (last_of c.count_after-later.result q.done)) kept) refl in
    subst IsInOrder (sym is) (queues_stay_in_order (minus c.args.message) q c.self.invariant)

pub returns-then-holds-clause-arrived : goal.returns-then-holds-clause-arrived
returns-then-holds-clause-arrived c =
    let q = queue_inside c.self.inside in
    let gone : is_among c.args.message q.waiting ≡ false = sym c.remove.ensures.answer ∙ c.if-remove.false in
    let kept = not_taken c.args.message q.waiting c.remove.new.self gone c.remove.ensures.removed in
    let there : is_among c.args.message q.done ≡ true = sym c.holds.ensures ∙ c.if-holds.true in
    let long : c.undo.new.done.len ≡ length c.undo.new.done.items = search rules in
    let is =
    minus_undone c.args.message q (queue_inside (record { done = c.pop_back.new.self; waiting = c.wait_again.new.waiting; antis = c.self.inside.antis })) c.self.invariant c.count_after-later.result c.undo.new.done.items gone there
    c.count_after-later.ensures c.undo.ensures (popped_is c.undo.new.done.items c.pop_back.new.self.items c.pop_back.result c.undo.new.done.len _ _ long c.pop_back.ensures.items c.pop_back.ensures.cases)
    (c.in_ok-wait_again.ensures.waits ∙ ap (add_all (last_of c.count_after-later.result q.done)) kept) refl in
    is ∙ ap (arrived (minus c.args.message)) c.self.view_is

pub invariant_of-self-2 : goal.invariant_of-self-2
invariant_of-self-2 c =
    let q = queue_inside c.self.inside in
    let gone : is_among c.args.message q.waiting ≡ false = sym c.remove.ensures.answer ∙ c.if-remove.false in
    let kept = not_taken c.args.message q.waiting c.remove.new.self gone c.remove.ensures.removed in
    let is =
    minus_stayed c.args.message q (queue_inside (record { done = c.self.inside.done; waiting = c.remove.new.self; antis = c.add.new.self })) c.self.invariant gone (sym c.holds.ensures ∙ c.if-holds.false) refl kept c.in_ok-add.ensures.added in
    subst IsInOrder (sym is) (queues_stay_in_order (minus c.args.message) q c.self.invariant)

pub returns-clause-arrived : goal.returns-clause-arrived
returns-clause-arrived c =
    let q = queue_inside c.self.inside in
    let gone : is_among c.args.message q.waiting ≡ false = sym c.remove.ensures.answer ∙ c.if-remove.false in
    let kept = not_taken c.args.message q.waiting c.remove.new.self gone c.remove.ensures.removed in
    let is =
    minus_stayed c.args.message q (queue_inside (record { done = c.self.inside.done; waiting = c.remove.new.self; antis = c.add.new.self })) c.self.invariant gone (sym c.holds.ensures ∙ c.if-holds.false) refl kept c.in_ok-add.ensures.added in
    is ∙ ap (arrived (minus c.args.message)) c.self.view_is
