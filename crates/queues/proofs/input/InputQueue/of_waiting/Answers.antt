use Rattle.std.proofs.Common.{◌≡◌, ◌∙◌, ◌+◌, ◌∷◌, ◌++◌, [], List, ap, arith, rules, subst, sym, take}
use Rattle.std.proofs.lemmas.List.{take_more}
use Rattle.eventkey.proofs.Bags.{IsAscending-add_all}
use Rattle.eventkey.specs.Bag.{IsAscending, add, add_all}
use Rattle.eventkey.specs.Message.{Message}
use Rattle.queues.proofs.Firsts.{waiting_in_order}
use Rattle.queues.proofs.Undone.{add_all-last}
use Rattle.queues.specs.Inside.{queue_inside}
use Rattle.queues.proofs.input.InputQueue.of_waiting.Goals as goal

pub loop-place-preserved : goal.loop-place-preserved
loop-place-preserved c =
    let items = c.args.messages.items in
    let n = c.loop-place.place in
    let e = c.index.result.now in
    let so_far : List Message = take n items in
    let more : take (n + 1) items ≡ so_far ++ e ∷ [] = take_more items n e (omega arith) ∙ ap (λ (x : Message). so_far ++ x ∷ []) (sym c.index.ensures) in
    c.in_ok-add.ensures.added ∙ (ap (add e) c.loop-place.invariant ∙ (sym (add_all-last so_far [] e) ∙ ap (λ (ms : List Message). add_all ms []) (sym more)))

pub invariant_of-result : goal.invariant_of-result
invariant_of-result c = waiting_in_order (queue_inside (record { done = c.new.result; waiting = c.loop-place.waiting; antis = c.new-2.result })) (search rules) (subst IsAscending (sym c.loop-place.invariant) (IsAscending-add_all (take c.loop-place.place c.args.messages.items) [] tt)) (search rules)
