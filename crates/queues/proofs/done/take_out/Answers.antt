use Rattle.std.proofs.Common.{◌≡◌, ◌∙◌, ◌+◌, ◌∷◌, ◌++◌, [], List, ap, arith, drop, length, rules, sym, take}
use Rattle.eventkey.specs.Bag.{remove_all, remove_one}
use Rattle.eventkey.specs.Message.{Message}
use Rattle.queues.proofs.Undone.{next_of, remove_all-last}
use Rattle.queues.proofs.done.take_out.Goals as goal

pub loop-offset-preserved : goal.loop-offset-preserved
loop-offset-preserved c =
    let items = c.args.done.now.items in
    let i = c.args.first in
    let n = c.loop-offset.offset in
    let e = c.index.result.now in
    let bag = c.args.waiting.now in
    let so_far : List Message = take n (drop i items) in
    let long : c.args.done.now.len ≡ length items = search rules in
    let more : take (n + 1) (drop i items) ≡ so_far ++ e ∷ [] = next_of items i n e (omega arith) ∙ ap (λ (x : Message). so_far ++ x ∷ []) (sym c.index.ensures) in
    c.remove.ensures.removed ∙ (ap (remove_one e) c.loop-offset.invariant ∙ (sym (remove_all-last so_far bag e) ∙ ap (λ (ms : List Message). remove_all ms bag) (sym more)))
