use Rattle.std.proofs.Common.{◌≡◌, ◌∙◌, ◌+◌, ◌-◌, ◌∷◌, List, ℕ, ap, arith, drop, length, rules, sym}
use Rattle.std.proofs.lemmas.List.{length-drop, take_all}
use Rattle.eventkey.proofs.Lists.{drop_here}
use Rattle.eventkey.specs.Bag.{add, add_all, remove_all}
use Rattle.eventkey.specs.Message.{Message}
use Rattle.queues.proofs.Exits.{at_err, at_ok}
use Rattle.queues.proofs.Undone.{last_of-drop, put_first, taken_out}
use Rattle.queues.proofs.done.wait_again.Goals as goal

pub loop-again-preserved : goal.loop-again-preserved
loop-again-preserved c =
    let items = c.args.done.now.items in
    let n = c.loop-again.again in
    let e = c.index.result.now in
    let bag = c.args.waiting.now in
    let long : c.len-all.result ≡ length items = search rules in
    let so_far : List Message = drop (c.len-all.result - n) items in
    let next : c.len-all.result - n - 1 + 1 ≡ c.len-all.result - n = omega arith in
    let more : drop (c.len-all.result - n - 1) items ≡ e ∷ so_far =
    drop_here items (c.len-all.result - n - 1) e (omega arith) c.index.ensures ∙ ap (λ (k : ℕ). e ∷ drop k items) next in
    let one : c.len-all.result - (n + 1) ≡ c.len-all.result - n - 1 = omega arith in
    let added : c.add.new.self ≡ add e c.loop-again.waiting = at_ok c.add.result c.add.ensures.added (sym c.is_err.ensures.value ∙ c.if-is_err.false) in
    added ∙ ap (add e) c.loop-again.invariant ∙ sym (put_first e so_far bag c.requires.ascending)
    ∙ ap (λ (ms : List Message). add_all ms bag) (sym (ap (λ (k : ℕ). drop k items) one ∙ more))

pub returns-then-is_err-clause-unchanged : goal.returns-then-is_err-clause-unchanged
returns-then-is_err-clause-unchanged c =
    let items = c.args.done.now.items in
    let n = c.loop-again.again in
    let xs : List Message = drop (c.len-all.result - n) items in
    let long : c.len-all.result ≡ length items = search rules in
    let kept : c.add.new.self ≡ c.loop-again.waiting = at_err c.add.result c.add.ensures.unchanged (sym c.is_err.ensures.value ∙ c.if-is_err.true) in
    let whole = take_all n xs (omega (arith, length-drop (c.len-all.result - n) items)) in
    c.take_out.ensures ∙ ap (λ (ms : List Message). remove_all ms c.add.new.self) whole ∙ ap (remove_all xs) (kept ∙ c.loop-again.invariant) ∙ taken_out xs c.args.waiting.now c.requires.ascending

pub returns-clause-waits : goal.returns-clause-waits
returns-clause-waits c =
    let items = c.args.done.now.items in
    let long : c.len-all.result ≡ length items = search rules in
    let end : c.len-all.result - c.loop-again.again ≡ length items - c.args.count = omega arith in
    c.loop-again.invariant
    ∙ ap (λ (ms : List Message). add_all ms c.args.waiting.now) (ap (λ (k : ℕ). drop k items) end ∙ sym (last_of-drop c.args.count items (omega (arith, c.requires.there))))
