use Rattle.std.proofs.Common.{◌≡◌, ◌-◌, ℕ, ap, arith, get_or, length, rules, subst, ◌∙◌}
use Rattle.std.specs.Prelude.{nat_lt}
use Rattle.queues.proofs.Halves.{holds_is, holds_not}
use Rattle.queues.proofs.Places.{after-le}
use Rattle.queues.proofs.done.holds.Goals as goal

pub overflow_sub-kept : goal.overflow_sub-kept
overflow_sub-kept c = omega (arith, after-le c.args.message.now c.args.ascending.now.items)

pub returns-then-kept-gt0 : goal.returns-then-kept-gt0
returns-then-kept-gt0 c =
    let m = c.args.message.now in
    let xs = c.args.ascending.now.items in
    let n = c.count_after.result in
    let e = c.index.result.now in
    let long : c.len.result ≡ length xs = search rules in
    let some = c.if-kept-gt0.true in
    c.is_same.ensures.same ∙ holds_is m xs n e c.requires c.count_after.ensures (omega arith) (subst (λ (k : ℕ). e ≡ get_or xs (k - n - 1) e) long c.index.ensures)

pub returns-else-kept-gt0 : goal.returns-else-kept-gt0
returns-else-kept-gt0 c =
    let m = c.args.message.now in
    let xs = c.args.ascending.now.items in
    let long : c.len.result ≡ length xs = search rules in
    let none = c.if-kept-gt0.false in
    ap (λ (k : ℕ). nat_lt 0 (k - c.count_after.result)) long ∙ holds_not m xs c.count_after.result c.requires c.count_after.ensures (omega arith)
