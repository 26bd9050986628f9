use Rattle.std.proofs.Common.{◌≡◌, length, rules, of_calls, arith, not, false, refl, sym, ◌∙◌}
use Rattle.std.proofs.lemmas.Fn.{always_returns_same}
use Rattle.eventkey.specs.Message.{Message, is_before}
use Rattle.queues.proofs.Halves.{after_is, kept_parted}
use Rattle.queues.proofs.Places.{none_after}
use Rattle.queues.proofs.done.count_after.Goals as goal

pub returns : goal.returns
returns c =
    let m = c.args.message.now in
    let xs = c.args.ascending.now.items in
    let long : c.args.ascending.now.len ≡ length xs = search rules in
    let bound = c.partition_point-kept.ensures.bound in
    let point = c.partition_point-kept.ensures.partitioned (λ (y : Message). not (is_before m y)) (always_returns_same _ _ _ (λ a r f k. search (rules, of_calls))) (kept_parted m xs c.requires) in
    omega (arith, after_is m xs c.partition_point-kept.result (omega arith) point.0 point.1)

pub returns-then-not-is_before : goal.returns-then-not-is_before
returns-then-not-is_before c =
    let m = c.args.message.now in
    let xs = c.args.ascending.now.items in
    let long : c.args.ascending.now.len ≡ length xs = search rules in
    let later : is_before m c.in-Some.last.now ≡ false = sym c.is_before.ensures ∙ c.if-not-is_before.true in
    none_after m c.in-Some.last.now xs c.args.ascending.now.len long c.requires (c.in-Some.ensures.variant.0 refl) c.in-Some.ensures.lookup later
