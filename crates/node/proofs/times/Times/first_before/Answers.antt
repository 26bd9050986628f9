use Rattle.std.proofs.Common.{◌≡◌, ◌/◌, ◌<◌, List, ℕ, length, ◌∙◌, ap, subst, arith}
use Rattle.node.proofs.Bounds.{late_on, times_tightened}
use Rattle.node.specs.Times.{AreFrom, block_at, least_in}
use Rattle.node.proofs.times.Times.first_before.Goals as goal

pub loop-place-preserved-else-found-end : goal.loop-place-preserved-else-found-end
loop-place-preserved-else-found-end c =
    let i = c.loop-place.invariant in
    let xs : List ℕ = c.loop-place.self-inside.times.items in
    let bounds : List ℕ = c.loop-place.self-inside.bounds.items in
    let place : ℕ = c.loop-place.place in
    let block : ℕ = place / 32 in
    let exact : ℕ = c.least_of-exact.result in
    let size = i.bounded.size in
    let before = c.loop-place-test.true in
    let len = c.len.ensures in
    let there : place < length xs = omega (arith, c.loop-place.self-inside.times.ok) in
    let within : block < length bounds = omega arith in
    let is : exact ≡ least_in (block_at block xs) = c.least_of-exact.ensures ∙ ap least_in (c.block_of.ensures ∙ ap (block_at block) c.deref-then-index-limit.ensures.value) in
    let late : AreFrom c.args.limit xs place c.first_among-found.result = subst (λ (ys : List ℕ). AreFrom c.args.limit ys place c.first_among-found.result) c.deref.ensures.value c.first_among-found.ensures.none in
    let gone = c.if-found-end.false in
    let end = c.min-end.ensures in
    let len' = c.len-in-loop-place.ensures in
    record {
      times_are = i.times_are;
      bounded = times_tightened xs bounds block exact i.bounded within is;
      after = omega (arith, i.after, c.loop-place.self-inside.times.ok);
      within = omega (arith, c.loop-place.self-inside.times.ok);
      late = late_on c.args.limit xs c.args.from place c.min-end.result i.late (λ k a b. late k a (omega arith));
    }
