use Rattle.std.proofs.Common.{◌≡◌, ◌<◌, List, ℕ, length, get_or, ◌∙◌, ap, sym, arith}
use Rattle.std.proofs.lemmas.List.{get_or_default}
use Rattle.node.proofs.Bounds.{least_begins, least_over, least_past, times_tightened}
use Rattle.node.specs.Times.{block_at, least_in}
use Rattle.node.proofs.times.Times.least.Goals as goal

pub loop-block-init : goal.loop-block-init
loop-block-init c = record {
  times_are = c.self.view_is;
  bounded = c.self.invariant;
  so_far = least_begins c.self.inside.times.items;
}

pub loop-block-preserved-then-index-least : goal.loop-block-preserved-then-index-least
loop-block-preserved-then-index-least c =
    let i = c.loop-block.invariant in
    let xs : List ℕ = c.loop-block.self-inside.times.items in
    let bounds : List ℕ = c.loop-block.self-inside.bounds.items in
    let size = i.bounded.size in
    let size' = c.self.invariant.size in
    let same : length xs ≡ length c.self.inside.times.items = ap length i.times_are ∙ sym (ap length c.self.view_is) in
    let len = c.len-block-end.ensures in
    let before = c.loop-block-test.true in
    let within : c.loop-block.block < length bounds = omega (arith, c.self.inside.bounds.ok) in
    let read : c.index.result.now ≡ get_or bounds c.loop-block.block 0 = c.index.ensures ∙ get_or_default bounds c.loop-block.block c.index.result.now 0 within in
    record {
      times_are = i.times_are;
      bounded = i.bounded;
      so_far = least_past xs bounds c.loop-block.block c.loop-block.least c.index.result.now i.bounded i.so_far read c.if-index-least.true;
    }

pub loop-block-preserved : goal.loop-block-preserved
loop-block-preserved c =
    let i = c.loop-block.invariant in
    let xs : List ℕ = c.loop-block.self-inside.times.items in
    let bounds : List ℕ = c.loop-block.self-inside.bounds.items in
    let block : ℕ = c.loop-block.block in
    let exact : ℕ = c.least_of-exact.result in
    let size = i.bounded.size in
    let size' = c.self.invariant.size in
    let same : length xs ≡ length c.self.inside.times.items = ap length i.times_are ∙ sym (ap length c.self.view_is) in
    let len = c.len-block-end.ensures in
    let before = c.loop-block-test.true in
    let within : block < length bounds = omega (arith, c.self.inside.bounds.ok) in
    let is : exact ≡ least_in (block_at block xs) = c.least_of-exact.ensures ∙ ap least_in (c.block_of.ensures ∙ ap (block_at block) c.deref.ensures.value) in
    record {
      times_are = i.times_are;
      bounded = times_tightened xs bounds block exact i.bounded within is;
      so_far = least_over xs block c.loop-block.least c.min-least.result exact i.so_far is c.min-least.ensures;
    }
