use Rattle.std.proofs.Common.{◌≡◌, ◌<◌, ◌+◌, ◌∙◌, List, ℕ, length, ap, arith}
use Rattle.disk.proofs.Keeping.{all_of, one_more}
use Rattle.disk.proofs.kept.Sectors.keep.Goals as goal

pub loop-self-preserved : goal.loop-self-preserved
loop-self-preserved c =
    let so = c.loop-self.invariant in
    let kept : List (List ℕ) = c.loop-self.self-inside.kept.items in
    let count : ℕ = c.loop-self.self-inside.count in
    let left : length kept < count = omega (arith, so.there, c.loop-self-test.true, c.len.ensures, c.loop-self.self-inside.kept.ok.0) in
    let size : length c.push_reserved.new.self.items ≡ length kept + 1 = omega (arith, c.push_reserved.ensures.len, c.push_reserved.new.self.ok.0, c.loop-self.self-inside.kept.ok.0) in
    record {
      same = ap (all_of count) c.push_reserved.ensures.items ∙ one_more count kept left ∙ so.same;
      more = omega (arith, so.more, size);
      within = omega (arith, left, size);
      room = omega (arith, so.room, c.push_reserved.ensures.capacity);
      there = so.there;
    }
