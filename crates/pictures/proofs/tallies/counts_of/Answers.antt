use Rattle.std.proofs.Common.{arith, get_or, take}
use Rattle.std.proofs.lemmas.List.{take_more}
use Rattle.pictures.proofs.Buckets.{counted_slice}
use Rattle.pictures.proofs.tallies.counts_of.Goals as goal

pub loop-value-preserved : goal.loop-value-preserved
loop-value-preserved c =
    let i = c.loop-value.value-index in
    let counted = counted_slice (take i c.args.values.now) c.as_mut_slice.result.now c.loop-value.counts.items c.count.new.counts (get_or c.args.values.now i 0) c.loop-value.counts.len c.as_mut_slice.ensures.value c.count.ensures.long (omega arith) c.count.ensures.counted c.loop-value.invariant in
    rw (take_more c.args.values.now i 0 (omega arith)) counted
