use Rattle.std.proofs.Common.{arith, subst}
use Rattle.std.proofs.lemmas.Bool.Decides.{nat_tests}
use Rattle.pictures.specs.Tallies.{AreCounts}
use Rattle.pictures.proofs.Buckets.{counted_slice, ranking_counted, ranking_rounded}
use Rattle.pictures.proofs.tallies.Ranking.add.Goals as goal

pub returns-then-not-is_empty : goal.returns-then-not-is_empty
returns-then-not-is_empty c = λ values is.
    ranking_counted values c.args.value c.args.self.now _ is (grind (arith, nat_tests))
    (counted_slice values c.as_mut_slice.result.now c.args.self.now.counts.items c.count.new.counts c.args.value c.args.self.now.counts.len c.as_mut_slice.ensures.value c.count.ensures.long (omega arith) c.count.ensures.counted)

pub returns : goal.returns
returns c = λ values is.
    ranking_rounded values c.args.value c.args.self.now _ c.in_ok-counts.counts.items is (grind (arith, nat_tests)) (omega arith) (subst (λ vs. AreCounts vs c.in_ok-counts.counts.items) c.as_slice.ensures.value c.in_ok-counts.ensures)
    (λ vs. counted_slice vs c.as_mut_slice-2.result.now c.in_ok-counts.counts.items c.count-2.new.counts c.args.value c.in_ok-counts.counts.len c.as_mut_slice-2.ensures.value c.count-2.ensures.long (omega arith) c.count-2.ensures.counted)
