use Rattle.std.proofs.Common.{◌≡◌, ◌-◌, ap, arith}
use Rattle.pictures.specs.Tallies.{bucket_within}
use Rattle.pictures.proofs.Buckets.{bucket_here, bucket_last, halved}
use Rattle.pictures.proofs.tallies.bucket_of.Goals as goal

pub returns-then-rest-lt256-clause-bucket : goal.returns-then-rest-lt256-clause-bucket
returns-then-rest-lt256-clause-bucket c = omega (arith, c.loop-halvings.invariant, bucket_here (56 - c.loop-halvings.halvings) c.loop-halvings.rest (omega arith))

pub loop-halvings-preserved : goal.loop-halvings-preserved
loop-halvings-preserved c = halved _ c.loop-halvings.halvings c.loop-halvings.rest (omega arith) (omega arith) c.loop-halvings.invariant

pub returns-clause-bucket : goal.returns-clause-bucket
returns-clause-bucket c =
    let none : 56 - c.loop-halvings.halvings ≡ 0 = omega arith in
    omega (arith, c.loop-halvings.invariant, ap (λ n. bucket_within n c.loop-halvings.rest) none, bucket_last c.loop-halvings.rest)
