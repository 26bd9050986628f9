use Rattle.std.proofs.Common.{arith, refl}
use Rattle.pictures.proofs.Buckets.{total-next, total-whole}
use Rattle.pictures.proofs.tallies.bucket_at.Goals as goal

pub returns-then-left-count-clause-found : goal.returns-then-left-count-clause-found
returns-then-left-count-clause-found c = λ some.
    let next = total-next c.args.counts.now c.loop-bucket.bucket _ (omega arith) refl in
    record { before = omega arith; reached = omega (arith, next) }

pub loop-bucket-preserved : goal.loop-bucket-preserved
loop-bucket-preserved c =
    let next = total-next c.args.counts.now c.loop-bucket.bucket _ (omega arith) refl in
    record { passed = omega (arith, next); some = λ some. omega arith }

pub returns-clause-missing : goal.returns-clause-missing
returns-clause-missing c = λ none some. omega (arith, total-whole c.args.counts.now c.loop-bucket.bucket (omega arith), c.loop-bucket.invariant.some some)
