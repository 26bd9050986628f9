use Rattle.std.proofs.Common.{◌≡◌, ◌*◌, arith}
use Rattle.pictures.proofs.Buckets.{moments_more}
use Rattle.pictures.proofs.tallies.Moments.add.Goals as goal

pub returns : goal.returns
returns c = λ values is.
    let square : c.from-wide.result * c.from-wide.result ≡ c.args.value * c.args.value = cc in
    moments_more values c.args.value c.args.self.now _ is (omega arith) (omega arith) (omega (arith, square)) (omega arith) (omega arith)
