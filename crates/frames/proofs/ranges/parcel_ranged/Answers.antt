use Rattle.std.proofs.Common.{arith}
use Rattle.frames.proofs.Counts.{parcel_fits}
use Rattle.frames.proofs.ranges.parcel_ranged.Goals as goal

pub returns : goal.returns
returns c = parcel_fits c.args.parcel.now (rw c.as_slice.ensures at c.signed_ranged.ensures) (omega arith)
