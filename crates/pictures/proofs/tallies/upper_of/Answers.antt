use Rattle.std.proofs.Common.{arith}
use Rattle.std.proofs.lemmas.Nat.{shl_whole}
use Rattle.pictures.proofs.Buckets.{upper_fits}
use Rattle.pictures.proofs.tallies.upper_of.Goals as goal

pub overflow_cast-result-2 : goal.overflow_cast-result-2
overflow_cast-result-2 c =
    let whole = shl_whole c.from.result 9 c.min-shift.result 128 (omega arith) (omega arith) in
    omega (arith, whole, upper_fits c.from.result c.min-shift.result (omega arith) (omega arith))
