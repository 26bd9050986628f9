use Rattle.std.proofs.Common.{drop}
use Rattle.std.specs.List.{AllByRecursion as Every}
use Rattle.eventkey.specs.Message.{IsRanged}
use Rattle.eventkey.specs.declared.Signed.{Signed}
use Rattle.frames.proofs.ranges.signed_ranged.Given as goal

abbrev pub invariant-loop-signed : goal.invariant-loop-signed
invariant-loop-signed l = Every (λ (s : Signed). IsRanged s.message) (drop l.signed-index l.list) → Every (λ (s : Signed). IsRanged s.message) l.list
