use Rattle.std.proofs.Common.{◌≡◌, take}
use Rattle.gvt.specs.Accounts.{floors_in}
use Rattle.gvt.specs.Ledger.{least_floor}
use Rattle.gvt.proofs.Ledger.least_answered.Given as goal

abbrev pub invariant-loop-account : goal.invariant-loop-account
invariant-loop-account l = l.least ≡ least_floor l.initial.least (floors_in (take l.account-index l.account-items))
