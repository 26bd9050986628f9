use Rattle.std.proofs.Common.{◌≡◌, take}
use Rattle.std.specs.List.{fold}
use Rattle.gvt.specs.Accounts.{with_node}
use Rattle.gvt.proofs.Ledger.floor.Given as goal

abbrev pub invariant-loop-account : goal.invariant-loop-account
invariant-loop-account l = l.floor ≡ fold with_node l.initial.floor (take l.account-index l.account-items)
