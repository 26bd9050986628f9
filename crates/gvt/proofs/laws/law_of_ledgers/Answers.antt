use Rattle.gvt.proofs.Ledgers.{ledgers_allow, ledgers_follow, ledger_floor_is_gvt}
use Rattle.gvt.proofs.laws.law_of_ledgers.Goals as goal

pub returns-clause-gvt : goal.returns-clause-gvt
returns-clause-gvt c = ledger_floor_is_gvt

pub returns-clause-follow : goal.returns-clause-follow
returns-clause-follow c = ledgers_follow

pub returns-clause-allow : goal.returns-clause-allow
returns-clause-allow c = ledgers_allow
