use Rattle.std.proofs.lemmas.List.{map-set}
use Rattle.gvt.specs.Accounts.{parcel_at}
use Rattle.gvt.specs.declared.account.Account.{Account}
use Rattle.gvt.proofs.accounts.note_answered.Goals as goal

pub returns-clause-parcels : goal.returns-clause-parcels
returns-clause-parcels c = map-set parcel_at c.args.accounts.now c.args.node _

pub returns-clause-lows : goal.returns-clause-lows
returns-clause-lows c = map-set (λ (a : Account). a.low) c.args.accounts.now c.args.node _

pub returns-clause-floors : goal.returns-clause-floors
returns-clause-floors c = map-set (λ (a : Account). a.answered) c.args.accounts.now c.args.node _
