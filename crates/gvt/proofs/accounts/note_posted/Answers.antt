use Rattle.std.proofs.Common.{Some, refl, ap, ◌∙◌, set}
use Rattle.std.proofs.Math.Seq.{map-set_same}
use Rattle.std.proofs.lemmas.List.{map-set}
use Rattle.node.specs.declared.Parcel.{Parcel}
use Rattle.gvt.specs.Accounts.{parcel_at, parcels_in}
use Rattle.gvt.specs.declared.account.Account.{Account}
use Rattle.gvt.proofs.accounts.note_posted.Goals as goal

pub returns-clause-parcels : goal.returns-clause-parcels
returns-clause-parcels c =
    map-set parcel_at c.args.accounts.now c.args.node _ ∙ ap (λ (parcel : Parcel). set (parcels_in c.args.accounts.now) c.args.node (Some parcel)) c.kept.ensures

pub returns-clause-lows : goal.returns-clause-lows
returns-clause-lows c = map-set_same (λ (a : Account). a.low) c.args.accounts.now c.args.node _ c.index-accounts-node.result refl

pub returns-clause-floors : goal.returns-clause-floors
returns-clause-floors c = map-set_same (λ (a : Account). a.answered) c.args.accounts.now c.args.node _ c.index-accounts-node.result refl
