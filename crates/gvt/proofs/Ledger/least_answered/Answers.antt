use Rattle.std.proofs.Common.{refl, ap, ◌∙◌, List}
use Rattle.std.proofs.lemmas.List.{take_all}
use Rattle.gvt.proofs.Floors.{least_answered_more}
use Rattle.gvt.specs.Accounts.{floors_in}
use Rattle.gvt.specs.Ledger.{Ledger, least_floor}
use Rattle.gvt.specs.declared.account.Account.{Account}
use Rattle.gvt.proofs.Ledger.least_answered.Goals as goal

pub loop-account-init : goal.loop-account-init
loop-account-init c = refl

pub loop-account-preserved : goal.loop-account-preserved
loop-account-preserved c =
    least_answered_more c.self.inside.end c.deref-account-items.result.now c.loop-account.account-index c.account-item.result c.loop-account.least c.min-least.result
    c.loop-account-test.true c.account-item.is c.loop-account.invariant c.min-least.ensures

pub returns : goal.returns
returns c =
    let all = c.deref-account-items.result.now in
    c.loop-account.invariant
    ∙ (ap (λ (accounts : List Account). least_floor c.self.inside.end (floors_in accounts))
    (take_all c.loop-account.account-index all c.loop-account-test.false ∙ c.deref-account-items.ensures.value)
    ∙ ap (λ (ledger : Ledger). least_floor ledger.end ledger.floors) c.self.view_is)
