use Rattle.std.proofs.Common.{refl, ap, ◌∙◌, ◌∷◌, [], Option, ℕ}
use Rattle.std.proofs.lemmas.List.{take_all}
use Rattle.std.specs.List.{fold}
use Rattle.gvt.proofs.Floors.{floor_is, floor_more}
use Rattle.gvt.specs.Accounts.{with_node}
use Rattle.gvt.specs.Ledger.{floor_of, least_low}
use Rattle.gvt.proofs.Ledger.floor.Goals as goal

pub loop-account-init : goal.loop-account-init
loop-account-init c = refl

pub loop-account-preserved : goal.loop-account-preserved
loop-account-preserved c =
    floor_more c.lowered-floor.result c.deref-account-items.result.now c.loop-account.account-index c.account-item.result c.loop-account.floor c.lowers-floor.result
    c.loop-account-test.true c.account-item.is c.loop-account.invariant c.lowers-floor.ensures

pub returns : goal.returns
returns c =
    let all = c.deref-account-items.result.now in
    let kept = c.self.inside in
    c.loop-account.invariant
    ∙ (ap (fold with_node c.lowered-floor.result) (take_all c.loop-account.account-index all c.loop-account-test.false ∙ c.deref-account-items.ensures.value)
    ∙ (ap (λ (t : ℕ). fold with_node t kept.accounts.items) (c.lowered-floor.ensures ∙ ap (λ (low : Option ℕ). least_low kept.end (low ∷ [])) c.least.ensures)
    ∙ (floor_is kept.end kept.transit kept.accounts.items ∙ ap floor_of c.self.view_is)))
