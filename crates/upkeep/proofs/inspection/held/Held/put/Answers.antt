use Rattle.std.proofs.Common.{rules, ◌≡◌, ◌∙◌, ◌++◌, ◌∷◌, List, ℕ, [], ap, set, arith, true}
use Rattle.upkeep.proofs.HeldSectors.{put_items, put_held}
use Rattle.upkeep.proofs.inspection.held.Held.put.Goals as goal

pub returns-clause-first : goal.returns-clause-first
returns-clause-first c = λ _.
    put_items c.self.inside.places.items c.self.inside.kept.items _ c.args.n c.len-place.result c.args.sector.now c.self.invariant.within c.in_ok-push.ensures.more (omega (arith, c.len-place.ensures, c.self.inside.kept.ok.0))
    ∙ ap (λ l. set l c.args.n c.args.sector.now) (ap (λ s. s.items) c.self.view_is)

pub returns-clause-held : goal.returns-clause-held
returns-clause-held c = λ _.
    put_held c.self.inside.places.items c.args.n c.len-place.result (omega (arith, c.len-place.ensures, c.self.inside.kept.ok.0, c.self.invariant.some))
    ∙ ap (λ l. set l c.args.n true) (ap (λ s. s.held) c.self.view_is)
