use Rattle.std.proofs.Common.{◌∙◌, ◌+◌, ◌++◌, ◌∷◌, [], List, ap, arith, refl}
use Rattle.eventkey.specs.Bag.{add}
use Rattle.eventkey.specs.Message.{Message}
use Rattle.model.proofs.Nearest.{nothing_left, started}
use Rattle.model.proofs.ticks.Ticks.put_first.Goals as goal

pub invariant_of-self-2 : goal.invariant_of-self-2
invariant_of-self-2 c =
    let t = c.self.inside in
    (started t (record { alloc = t.alloc; tick = c.push.new.self; taken = 0; bound = c.time.result + 1; scale = t.scale; later = t.later; waiting = t.waiting; pace = t.pace }) c.args.message c.self.invariant
    (nothing_left t c.self.invariant (c.self.view_is ∙ c.requires)) (c.in-Ok.ensures.items ∙ ap (λ (xs : List Message). xs ++ c.args.message ∷ []) c.clear.ensures.items) refl (omega (arith, c.time.ensures)) refl refl refl).0

pub returns : goal.returns
returns c =
    let t = c.self.inside in
    (started t (record { alloc = t.alloc; tick = c.push.new.self; taken = 0; bound = c.time.result + 1; scale = t.scale; later = t.later; waiting = t.waiting; pace = t.pace }) c.args.message c.self.invariant
    (nothing_left t c.self.invariant (c.self.view_is ∙ c.requires)) (c.in-Ok.ensures.items ∙ ap (λ (xs : List Message). xs ++ c.args.message ∷ []) c.clear.ensures.items) refl (omega (arith, c.time.ensures)) refl refl refl).1
    ∙ ap (add c.args.message) c.self.view_is
