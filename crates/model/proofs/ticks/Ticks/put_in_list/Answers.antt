use Rattle.std.proofs.Common.{◌∙◌, ap, arith, refl}
use Rattle.eventkey.specs.Bag.{add}
use Rattle.model.proofs.Nearest.{joined}
use Rattle.model.proofs.ticks.Ticks.put_in_list.Goals as goal

pub invariant_of-self-then-joins : goal.invariant_of-self-then-joins
invariant_of-self-then-joins c =
    let t = c.self.inside in
    (joined t (record { alloc = t.alloc; tick = c.insert.new.tick; taken = c.insert.new.taken; bound = c.max-self-inside.result; scale = t.scale; later = t.later; waiting = t.waiting; pace = t.pace }) c.args.message c.self.invariant
    (λ more. omega (arith, c.if-joins.ensures refl more, c.max-self-inside.ensures, c.time-time.ensures)) (c.if-not-insert.ensures.some refl) (c.if-not-insert.ensures.ascending refl) (λ x. c.if-not-insert.ensures.copies x refl)
    (omega (arith, c.max-self-inside.ensures)) (omega (arith, c.max-self-inside.ensures, c.time-time.ensures)) refl refl refl).0

pub returns-then-joins-clause-some : goal.returns-then-joins-clause-some
returns-then-joins-clause-some c =
    let t = c.self.inside in
    (joined t (record { alloc = t.alloc; tick = c.insert.new.tick; taken = c.insert.new.taken; bound = c.max-self-inside.result; scale = t.scale; later = t.later; waiting = t.waiting; pace = t.pace }) c.args.message c.self.invariant
    (λ more. omega (arith, c.if-joins.ensures refl more, c.max-self-inside.ensures, c.time-time.ensures)) (c.if-not-insert.ensures.some refl) (c.if-not-insert.ensures.ascending refl) (λ x. c.if-not-insert.ensures.copies x refl)
    (omega (arith, c.max-self-inside.ensures)) (omega (arith, c.max-self-inside.ensures, c.time-time.ensures)) refl refl refl).1
    ∙ ap (add c.args.message) c.self.view_is
