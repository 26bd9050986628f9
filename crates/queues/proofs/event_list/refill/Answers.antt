use Rattle.std.proofs.Common.{◌≡◌, ◌∙◌, ◌∷◌, [], ◌++◌, List, ap, ap₂, arith, length, subst, sym}
use Rattle.eventkey.specs.Bag.{IsAscending}
use Rattle.eventkey.specs.Message.{Message}
use Rattle.queues.proofs.Splits.{none_at_hand, nothing_first, refilled}
use Rattle.queues.specs.Split.{both}
use Rattle.queues.proofs.event_list.refill.Goals as goal

pub returns-in-Some-clause-same : goal.returns-in-Some-clause-same
returns-in-Some-clause-same c =
    let none : c.args.near.now.items ≡ [] = none_at_hand c.args.near.now.items (omega arith) in
    let pushed = rw c.unwrap.ensures at c.push.ensures.items in
    ap₂ both (pushed ∙ ap (λ (xs : List Message). xs ++ c.in-Some.least ∷ []) none) c.remove.ensures.removed
    ∙ refilled c.args.near.now.items c.args.far.now c.in-Some.least none (sym c.in-Some.ensures.least)

pub returns-in-Some-clause-split : goal.returns-in-Some-clause-split
returns-in-Some-clause-split c =
    let none : c.args.near.now.items ≡ [] = none_at_hand c.args.near.now.items (omega arith) in
    let pushed = rw c.unwrap.ensures at c.push.ensures.items in
    let is : c.push.new.self.items ≡ c.in-Some.least ∷ [] = pushed ∙ ap (λ (xs : List Message). xs ++ c.in-Some.least ∷ []) none in
    let same = ap₂ both is c.remove.ensures.removed ∙ refilled c.args.near.now.items c.args.far.now c.in-Some.least none (sym c.in-Some.ensures.least) in
    record { ascending = subst IsAscending (sym same) c.requires.ascending; some = λ _. omega (arith, ap length is); few = omega (arith, ap length is) }

pub returns-in_default-clause-split : goal.returns-in_default-clause-split
returns-in_default-clause-split c =
    let none = nothing_first c.args.far.now (sym c.first.ensures.least ∙ c.in_default.is) in
    record { ascending = c.requires.ascending; some = λ l. absurd (omega arith); few = c.requires.few }
