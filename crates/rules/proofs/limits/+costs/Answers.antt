use Rattle.std.proofs.Common.{◌≡◌, ◌+◌, ◌-◌, ◌*◌, ◌^◌, ap, arith, min}
use Rattle.rules.specs.Costs.{cost, cost_of_all, step_cost}
use Rattle.rules.proofs.Rows.{choice-cost, repetition-cost, repetition_until-cost, min-times}
use Rattle.rules.proofs.limits.+costs.Goals as goal

pub statement_cost-returns-in-If : goal.statement_cost-returns-in-If
statement_cost-returns-in-If t c =
    let cost = choice-cost c.args.limit _ _ _ _ c.in-If.is _ _ c.deref.ensures.value c.deref-in-If.ensures.value in
    omega arith

pub statement_cost-returns-in-Repeat : goal.statement_cost-returns-in-Repeat
statement_cost-returns-in-Repeat t c =
    let cost = repetition-cost c.args.limit _ _ _ _ c.in-Repeat.is _ c.deref-in-Repeat.ensures.value in
    let turn : c.saturating_add-turn.result ≡ min (step_cost c.args.limit + cost_of_all c.args.limit c.deref-in-Repeat.result.now) (2 ^ 64 - 1) = omega arith in
    let turns = min-times c.from.result _ _ _ turn in
    let same = ap (λ n. n * (step_cost c.args.limit + cost_of_all c.args.limit c.deref-in-Repeat.result.now)) c.from.ensures in
    omega arith

pub statement_cost-returns-in-RepeatUntil : goal.statement_cost-returns-in-RepeatUntil
statement_cost-returns-in-RepeatUntil t c =
    let each = step_cost c.args.limit + cost c.args.limit c.in-RepeatUntil.e + cost_of_all c.args.limit c.deref-in-RepeatUntil.result.now in
    let cost = repetition_until-cost c.args.limit _ _ _ _ _ c.in-RepeatUntil.is _ c.deref-in-RepeatUntil.ensures.value in
    let turn : c.saturating_add-turn-in-RepeatUntil.result ≡ min each (2 ^ 64 - 1) = omega arith in
    let turns = min-times c.from-in-RepeatUntil.result _ _ _ turn in
    let same = ap (λ n. n * each) c.from-in-RepeatUntil.ensures in
    omega arith
