use Rattle.std.proofs.Common.{◌≡◌, ◌+◌, ◌-◌, ◌≤◌, ◌<◌, ℕ, true, false, ap, sym, ◌∙◌, rules, arith}
use Rattle.std.proofs.Math.Nat.{mul-le-mul_right}
use Rattle.rules.specs.Costs.{cost_of_all, draws as draws_of}
use Rattle.rules.specs.Effects.{Progress, after_all, asked, at_turn, is_ended, turns_until}
use Rattle.rules.specs.Values.{is_true, value_of}
use Rattle.rules.specs.declared.limits.Limit.TheVariants.{Draws, Sends}
use Rattle.rules.proofs.Rows.{is-not_zero, is-zero, met-cost, unmet-cost, after-met, after-unmet, after-until, turn-cost, turns-cost, after-turns, until-cost, until-ended, until-more, until-sends}
use Rattle.rules.specs.declared.tree.Statement.TheViews.{the_lemmas}
use Rattle.rules.proofs.evaluate.+run.Goals as goal

add-one : (k : ℕ) {n : ℕ} → k < n → k + 1 ≤ n
add-one k lt = omega arith

pub run-run_all-requires : goal.run-run_all-requires
run-run_all-requires t c =
    let cost = met-cost _ _ _ _ c.in-If.is c.deref.result.now in
    let draws = cost Draws c.deref.ensures.value in
    let sends = cost Sends c.deref.ensures.value in
    (search (rules, the_lemmas), (c.requires.processes, (omega arith, (omega arith, c.requires.room))))

pub run-run_all-requires-else-value-ne0 : goal.run-run_all-requires-else-value-ne0
run-run_all-requires-else-value-ne0 t c =
    let cost = unmet-cost _ _ _ _ c.in-If.is c.deref-else-value-ne0.result.now in
    let draws = cost Draws c.deref-else-value-ne0.ensures.value in
    let sends = cost Sends c.deref-else-value-ne0.ensures.value in
    (search (rules, the_lemmas), (c.requires.processes, (omega arith, (omega arith, c.requires.room))))

pub run-run_all-requires-in-turns : goal.run-run_all-requires-in-turns
run-run_all-requires-in-turns t c =
    let cost = turn-cost _ _ _ _ c.in-Repeat.is c.turns.k in
    let draws = cost Draws _ c.deref-in-turns.ensures.value c.turns-test.true in
    let sends = cost Sends _ c.deref-in-turns.ensures.value c.turns-test.true in
    (search (rules, the_lemmas), (omega arith, (omega arith, (omega arith, omega arith))))

pub run-returns-then-value-ne0-clause-progress : goal.run-returns-then-value-ne0-clause-progress
run-returns-then-value-ne0-clause-progress t c =
    after-met _ _ _ _ c.in-If.is _ _ _ _ _ _ c.value.ensures.value c.value.ensures.drawn c.run_all.ensures.progress c.deref.ensures.value c.if-value-ne0.true

pub run-returns-then-value-ne0-clause-most_draws : goal.run-returns-then-value-ne0-clause-most_draws
run-returns-then-value-ne0-clause-most_draws t c =
    let draws = met-cost _ _ _ _ c.in-If.is _ Draws c.deref.ensures.value in omega arith

pub run-returns-then-value-ne0-clause-most_sends : goal.run-returns-then-value-ne0-clause-most_sends
run-returns-then-value-ne0-clause-most_sends t c =
    let sends = met-cost _ _ _ _ c.in-If.is _ Sends c.deref.ensures.value in omega arith

pub run-returns-else-value-ne0-clause-progress : goal.run-returns-else-value-ne0-clause-progress
run-returns-else-value-ne0-clause-progress t c =
    after-unmet _ _ _ _ c.in-If.is _ _ _ _ _ _ c.value.ensures.value c.value.ensures.drawn c.run_all-else-value-ne0.ensures.progress c.deref-else-value-ne0.ensures.value c.if-value-ne0.false

pub run-returns-else-value-ne0-clause-most_draws : goal.run-returns-else-value-ne0-clause-most_draws
run-returns-else-value-ne0-clause-most_draws t c =
    let draws = unmet-cost _ _ _ _ c.in-If.is _ Draws c.deref-else-value-ne0.ensures.value in omega arith

pub run-returns-else-value-ne0-clause-most_sends : goal.run-returns-else-value-ne0-clause-most_sends
run-returns-else-value-ne0-clause-most_sends t c =
    let sends = unmet-cost _ _ _ _ c.in-If.is _ Sends c.deref-else-value-ne0.ensures.value in omega arith

pub run-returns-after-turns-clause-progress : goal.run-returns-after-turns-clause-progress
run-returns-after-turns-clause-progress t c =
    after-turns _ _ _ _ c.in-Repeat.is c.turns.k _ _ _ (omega arith) c.turns.invariant.progress

pub run-returns-after-turns-clause-most_draws : goal.run-returns-after-turns-clause-most_draws
run-returns-after-turns-clause-most_draws t c =
    let draws = turns-cost _ _ _ _ c.in-Repeat.is c.turns.k Draws (omega arith) in omega arith

pub run-returns-after-turns-clause-most_sends : goal.run-returns-after-turns-clause-most_sends
run-returns-after-turns-clause-most_sends t c =
    let sends = turns-cost _ _ _ _ c.in-Repeat.is c.turns.k Sends (omega arith) in omega arith

pub run-repeat_until-requires : goal.run-repeat_until-requires
run-repeat_until-requires t c =
    let cost = until-cost _ _ _ _ _ c.in-RepeatUntil.is _ c.deref-in-RepeatUntil.ensures.value Draws in
    let sends = until-sends _ _ _ _ _ c.in-RepeatUntil.is _ c.deref-in-RepeatUntil.ensures.value Sends in
    (search (rules, the_lemmas), (c.requires.processes, (omega arith, (omega arith, c.requires.room))))

pub run-returns-in-RepeatUntil-clause-progress : goal.run-returns-in-RepeatUntil-clause-progress
run-returns-in-RepeatUntil-clause-progress t c =
    after-until _ _ _ _ _ c.in-RepeatUntil.is _ c.deref-in-RepeatUntil.ensures.value _ _ _ c.repeat_until.ensures.progress

pub run-returns-in-RepeatUntil-clause-most_draws : goal.run-returns-in-RepeatUntil-clause-most_draws
run-returns-in-RepeatUntil-clause-most_draws t c =
    let draws = until-cost _ _ _ _ _ c.in-RepeatUntil.is _ c.deref-in-RepeatUntil.ensures.value Draws in omega arith

pub run-returns-in-RepeatUntil-clause-most_sends : goal.run-returns-in-RepeatUntil-clause-most_sends
run-returns-in-RepeatUntil-clause-most_sends t c =
    let sends = until-sends _ _ _ _ _ c.in-RepeatUntil.is _ c.deref-in-RepeatUntil.ensures.value Sends in omega arith

pub repeat_until-run_all-requires : goal.repeat_until-run_all-requires
repeat_until-run_all-requires t c =
    let draws = mul-le-mul_right (draws_of c.args.e.now + cost_of_all Draws c.args.body.now) (add-one c.turns.k c.turns-test.true) in
    let sends = mul-le-mul_right (cost_of_all Sends c.args.body.now) (add-one c.turns.k c.turns-test.true) in
    (search (rules, the_lemmas), (omega arith, (omega arith, (omega arith, omega arith))))

pub repeat_until-returns-then-value-ne0-clause-progress : goal.repeat_until-returns-then-value-ne0-clause-progress
repeat_until-returns-then-value-ne0-clause-progress t c =
    let made : Progress = record { context = c.turns.context; drawn = c.turns.drawn; sends = c.turns.sends.items } in
    let value : c.value.result ≡ value_of c.args.tables.now (at_turn c.args.place c.turns.k made).context c.args.e.now c.turns.drawn = search rules in
    let stop : is_ended c.args.tables.now c.args.e.now c.args.place c.turns.k made ≡ true = ap is_true (sym value) ∙ is-not_zero c.value.result c.if-value-ne0.true in
    let here : _ ≡ asked c.args.e.now c.args.place c.turns.k made = search rules in
    here ∙ sym (until-ended (is_ended c.args.tables.now c.args.e.now c.args.place) (asked c.args.e.now c.args.place) (after_all c.args.tables.now c.args.body.now) c.args.count c.turns.k made c.turns-test.true stop) ∙ c.turns.invariant.progress

pub repeat_until-turns-preserved : goal.repeat_until-turns-preserved
repeat_until-turns-preserved t c =
    let made : Progress = record { context = c.turns.context; drawn = c.turns.drawn; sends = c.turns.sends.items } in
    let ended = is_ended c.args.tables.now c.args.e.now c.args.place in
    let before = asked c.args.e.now c.args.place in
    let turn = after_all c.args.tables.now c.args.body.now in
    let value : c.value.result ≡ value_of c.args.tables.now (at_turn c.args.place c.turns.k made).context c.args.e.now c.turns.drawn = search rules in
    let go : ended c.turns.k made ≡ false = ap is_true (sym value) ∙ is-zero c.value.result c.if-value-ne0.false in
    let ran : record { context = c.run_all.new.context; drawn = c.run_all.new.drawn; sends = c.run_all.new.sends.items } ≡ turn (before c.turns.k made) = search rules in
    record {
      progress = ap (turns_until ended before turn (c.args.count - (c.turns.k + 1)) (c.turns.k + 1)) ran
          ∙ until-more ended before turn c.args.count c.turns.k made c.turns-test.true go ∙ c.turns.invariant.progress;
      same = search rules;
      draws = omega arith;
      sends = omega arith;
      room = search rules;
    }
