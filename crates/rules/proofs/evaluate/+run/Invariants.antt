use Rattle.std.proofs.Common.{◌≡◌, ◌≤◌, ◌+◌, ◌-◌, ◌*◌, drop, length}
use Rattle.rules.specs.Costs.{cost_of_all, draws}
use Rattle.rules.specs.Effects.{Progress, after_all, asked, at_turn, is_ended, turns, turns_until}
use Rattle.rules.specs.declared.limits.Limit.TheVariants.{Draws, Sends}
use Rattle.rules.proofs.evaluate.+run.Given as goal

abbrev pub invariant-run-turns : goal.invariant-run-turns
invariant-run-turns l =
    let made : Progress = record { context = l.context; drawn = l.drawn; sends = l.sends.items } in
    let first : Progress = record { context = l.initial.context; drawn = l.initial.drawn; sends = l.initial.sends.items } in
    record {
      progress : made ≡ turns l.k (λ k p. after_all l.tables l.body.items (at_turn l.place k p)) first;
      same : l.context.processes ≡ l.initial.context.processes;
      draws : l.drawn ≤ l.initial.drawn + l.k * cost_of_all Draws l.body.items;
      sends : length l.sends.items ≤ length l.initial.sends.items + l.k * cost_of_all Sends l.body.items;
      room : l.sends.capacity ≡ l.initial.sends.capacity;
    }

abbrev pub invariant-repeat_until-turns : goal.invariant-repeat_until-turns
invariant-repeat_until-turns l =
    let made : Progress = record { context = l.context; drawn = l.drawn; sends = l.sends.items } in
    let first : Progress = record { context = l.initial.context; drawn = l.initial.drawn; sends = l.initial.sends.items } in
    let ended = is_ended l.tables l.e l.place in
    let before = asked l.e l.place in
    let turn = after_all l.tables l.body in
    record {
      progress : turns_until ended before turn (l.count - l.k) l.k made ≡ turns_until ended before turn l.count 0 first;
      same : l.context.processes ≡ l.initial.context.processes;
      draws : l.drawn ≤ l.initial.drawn + l.k * (draws l.e + cost_of_all Draws l.body);
      sends : length l.sends.items ≤ length l.initial.sends.items + l.k * cost_of_all Sends l.body;
      room : l.sends.capacity ≡ l.initial.sends.capacity;
    }

abbrev pub invariant-run_all-statements : goal.invariant-run_all-statements
invariant-run_all-statements l =
    let made : Progress = record { context = l.context; drawn = l.drawn; sends = l.sends.items } in
    let first : Progress = record { context = l.initial.context; drawn = l.initial.drawn; sends = l.initial.sends.items } in
    let left = drop l.statement-index l.block in
    record {
      progress : after_all l.tables left made ≡ after_all l.tables l.block first;
      same : l.context.processes ≡ l.initial.context.processes;
      draws : l.drawn + cost_of_all Draws left ≤ l.initial.drawn + cost_of_all Draws l.block;
      sends : length l.sends.items + cost_of_all Sends left ≤ length l.initial.sends.items + cost_of_all Sends l.block;
      room : l.sends.capacity ≡ l.initial.sends.capacity;
    }
