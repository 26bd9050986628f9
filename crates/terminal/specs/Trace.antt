-- The trace of a run: how a row gets what was committed before its turn.
use Rattle.std.specs.Prelude.{min, ℕ, ◌+◌, ◌-◌, ◌^◌}
use Rattle.pictures.specs.declared.turns.Row.{Row}

-- the row of a turn, after `rounds` rounds of earlier runs, before which `events` events were
-- committed up to `time`
abbrev pub row_behind : Row → ℕ → ℕ → ℕ → Row
row_behind turn rounds time events = record {
  round = min (turn.round + rounds) (2 ^ 64 - 1);
  node = turn.node;
  budget = turn.budget;
  gvt = turn.gvt;
  delivered = turn.delivered;
  antimessages = turn.antimessages;
  handled = turn.handled;
  sent = turn.sent;
  reported = turn.reported;
  committed = time;
  events = events;
}
