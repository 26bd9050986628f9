-- The row of a trace for a turn of a node, and for a commit without nodes.
use Rattle.std.specs.Prelude.{ℕ}
use Rattle.runs.specs.declared.tally.Turn.{Turn}
use Rattle.pictures.specs.declared.turns.Row.{Row}

-- the row of a turn, without what was committed before it
abbrev pub row_of : Turn → Row
row_of t = record {
  round = t.round;
  node = t.node;
  budget = t.budget;
  gvt = t.floor;
  delivered = t.delivered;
  antimessages = t.antimessages;
  handled = t.handled;
  sent = t.sent;
  reported = t.reported;
  committed = 0;
  events = 0;
}

-- The row of the commit of this number in a run without nodes that commits after each
-- `commit_every` events, of `handled` events from `time` on, as a turn of node 0 whose work is all
-- reported. Nothing is delivered or sent.
abbrev pub row_of_commit : ℕ → ℕ → ℕ → ℕ → Row
row_of_commit commit_every number time handled = record {
  round = number;
  node = 0;
  budget = commit_every;
  gvt = time;
  delivered = 0;
  antimessages = 0;
  handled = handled;
  sent = 0;
  reported = handled;
  committed = 0;
  events = 0;
}
