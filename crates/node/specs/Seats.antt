-- The processes of a node as their own crate shows them, and the summary that the node keeps of
-- each.
use Rattle.std.specs.Prelude.{ℕ, Bool, false, List, Option, Some, None, map, nat_lt, ◌++◌}
use Rattle.process.specs.View.{ProcessView, loaded}
use Rattle.queues.specs.Queue.{first_before, first_time}
use Rattle.queues.specs.Record.{first_handled}
use Rattle.node.specs.declared.Part.{Part}
use Rattle.node.specs.declared.summary.Summary.{Summary}

-- the summary of a process: its next message, the least waiting time, and the time of its first
-- handling
abbrev pub represented_of : ℕ → ProcessView → Summary
represented_of end q = record {
  next = first_before end q.process.waiting;
  low = first_time (q.process.waiting ++ q.process.antis);
  oldest = first_handled q.process.done;
}

abbrev pub standings_of : ℕ → List ProcessView → List Summary
standings_of end seats = map (λ (q : ProcessView). represented_of end q) seats

-- there is a handling of this time, and it is below the floor
abbrev pub is_due : ℕ → Option ℕ → Bool
is_due floor None = false
is_due floor (Some time) = nat_lt time floor

-- the process loaded from a part
abbrev pub seat_of : ℕ → Part → ProcessView
seat_of floor p = record {
  lp = p.lp;
  floor = floor;
  spent = false;
  process = loaded p.words
      p.number p.pending;
}
