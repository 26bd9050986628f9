-- Inside: the value of a trace that contracts see.
use Rattle.std.specs.List.{AllByRecursion as Every}
use Rattle.std.specs.Prelude.{ℕ, ◌≡◌, ◌≤◌, ◌^◌, List, [], get_or, length, map}
use Rattle.std.specs.declared.vec.Vec.{Vec}
use Rattle.std.specs.declared.alloc.Global.{Global}
use Rattle.model.specs.Meaning.{IsAddressed, most_lps}
use Rattle.pictures.specs.Run.{Run, sending_times}
use Rattle.pictures.specs.declared.traced.Trace.TheInside.{Inside}

abbrev pub run_of : Inside → Run
run_of t = record {
  time = t.time;
  first = t.first.items;
  events = t.events.items;
  sends = t.sends.items;
  pending = t.pending.items;
}

abbrev pub lists : List (Vec ℕ Global) → List (List ℕ)
lists rows = map (λ (row : Vec ℕ Global). row.items) rows

-- the ranges of a run: its time, the number of its processes, and its messages
pub record IsWholeRun (r : Run) : Type 0 where
  pub time : r.time ≤ 2 ^ 40
  pub few : length r.first ≤ most_lps
  pub sends : length r.sends ≡ length r.events
  pub events : Every (IsAddressed (length r.first)) r.events
  pub pending : Every (IsAddressed (length r.first)) r.pending

pub record IsTrace (t : Inside) : Type 0 where
  pub whole : IsWholeRun (run_of t)
  pub times : (lp : ℕ) → get_or (lists t.times.items) lp [] ≡ sending_times (run_of t) lp
