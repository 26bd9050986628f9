use Rattle.std.proofs.Common.{◌≡◌, ◌<◌, ◌≤◌, ◌-◌, get_or, length, true}
use Rattle.std.specs.List.{AllByRecursion as Every}
use Rattle.model.specs.Meaning.{Meaning}
use Rattle.process.specs.View.{IsDoneInRange}
use Rattle.node.proofs.Collects.{IsCollected, IsQuiet}
use Rattle.node.specs.Roster.{IsModelled, IsStaffed, at_floor, place_of, processes_of}
use Rattle.node.specs.Seats.{is_due}
use Rattle.node.specs.Tournament.{absent}
use Rattle.node.proofs.roster.Roster.collect.Given as goal

abbrev pub invariant-loop-place : goal.invariant-loop-place
invariant-loop-place l = record {
  staffed : IsStaffed (at_floor l.floor (place_of l.self)) l.self.processes.items l.self.summaries;
  modelled : (m : Meaning) → Every (IsModelled m) l.fn.self.processes.items → Every (IsModelled m) l.self.processes.items;
  place_is : place_of l.self ≡ place_of l.fn.self;
  collected : IsCollected l.floor (processes_of l.fn.self.processes.items) (processes_of l.self.processes.items) l.fossils;
  within : l.place ≤ length l.self.processes.items;
  quiet : IsQuiet l.floor l.self.summaries l.place;
  due : l.place < length l.self.processes.items → is_due l.floor (get_or l.self.summaries l.place absent).oldest ≡ true;
  range : Every IsDoneInRange l.fossils;
}

abbrev pub decreases-loop-place : goal.decreases-loop-place
decreases-loop-place l = length l.self.processes.items - l.place
