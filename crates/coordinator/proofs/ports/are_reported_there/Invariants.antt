use Rattle.std.proofs.Common.{◌≡◌, length}
use Rattle.std.specs.List.{list_all}
use Rattle.gvt.specs.Replies.{is_reported_there}
use Rattle.coordinator.proofs.ports.are_reported_there.Given as goal

abbrev pub invariant-loop-report : goal.invariant-loop-report
invariant-loop-report l = list_all (is_reported_there l.lps l.nodes l.node) l.left ≡ list_all (is_reported_there l.lps l.nodes l.node) l.fossils

abbrev pub decreases-loop-report : goal.decreases-loop-report
decreases-loop-report l = length l.left
