use Rattle.node.proofs.Loads.{IsOwnSoFar}
use Rattle.std.proofs.Common.{map}
use Rattle.node.specs.declared.Part.{Part}
use Rattle.node.proofs.node.are_own.Given as goal

abbrev pub invariant-loop-part : goal.invariant-loop-part
invariant-loop-part l = IsOwnSoFar l.node l.nodes l.lps (map (λ (p : Part). p.lp) l.parts) l.part-index l.next
