use Rattle.std.proofs.Common.{drop, map}
use Rattle.upkeep.specs.Text.{line}
use Rattle.eventkey.proofs.Writers.{HasWritten}
use Rattle.upkeep.proofs.inspection.writing.write_line.Given as goal

abbrev pub invariant-loop-before : goal.invariant-loop-before
invariant-loop-before g l = HasWritten (g.W.Write.contents l.initial.out) (g.W.Write.contents l.out) (line (map (λ fact. (fact.0.now, fact.1)) l.facts) l.last) (line (map (λ fact. (fact.0.now, fact.1)) (drop l.before-index l.facts)) l.last)
