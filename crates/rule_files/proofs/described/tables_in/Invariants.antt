use Rattle.std.proofs.Common.{◌≡◌, ◌++◌, drop, map}
use Rattle.rule_files.specs.RuleFile.{named_view}
use Rattle.rule_files.proofs.described.tables_in.Given as goal

abbrev pub invariant-loop-one : goal.invariant-loop-one
invariant-loop-one l = l.tables.items ++ map (λ n. n.1) (map named_view (drop l.one-index l.named)) ≡ map (λ n. n.1) (map named_view l.named)
