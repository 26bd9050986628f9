use Rattle.std.proofs.Common.{◌≡◌, map, drop}
use Rattle.rule_files.specs.Names.{is_among}
use Rattle.rule_files.proofs.scope.is_among.Given as goal

abbrev pub invariant-loop-known : goal.invariant-loop-known
invariant-loop-known l = is_among l.name (map (λ n. n.now) (drop l.known-index l.names)) ≡ is_among l.name (map (λ n. n.now) l.names)
