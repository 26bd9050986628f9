use Rattle.std.proofs.Common.{◌≡◌, ◌++◌, drop, map, string_bytes}
use Rattle.rule_files.proofs.scope.put_names.Given as goal

abbrev pub invariant-loop-name : goal.invariant-loop-name
invariant-loop-name l = map (λ n. n.now) l.names.items ++ map string_bytes (drop l.name-index l.more) ≡ map (λ n. n.now) l.initial.names.items ++ map string_bytes l.more
