use Rattle.std.proofs.Common.{◌≡◌, ◌++◌, drop, map}
use Rattle.rule_files.specs.Arrays.{array_view}
use Rattle.rule_files.proofs.scope.put_arrays.Given as goal

abbrev pub invariant-loop-array : goal.invariant-loop-array
invariant-loop-array l = map (λ n. n.now) l.names.items ++ map (λ n. n.0) (map array_view (drop l.array-index l.more)) ≡ map (λ n. n.now) l.initial.names.items ++ map (λ n. n.0) (map array_view l.more)
