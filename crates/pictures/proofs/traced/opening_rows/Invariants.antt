use Rattle.std.proofs.Common.{◌≡◌, ◌++◌, drop, map, replicate}
use Rattle.pictures.specs.Inside.{lists}
use Rattle.pictures.proofs.traced.opening_rows.Given as goal

abbrev pub invariant-loop-count : goal.invariant-loop-count
invariant-loop-count l = lists l.rows.items ++ map (λ n. replicate n 0) (drop l.count-index l.first) ≡ map (λ n. replicate n 0) l.first
