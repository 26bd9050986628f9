use Rattle.std.proofs.Common.{◌≡◌, ◌+◌, ◌-◌, ◌*◌}
use Rattle.rule_files.specs.Grammar.{tree_of}
use Rattle.rule_files.specs.ReadingValues.{chain, inside, level}
use Rattle.rule_files.proofs.grammar.values.+values.Given as goal

abbrev pub invariant-chain-operators : goal.invariant-chain-operators
invariant-chain-operators l =
    chain (l.k + 1) (level l.names l.most (inside l.names l.most l.depth) l.k) (l.turns - l._turn) (tree_of l.left) l.rest
    ≡ chain (l.k + 1) (level l.names l.most (inside l.names l.most l.depth) l.k) l.turns (tree_of l.initial.left) l.initial.rest

-- a level reads a tighter one first, then a chain of it, whose operands are of the tighter one again
abbrev pub decreases-level : goal.decreases-level
decreases-level l = l.depth * 40 + 2 * l.k + 6

abbrev pub decreases-chain : goal.decreases-chain
decreases-chain l = l.depth * 40 + 2 * l.k + 7

abbrev pub decreases-primary : goal.decreases-primary
decreases-primary l = l.depth * 40 + 5

abbrev pub decreases-marked : goal.decreases-marked
decreases-marked l = l.depth * 40 + 4

abbrev pub decreases-member : goal.decreases-member
decreases-member l = l.depth * 40 + 4

abbrev pub decreases-pair : goal.decreases-pair
decreases-pair l = l.depth * 40 + 3

abbrev pub decreases-normal : goal.decreases-normal
decreases-normal l = l.depth * 40 + 3

abbrev pub decreases-triangular : goal.decreases-triangular
decreases-triangular l = l.depth * 40 + 3

abbrev pub decreases-enclosed : goal.decreases-enclosed
decreases-enclosed l = l.depth * 40 + 2

abbrev pub decreases-nested : goal.decreases-nested
decreases-nested l = l.depth * 40 + 1
