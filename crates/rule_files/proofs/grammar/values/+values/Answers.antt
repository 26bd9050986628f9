use Rattle.std.proofs.Common.{◌≡◌, ◌+◌, ◌-◌, Some, rules, ◌∙◌}
use Rattle.rule_files.specs.Grammar.{Two, tree_of}
use Rattle.rule_files.specs.ReadingValues.{inside, level, made, sign_at}
use Rattle.rule_files.proofs.Steps.{chain_more, level_more}
use Rattle.rule_files.proofs.grammar.values.+values.Goals as goal

pub chain-operators-preserved : goal.chain-operators-preserved
chain-operators-preserved t c =
    let first : sign_at (c.args.k + 1) c.operators.rest.now ≡ Some (c.in-Some.operator, c.in-Some.after.now) = search rules in
    let read : level c.args.names.now c.args.most (inside c.args.names.now c.args.most c.args.depth) c.args.k c.in-Some.after.now ≡ Some (tree_of c.in_ok-right.right, c.in_ok-right.behind.now) = search rules in
    let put : made (Two c.in-Some.operator (tree_of c.operators.left) (tree_of c.in_ok-right.right)) c.in_ok-right.behind.now ≡ Some (tree_of c.in_ok-both.both, c.in_ok-both.behind.now) = search rules in
    chain_more (c.args.k + 1) _ c.args.turns c.operators._turn _ _ _ _ _ _ _ _ c.operators-test.true first read put ∙ c.operators.invariant

pub level-returns : goal.level-returns
level-returns t c =
    let read : level c.args.names.now c.args.most (inside c.args.names.now c.args.most c.args.depth) (c.args.k - 1) c.args.tokens.now ≡ Some (tree_of c.in_ok-left.left, c.in_ok-left.rest.now) = search rules in
    rw (level_more c.args.names.now c.args.most (inside c.args.names.now c.args.most c.args.depth) c.args.k c.args.tokens.now _ _ c.if-k-eq0.false read, ← c.turns-turns.ensures) c.chain.ensures
