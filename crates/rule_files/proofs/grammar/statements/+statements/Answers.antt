use Rattle.std.proofs.Common.{◌≡◌, refl, Some, true, false, rules, ◌∙◌}
use Rattle.std.proofs.lemmas.Result.{err_from_is_err_and}
use Rattle.rule_files.specs.ReadingValues.{Fails}
use Rattle.rule_files.specs.ReadingStatements.{begins, first_at, with_name}
use Rattle.rule_files.specs.Statements.{act_of, acts_of, cons, empty}
use Rattle.rule_files.proofs.Turns.{acts_of_push, block_more, case_more, choice_more, fails_here, few_with, is_done, join, no_block, no_link, one_more, stops_here}
use Rattle.rule_files.proofs.grammar.statements.+statements.Goals as goal

pub nested_choice-returns : goal.nested_choice-returns
nested_choice-returns t c = rw (choice_more c.args.links c.args.depth c.args.names.now c.args.tokens.now c.if-links-eq0.false) c.choice.ensures

pub nested_case-returns : goal.nested_case-returns
nested_case-returns t c = rw (case_more c.args.links c.args.depth c.args.sort c.args.names.now c.args.tokens.now c.if-links-eq0.false) c.case.ensures

pub block-returns-then-depth-eq0 : goal.block-returns-then-depth-eq0
block-returns-then-depth-eq0 t c = rw (no_block c.args.links c.args.depth c.args.names.now c.args.tokens.now c.if-depth-eq0.true, c.refused.ensures) refl

pub block-returns-then-links-eq0 : goal.block-returns-then-links-eq0
block-returns-then-links-eq0 t c = rw (no_link c.args.links c.args.depth c.args.names.now c.args.tokens.now c.if-links-eq0.true, c.refused-then-links-eq0.ensures) refl

pub block-returns : goal.block-returns
block-returns t c = rw (block_more c.args.links c.args.depth c.args.names.now c.args.tokens.now c.if-links-eq0.false c.if-depth-eq0.false) c.braces.ensures

pub row-returns-then-not-begins : goal.row-returns-then-not-begins
row-returns-then-not-begins t c =
    let stop : begins c.statements.rest.now ≡ false = search rules in
    stops_here _ _ _ _ _ _ stop c.statements.invariant.rest

pub row-returns-in_err-statement : goal.row-returns-in_err-statement
row-returns-in_err-statement t c =
    let p = err_from_is_err_and c.from_residual-in_err-statement.result c.from_residual-in_err-statement.ensures.1 in
    let start : begins c.statements.rest.now ≡ true = search rules in
    let failed : Fails c.in_err-statement.field-0.0 (first_at c.args.links c.args.depth c.statements.names.items c.statements.rest.now) = rw (← c.deref.ensures.value) c.in_err-statement.ensures.read in
    rw (p.1, p.2) (fails_here _ _ _ c.statements._turn _ _ _ _ c.statements-test.true start failed c.statements.invariant.rest)

pub row-statements-preserved : goal.row-statements-preserved
row-statements-preserved t c =
    let statement = c.in_ok-statement.statement in
    let named : c.add_name.new.names.items ≡ with_name c.statements.names.items c.in_ok-statement.name = search rules in
    let pushed : acts_of c.push.new.self.items ≡ join (acts_of c.statements.statements.items) (cons (act_of statement) empty) = rw c.in_ok-push.ensures.items (acts_of_push c.statements.statements.items statement) in
    let start : begins c.statements.rest.now ≡ true = search rules in
    let read : first_at c.args.links c.args.depth c.statements.names.items c.statements.rest.now ≡ Some ((act_of statement, c.in_ok-statement.name), c.in_ok-statement.after.now) = rw (← c.deref.ensures.value) (search rules) in
    record {
      rest = rw (pushed, named) (one_more _ _ c.statements._turn _ _ _ _ _ _ c.statements-test.true start read ∙ c.statements.invariant.rest);
      few = rw named (few_with _ _ c.statements.invariant.few (rw (← c.deref.ensures.value) (search rules)));
    }

pub row-returns : goal.row-returns
row-returns t c = is_done _ _ c.statements._turn _ _ _ _ c.statements-test.false c.statements.invariant.rest
