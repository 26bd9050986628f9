use Rattle.std.proofs.Common.{◌≡◌, [], ap, arith, drop, subst, sym}
use Rattle.std.proofs.lemmas.List.{drop_all}
use Rattle.rule_files.specs.Digest.{ActFits, ActsFit, acts_bytes}
use Rattle.rule_files.specs.Statements.{acts_of}
use Rattle.rule_files.proofs.Hashed.{acts_count, ahead_ends, block_held, choice_act, choice_held, repetition_act, repetition_held, test_act, test_held}
use Rattle.rule_files.proofs.digest.+put_statements.Goals as goal

pub put_statement-returns-in-If-clause-bytes : goal.put_statement-returns-in-If-clause-bytes
put_statement-returns-in-If-clause-bytes t c = λ m held.
    let is = choice_act c.args.statement.now _ _ _ c.in-If.is c.deref.result.now c.deref-in-If.result.now c.deref.ensures.value c.deref-in-If.ensures.value in
    choice_held c.put_block-in-If.new.hasher m c.args.statement.now _ c.deref.result.now c.deref-in-If.result.now is
    (c.put_block-in-If.ensures.bytes _ (c.put_block.ensures.bytes _ (c.put_expression-in-If.ensures.bytes _ (c.put-in-If.ensures m held))))

pub put_statement-returns-in-If-clause-fits : goal.put_statement-returns-in-If-clause-fits
put_statement-returns-in-If-clause-fits t c =
    let is = choice_act c.args.statement.now _ _ _ c.in-If.is c.deref.result.now c.deref-in-If.result.now c.deref.ensures.value c.deref-in-If.ensures.value in
    subst ActFits (sym is) (c.put_expression-in-If.ensures.fits, c.put_block.ensures.fits, c.put_block-in-If.ensures.fits)

pub put_statement-returns-in-Repeat-clause-bytes : goal.put_statement-returns-in-Repeat-clause-bytes
put_statement-returns-in-Repeat-clause-bytes t c = λ m held.
    let is = repetition_act c.args.statement.now _ _ _ c.in-Repeat.is c.deref-in-Repeat.result.now c.deref-in-Repeat.ensures.value in
    repetition_held c.put_block-in-Repeat.new.hasher m c.args.statement.now _ _ _ _ c.deref-in-Repeat.result.now is c.from-in-Repeat.ensures c.from-in-Repeat-2.ensures
    (c.put_block-in-Repeat.ensures.bytes _ (c.put_number.ensures _ (c.put-in-Repeat.ensures m held)))

pub put_statement-returns-in-Repeat-clause-fits : goal.put_statement-returns-in-Repeat-clause-fits
put_statement-returns-in-Repeat-clause-fits t c =
    let is = repetition_act c.args.statement.now _ _ _ c.in-Repeat.is c.deref-in-Repeat.result.now c.deref-in-Repeat.ensures.value in
    subst ActFits (sym is) (omega (arith, c.from-in-Repeat.ensures), omega (arith, c.from-in-Repeat-2.ensures), c.put_block-in-Repeat.ensures.fits)

pub put_statement-returns-in-RepeatUntil-clause-bytes : goal.put_statement-returns-in-RepeatUntil-clause-bytes
put_statement-returns-in-RepeatUntil-clause-bytes t c = λ m held.
    let is = test_act c.args.statement.now _ _ _ _ c.in-RepeatUntil.is c.deref-in-RepeatUntil.result.now c.deref-in-RepeatUntil.ensures.value in
    test_held c.put_block-in-RepeatUntil.new.hasher m c.args.statement.now _ _ _ _ _ c.deref-in-RepeatUntil.result.now is c.from-in-RepeatUntil.ensures c.from-in-RepeatUntil-2.ensures
    (c.put_block-in-RepeatUntil.ensures.bytes _ (c.put_expression-in-RepeatUntil.ensures.bytes _ (c.put_number-in-RepeatUntil.ensures _ (c.put-in-RepeatUntil.ensures m held))))

pub put_statement-returns-in-RepeatUntil-clause-fits : goal.put_statement-returns-in-RepeatUntil-clause-fits
put_statement-returns-in-RepeatUntil-clause-fits t c =
    let is = test_act c.args.statement.now _ _ _ _ c.in-RepeatUntil.is c.deref-in-RepeatUntil.result.now c.deref-in-RepeatUntil.ensures.value in
    subst ActFits (sym is) (omega (arith, c.from-in-RepeatUntil.ensures), omega (arith, c.from-in-RepeatUntil-2.ensures), c.put_expression-in-RepeatUntil.ensures.fits, c.put_block-in-RepeatUntil.ensures.fits)

pub put_block-returns-clause-bytes : goal.put_block-returns-clause-bytes
put_block-returns-clause-bytes t c = λ m held.
    let none : acts_bytes (acts_of (drop c.statements.statement-index c.args.block.now)) ≡ [] =
    ap (λ xs. acts_bytes (acts_of xs)) (drop_all c.statements.statement-index c.args.block.now c.statements-test.false) in
    block_held c.statements.hasher m c.args.block.now
    (ahead_ends c.put_number.new.hasher c.statements.hasher _ _ c.statements.invariant.bytes none _ (c.put_number.ensures m held))

pub put_block-returns-clause-fits : goal.put_block-returns-clause-fits
put_block-returns-clause-fits t c = (
  omega (arith, acts_count c.args.block.now),
  c.statements.invariant.fits (subst (λ xs. ActsFit (acts_of xs)) (sym (drop_all c.statements.statement-index c.args.block.now c.statements-test.false)) tt),
)
