use Rattle.std.proofs.Common.{rules, ◌≡◌, map, string_bytes, sym, ap, ◌∙◌}
use Rattle.rule_files.specs.Printed.{name_at, named_all}
use Rattle.rule_files.proofs.Right.{on_ok}
use Rattle.rule_files.proofs.Rows.{choice-named, choice-text, repetition-named, repetition-text, test-named, test-text}
use Rattle.rule_files.proofs.printed.+layout.Goals as goal

pub put_statement-returns-in_ok-put_block-in-If-2-clause-text : goal.put_statement-returns-in_ok-put_block-in-If-2-clause-text
put_statement-returns-in_ok-put_block-in-If-2-clause-text t c =
    on_ok c.put_closing.result _ _ c.put_closing.ensures (λ last.
    choice-text _ _ _ _ c.in-If.is _ _ c.deref-in-If.ensures.value c.deref-in-If-2.ensures.value
    c.args.names.now (map string_bytes c.args.given.now) c.args.at _ _ c.args.number.now _ _ c.deref.ensures.value _ c.otherwise_of-otherwise.ensures _ _ _ _ _ _ _ _ _ _ _
    c.deeper.ensures c.in_ok-put_block-in-If.ensures.number c.opening.ensures c.otherwise_layout-behind.ensures
    c.in_ok-put_margin-in-If.ensures c.in_ok-put-in-If.ensures c.in_ok-put_value-in-If.ensures c.in_ok-put-in-If-2.ensures
    c.in_ok-put_block-in-If.ensures.text c.in_ok-put_indent-in-If.ensures c.in_ok-put-in-If-3.ensures
    c.in_ok-put_block-in-If-2.ensures.text last)

pub put_statement-returns-in_ok-put_block-in-If-2-clause-number : goal.put_statement-returns-in_ok-put_block-in-If-2-clause-number
put_statement-returns-in_ok-put_block-in-If-2-clause-number t c =
    on_ok c.put_closing.result _ _ c.put_closing.ensures (λ last.
    c.in_ok-put_block-in-If-2.ensures.number
    ∙ ap (λ j. named_all c.deref-in-If-2.result.now j) c.in_ok-put_block-in-If.ensures.number
    ∙ sym (choice-named _ _ _ _ c.in-If.is _ _ c.deref-in-If.ensures.value c.deref-in-If-2.ensures.value c.args.number.now))

pub put_statement-returns-in_ok-put_indent-in-Repeat-clause-text : goal.put_statement-returns-in_ok-put_indent-in-Repeat-clause-text
put_statement-returns-in_ok-put_indent-in-Repeat-clause-text t c =
    let called : c.name_at-in-Repeat.result.now ≡ name_at (map string_bytes c.args.given.now) c.args.number.now = search rules in
    on_ok c.put-in-Repeat-5.result _ _ c.put-in-Repeat-5.ensures (λ last.
    repetition-text _ _ _ _ c.in-Repeat.is _ c.deref-in-Repeat.ensures.value
    c.args.names.now (map string_bytes c.args.given.now) c.args.at _ _ c.args.number.now _ _ _ _ _ _ _ _ _ _ _ _ _
    c.with_local.ensures c.deeper-inside.ensures c.next-in-Repeat.ensures c.from-in-Repeat.ensures called
    c.in_ok-put_margin-in-Repeat.ensures c.in_ok-put-in-Repeat.ensures c.in_ok-put-in-Repeat-2.ensures c.in_ok-put-in-Repeat-3.ensures
    c.in_ok-put_number-in-Repeat.ensures c.in_ok-put-in-Repeat-4.ensures c.in_ok-put_block-in-Repeat.ensures.text
    c.in_ok-put_indent-in-Repeat.ensures last)

pub put_statement-returns-in_ok-put_indent-in-Repeat-clause-number : goal.put_statement-returns-in_ok-put_indent-in-Repeat-clause-number
put_statement-returns-in_ok-put_indent-in-Repeat-clause-number t c =
    on_ok c.put-in-Repeat-5.result _ _ c.put-in-Repeat-5.ensures (λ last.
    c.in_ok-put_block-in-Repeat.ensures.number
    ∙ ap (λ j. named_all c.deref-in-Repeat.result.now j) c.next-in-Repeat.ensures
    ∙ sym (repetition-named _ _ _ _ c.in-Repeat.is _ c.deref-in-Repeat.ensures.value c.args.number.now))

pub put_statement-returns-in_ok-put_indent-in-RepeatUntil-clause-text : goal.put_statement-returns-in_ok-put_indent-in-RepeatUntil-clause-text
put_statement-returns-in_ok-put_indent-in-RepeatUntil-clause-text t c =
    let called : c.name_at-in-RepeatUntil.result.now ≡ name_at (map string_bytes c.args.given.now) c.args.number.now = search rules in
    on_ok c.put-in-RepeatUntil-6.result _ _ c.put-in-RepeatUntil-6.ensures (λ last.
    test-text _ _ _ _ _ c.in-RepeatUntil.is _ c.deref-in-RepeatUntil.ensures.value
    c.args.names.now (map string_bytes c.args.given.now) c.args.at _ _ c.args.number.now _ _ _ _ _ _ _ _ _ _ _ _ _ _ _
    c.with_local-here.ensures c.deeper-in-RepeatUntil.ensures c.next-in-RepeatUntil.ensures c.from-in-RepeatUntil.ensures called
    c.in_ok-put_margin-in-RepeatUntil.ensures c.in_ok-put-in-RepeatUntil.ensures c.in_ok-put-in-RepeatUntil-2.ensures c.in_ok-put-in-RepeatUntil-3.ensures
    c.in_ok-put_number-in-RepeatUntil.ensures c.in_ok-put-in-RepeatUntil-4.ensures c.in_ok-put_value-in-RepeatUntil.ensures c.in_ok-put-in-RepeatUntil-5.ensures
    c.in_ok-put_block-in-RepeatUntil.ensures.text
    c.in_ok-put_indent-in-RepeatUntil.ensures last)

pub put_statement-returns-in_ok-put_indent-in-RepeatUntil-clause-number : goal.put_statement-returns-in_ok-put_indent-in-RepeatUntil-clause-number
put_statement-returns-in_ok-put_indent-in-RepeatUntil-clause-number t c =
    on_ok c.put-in-RepeatUntil-6.result _ _ c.put-in-RepeatUntil-6.ensures (λ last.
    c.in_ok-put_block-in-RepeatUntil.ensures.number
    ∙ ap (λ j. named_all c.deref-in-RepeatUntil.result.now j) c.next-in-RepeatUntil.ensures
    ∙ sym (test-named _ _ _ _ _ c.in-RepeatUntil.is _ c.deref-in-RepeatUntil.ensures.value c.args.number.now))
