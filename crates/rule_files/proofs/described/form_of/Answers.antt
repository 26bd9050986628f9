use Rattle.std.proofs.Common.{◌≡◌, IfOk, true, false, subst, sym, ◌∙◌}
use Rattle.rule_files.specs.FileTable.{IsByForm}
use Rattle.rule_files.specs.Kinds.{has_kinds}
use Rattle.toml.specs.View.{table_view}
use Rattle.rule_files.proofs.described.form_of.Goals as goal

pub returns-then-has_kinds-clause-ok : goal.returns-then-has_kinds-clause-ok
returns-then-has_kinds-clause-ok c =
    let t = table_view c.args.table.now in
    let kind : true ≡ has_kinds t = sym c.if-has_kinds.true ∙ c.has_kinds.ensures in
    subst (λ b. IfOk c.kinds_model_of.result (λ file. IsByForm b t file.0.description file.1)) kind c.kinds_model_of.ensures.ok

pub returns-then-has_kinds-clause-bad : goal.returns-then-has_kinds-clause-bad
returns-then-has_kinds-clause-bad c = λ mistake e d end s h is.
    let t = table_view c.args.table.now in
    let kind : has_kinds t ≡ true = sym c.has_kinds.ensures ∙ c.if-has_kinds.true in
    c.kinds_model_of.ensures.bad mistake e d end s h (subst (λ b. IsByForm b t d end) kind is)

pub returns-else-has_kinds-clause-ok : goal.returns-else-has_kinds-clause-ok
returns-else-has_kinds-clause-ok c =
    let t = table_view c.args.table.now in
    let kind : false ≡ has_kinds t = sym c.if-has_kinds.false ∙ c.has_kinds.ensures in
    subst (λ b. IfOk c.rules_model_of.result (λ file. IsByForm b t file.0.description file.1)) kind c.rules_model_of.ensures.ok

pub returns-else-has_kinds-clause-bad : goal.returns-else-has_kinds-clause-bad
returns-else-has_kinds-clause-bad c = λ mistake e d end s h is.
    let t = table_view c.args.table.now in
    let kind : has_kinds t ≡ false = sym c.has_kinds.ensures ∙ c.if-has_kinds.false in
    c.rules_model_of.ensures.bad mistake e d end s h (subst (λ b. IsByForm b t d end) kind is)
