use Rattle.std.proofs.Common.{sym, ◌∙◌}
use Rattle.texts.proofs.Right.{some_found}
use Rattle.toml.specs.View.{table_view}
use Rattle.rule_files.specs.FileTable.{IsFileTable, form_wrong}
use Rattle.rule_files.specs.Kinds.{has_kinds}
use Rattle.rule_files.specs.declared.file_model.FileModel.{FileModel}
use Rattle.rule_files.specs.declared.file_model.FileModel.TheVariants.{Rules}
use Rattle.rule_files.proofs.BothKinds.{file_right, of_file, rules_right, some_of_file}
use Rattle.rule_files.proofs.described.FileModelDescribed.mistakes.Goals as goal

pub returns-in-Ok-clause-reported : goal.returns-in-Ok-clause-reported
returns-in-Ok-clause-reported c =
    c.new.ensures ∙ sym (file_right (table_view c.args.table.now) c.in-Ok._file.0 c.in-Ok._file.1 c.in-Ok.ensures.ok)

pub returns-in-Ok-clause-none : goal.returns-in-Ok-clause-none
returns-in-Ok-clause-none c = λ e. (Rules c.in-Ok._file.0 c.in-Ok._file.2, c.in-Ok._file.1, c.in-Ok.ensures.ok)

pub returns-in-Err-BadModel-clause-some : goal.returns-in-Err-BadModel-clause-some
returns-in-Err-BadModel-clause-some c =
    let t = table_view c.args.table.now in
    some_found c.form_mistakes_of.result (form_wrong (has_kinds t) t) FileModel (IsFileTable t) c.form_mistakes_of.ensures
    (rules_right t (sym c.is_rules.ensures ∙ c.if-is_rules.true))

pub returns-else-is_rules-clause-none : goal.returns-else-is_rules-clause-none
returns-else-is_rules-clause-none c = of_file (table_view c.args.table.now) c.mistakes_among.result c.mistakes_among.ensures.none

pub returns-else-is_rules-clause-some : goal.returns-else-is_rules-clause-some
returns-else-is_rules-clause-some c =
    some_of_file (table_view c.args.table.now) (sym c.is_rules.ensures ∙ c.if-is_rules.false) c.mistakes_among.result c.mistakes_among.ensures.some
