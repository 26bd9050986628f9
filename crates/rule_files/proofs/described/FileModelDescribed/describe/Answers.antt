use Rattle.std.proofs.Common.{Err, ap, sym, ◌∙◌}
use Rattle.texts.specs.declared.model_file.ModelFault.TheVariants.{BadModel}
use Rattle.toml.specs.View.{table_view}
use Rattle.rule_files.proofs.BothKinds.{no_file, not_any, same_fault}
use Rattle.rule_files.proofs.described.FileModelDescribed.describe.Goals as goal

pub returns-in-Err-clause-bad : goal.returns-in-Err-clause-bad
returns-in-Err-clause-bad c = λ mistake e.
    no_file (table_view c.args.table.now) (sym c.is_rules.ensures ∙ c.if-is_rules.true)
    (c.in-Err.ensures.bad mistake (ap Err (same_fault c.in-Err.fault (BadModel mistake) e)))

pub returns-in-Err-BadModel-clause-bad : goal.returns-in-Err-BadModel-clause-bad
returns-in-Err-BadModel-clause-bad c = λ mistake e.
    not_any (table_view c.args.table.now) (sym c.is_rules.ensures ∙ c.if-is_rules.false)
    (c.in-Err-BadModel.ensures.bad c.in-Err-BadModel.mistake (ap Err c.in-Err-BadModel.field-0-is))
