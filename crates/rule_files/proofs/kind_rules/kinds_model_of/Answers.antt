use Rattle.std.proofs.Common.{◌≡◌, true, false, ap, refl, sym, ◌∙◌}
use Rattle.std.specs.Result.{is_err}
use Rattle.toml.specs.View.{table_view}
use Rattle.rule_files.proofs.KindsRight.{kinds_fit_right, kinds_fit_there, kinds_head_right, kinds_head_there}
use Rattle.rule_files.proofs.kind_rules.kinds_model_of.Goals as goal

pub returns-in-Err-clause-bad : goal.returns-in-Err-clause-bad
returns-in-Err-clause-bad c = λ mistake e d end s h is. c.in-Err.ensures.bad refl (kinds_head_right (table_view c.args.table.now) d end is)

pub returns-in-Err-clause-wrong : goal.returns-in-Err-clause-wrong
returns-in-Err-clause-wrong c = λ mistake e none. c.in-Err.ensures.bad refl (kinds_head_there (table_view c.args.table.now) none)

pub returns-in-Ok-Err-clause-bad : goal.returns-in-Ok-Err-clause-bad
returns-in-Ok-Err-clause-bad c = λ mistake e d end s h is.
    let f : true ≡ false = sym (kinds_fit_right (table_view c.args.table.now) d end is s h) ∙ c.in-Ok-Err.ensures.bad (ap is_err c.in-Ok-Err.field-0-is) in cc

pub returns-in-Ok-Err-clause-wrong : goal.returns-in-Ok-Err-clause-wrong
returns-in-Ok-Err-clause-wrong c = λ mistake e none.
    let f : true ≡ false = sym (kinds_fit_there (table_view c.args.table.now) none) ∙ c.in-Ok-Err.ensures.bad (ap is_err c.in-Ok-Err.field-0-is) in cc
