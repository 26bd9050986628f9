use Rattle.std.proofs.Common.{refl}
use Rattle.toml.specs.View.{table_view}
use Rattle.rule_files.proofs.KindsRight.{kinds_end_there, kinds_only_there}
use Rattle.rule_files.proofs.kind_rules.kinds_head_of.Goals as goal

pub returns-in_err-end-clause-bad : goal.returns-in_err-end-clause-bad
returns-in_err-end-clause-bad c = λ e none. kinds_end_there (table_view c.args.table.now) none (c.in_err-end.ensures.err refl)

pub returns-in_err-only-clause-bad : goal.returns-in_err-only-clause-bad
returns-in_err-only-clause-bad c = λ e none. c.in_err-only.ensures.err refl (kinds_only_there (table_view c.args.table.now) none)

pub returns-clause-only : goal.returns-clause-only
returns-clause-only c = c.in_ok-only.ensures.ok
