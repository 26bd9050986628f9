use Rattle.std.proofs.Common.{◌≡◌, ◌++◌, drop}
use Rattle.rule_files.specs.FileTable.{all_wrong}
use Rattle.rule_files.specs.KindViews.{kinds_view}
use Rattle.toml.specs.View.{table_view}
use Rattle.rule_files.proofs.kind_mistakes.look_at_rules.Given as goal

abbrev pub invariant-kinds : goal.invariant-kinds
invariant-kinds l = l.found ++ all_wrong (table_view l.table) (kinds_view l.kinds) (kinds_view (drop l.kind-index l.kinds)) ≡ l.initial.found ++ all_wrong (table_view l.table) (kinds_view l.kinds) (kinds_view l.kinds)
