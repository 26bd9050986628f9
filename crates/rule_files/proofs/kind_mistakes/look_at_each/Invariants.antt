use Rattle.std.proofs.Common.{◌≡◌, ◌++◌, drop, map}
use Rattle.rule_files.specs.FileTable.{each_wrong}
use Rattle.toml.specs.View.{table_view}
use Rattle.rule_files.proofs.kind_mistakes.look_at_each.Given as goal

abbrev pub invariant-tables : goal.invariant-tables
invariant-tables l = l.found ++ each_wrong l.sorted (map (λ t. table_view t.now) (drop l.table-index l.tables)) ≡ l.initial.found ++ each_wrong l.sorted (map (λ t. table_view t.now) l.tables)
