use Rattle.std.proofs.Common.{◌≡◌, ◌≤◌, ◌++◌, drop, map}
use Rattle.std.specs.Prelude.{option_map}
use Rattle.rule_files.specs.Kinds.{kinds_from, processes_from}
use Rattle.rule_files.specs.KindViews.{kinds_view}
use Rattle.toml.specs.View.{table_view}
use Rattle.rule_files.proofs.kinds.kinds_from.Given as goal

abbrev pub invariant-tables : goal.invariant-tables
invariant-tables l = record {
  rest : option_map (λ ks. kinds_view l.all.items ++ ks) (kinds_from l.lps (map (λ t. table_view t.now) (drop l.table-index l.tables))) ≡ kinds_from 0 (map (λ t. table_view t.now) l.tables);
  lps : l.lps ≡ processes_from 0 (kinds_view l.all.items);
  few : l.lps ≤ 65536;
  some : l.table-index ≤ l.lps;
}
