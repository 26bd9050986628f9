use Rattle.std.proofs.Common.{◌≡◌, ◌++◌, List, drop, map}
use Rattle.rule_files.specs.Kinds.{AreKinds, AreWithin, KindRules, all_fit}
use Rattle.rule_files.specs.KindViews.{kinds_view, rules_view}
use Rattle.toml.specs.View.{table_view}
use Rattle.rule_files.proofs.kind_rules.read_kinds.Given as goal

abbrev pub invariant-kinds : goal.invariant-kinds
invariant-kinds l = record {
  are : (rs : List KindRules) → AreKinds (table_view l.file) (kinds_view l.kinds) (kinds_view (drop l.kind-index l.kinds)) rs
      → AreKinds (table_view l.file) (kinds_view l.kinds) (kinds_view l.kinds) (map rules_view l.all.items ++ rs);
  within : AreWithin (map rules_view l.all.items);
  rest : all_fit (table_view l.file) (kinds_view l.kinds) (kinds_view (drop l.kind-index l.kinds)) ≡ all_fit (table_view l.file) (kinds_view l.kinds) (kinds_view l.kinds);
}
