use Rattle.std.proofs.Common.{◌≡◌, ◌++◌, drop, map}
use Rattle.std.specs.Prelude.{option_map}
use Rattle.rule_files.specs.Kinds.{tables_among}
use Rattle.toml.specs.View.{items_view, table_view}
use Rattle.rule_files.proofs.kinds.tables_among.Given as goal

abbrev pub invariant-items : goal.invariant-items
invariant-items l = option_map (λ ts. map (λ t. table_view t.now) l.tables.items ++ ts) (tables_among (items_view (drop l.item-index l.items))) ≡ tables_among (items_view l.items)
