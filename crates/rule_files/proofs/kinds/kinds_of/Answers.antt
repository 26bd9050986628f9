use Rattle.std.proofs.Common.{◌≡◌, Some, ap, arith, length, map, sym}
use Rattle.std.proofs.lemmas.List.{length-map}
use Rattle.toml.specs.View.{table_view}
use Rattle.rule_files.specs.Kinds.{kind_tables}
use Rattle.rule_files.proofs.Choice.{few_tables}
use Rattle.rule_files.proofs.kinds.kinds_of.Goals as goal

pub kinds_from-requires : goal.kinds_from-requires
kinds_from-requires c =
    let is : kind_tables (table_view c.args.file.now) ≡ Some (map (λ t. table_view t.now) c.in-Some.tables.items) = sym (rw c.in-Some.is at c.in_ok-tables.ensures) in
    let some = few_tables (table_view c.args.file.now) (map (λ t. table_view t.now) c.in-Some.tables.items) is in
    let same : length (map (λ t. table_view t.now) c.in-Some.tables.items) ≡ length c.in-Some.tables.items = length-map c.in-Some.tables.items _ in
    let slice = ap length c.as_slice.ensures.value in
    omega (arith, some.0, same, slice)
