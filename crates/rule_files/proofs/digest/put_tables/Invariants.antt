use Rattle.std.proofs.Common.{drop, flat_map}
use Rattle.std.specs.List.{AllByRecursion as Every}
use Rattle.rule_files.specs.Digest.{TableFits, table_bytes}
use Rattle.rule_files.proofs.Hashed.{IsAhead}
use Rattle.rule_files.proofs.digest.put_tables.Given as goal

abbrev pub invariant-tables : goal.invariant-tables
invariant-tables l = record {
  bytes : IsAhead l.initial.hasher l.hasher (flat_map table_bytes (drop l.table-index l.tables)) (flat_map table_bytes l.tables);
  fits : Every TableFits (drop l.table-index l.tables) → Every TableFits l.tables;
}
