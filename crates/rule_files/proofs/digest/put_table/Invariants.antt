use Rattle.std.proofs.Common.{drop, flat_map}
use Rattle.rule_files.specs.Digest.{number_bytes}
use Rattle.rule_files.proofs.Hashed.{IsAhead}
use Rattle.rule_files.proofs.digest.put_table.Given as goal

abbrev pub invariant-numbers : goal.invariant-numbers
invariant-numbers l = IsAhead l.initial.hasher l.hasher (flat_map number_bytes (drop l.number-index l.numbers)) (flat_map number_bytes l.numbers)
