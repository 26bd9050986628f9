use Rattle.std.proofs.Common.{◌≡◌, ◌++◌, drop, map}
use Rattle.rule_files.specs.Arrays.{array_view}
use Rattle.rule_files.specs.Reading.{array_names}
use Rattle.rule_files.proofs.dictionary.add_arrays.Given as goal

abbrev pub invariant-loop-named : goal.invariant-loop-named
invariant-loop-named l = (l.names.draws ≡ l.initial.names.draws) × (l.names.own ≡ l.initial.names.own) × (l.names.entries ++ array_names (map array_view (drop l.named-index l.more)) ≡ l.initial.names.entries ++ array_names (map array_view l.more))
