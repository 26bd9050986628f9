use Rattle.std.proofs.Common.{◌≡◌, ◌<◌, ◌+◌, ◌-◌, ◌^◌, drop, map, min}
use Rattle.rule_files.specs.RuleFile.{all_numbers, named_view}
use Rattle.rule_files.proofs.entries.all_numbers.Given as goal

abbrev pub invariant-named : goal.invariant-named
invariant-named l = record {
  fits : l.count < 2 ^ 64;
  rest : min (l.count + all_numbers (map named_view (drop l.one-index l.named))) (2 ^ 64 - 1) ≡ min (all_numbers (map named_view l.named)) (2 ^ 64 - 1);
}
