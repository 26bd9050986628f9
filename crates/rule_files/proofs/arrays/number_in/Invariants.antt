use Rattle.std.proofs.Common.{◌≡◌, ◌≤◌, drop}
use Rattle.rule_files.specs.Arrays.{number_in}
use Rattle.rule_files.proofs.arrays.number_in.Given as goal

abbrev pub invariant-digits : goal.invariant-digits
invariant-digits l = record {
  rest : number_in l.number (drop l.byte-index l.text) ≡ number_in 0 l.text;
  small : l.number ≤ 65536;
}
