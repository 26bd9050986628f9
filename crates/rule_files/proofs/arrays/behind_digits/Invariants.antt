use Rattle.std.proofs.Common.{◌≡◌, drop}
use Rattle.rule_files.specs.Arrays.{behind_digits}
use Rattle.rule_files.proofs.arrays.behind_digits.Given as goal

abbrev pub invariant-digits : goal.invariant-digits
invariant-digits l = behind_digits (drop l.place l.text) ≡ behind_digits l.text
