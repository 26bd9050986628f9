use Rattle.std.proofs.Common.{◌≡◌, drop, false}
use Rattle.rule_files.specs.Lexical.{digits}
use Rattle.rule_files.proofs.grammar.lexemes.number.Given as goal

abbrev pub invariant-digits : goal.invariant-digits
invariant-digits l = digits l.after_digit l.value (drop l.byte-index l.bytes) ≡ digits false 0 l.bytes
