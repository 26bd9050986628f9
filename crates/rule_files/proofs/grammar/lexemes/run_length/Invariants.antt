use Rattle.std.proofs.Common.{◌≡◌, ◌+◌, drop}
use Rattle.rule_files.specs.Lexical.{run}
use Rattle.rule_files.proofs.grammar.lexemes.run_length.Given as goal

abbrev pub invariant-bytes : goal.invariant-bytes
invariant-bytes l = record {
  counted : l.count ≡ l.byte-index;
  rest : l.count + run l.run (drop l.byte-index l.bytes) ≡ run l.run l.bytes;
}
