use Rattle.std.proofs.Common.{◌≡◌, drop, map}
use Rattle.std.specs.Prelude.{string_bytes}
use Rattle.rule_files.specs.Printed.{named_all, with_block}
use Rattle.rule_files.proofs.printed.+layout.Given as goal

abbrev pub invariant-put_block-statements : goal.invariant-put_block-statements
invariant-put_block-statements l = record {
  text : with_block l.names (map string_bytes l.given) l.here l.number (string_bytes l.text) (drop l.statement-index l.block) ≡ with_block l.names (map string_bytes l.given) l.initial.here l.initial.number (string_bytes l.initial.text) l.block;
  number : named_all (drop l.statement-index l.block) l.number ≡ named_all l.block l.initial.number;
}
