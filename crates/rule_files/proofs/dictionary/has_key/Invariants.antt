use Rattle.std.proofs.Common.{◌≡◌, drop, map, string_bytes}
use Rattle.std.specs.List.{list_any}
use Rattle.rule_files.specs.Names.{is_key}
use Rattle.rule_files.proofs.dictionary.has_key.Given as goal

abbrev pub invariant-loop-word : goal.invariant-loop-word
invariant-loop-word l = list_any is_key (map string_bytes (drop l.word-index l.words)) ≡ list_any is_key (map string_bytes l.words)
