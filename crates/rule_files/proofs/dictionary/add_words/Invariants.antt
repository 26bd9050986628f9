use Rattle.std.proofs.Common.{◌≡◌, ◌++◌, drop, map, string_bytes}
use Rattle.rule_files.specs.Reading.{words_from}
use Rattle.rule_files.proofs.dictionary.add_words.Given as goal

abbrev pub invariant-loop-place : goal.invariant-loop-place
invariant-loop-place l = (l.names.draws ≡ l.initial.names.draws) × (l.names.own ≡ l.initial.names.own) × (l.names.entries ++ words_from l.place (map string_bytes (drop l.place l.words)) ≡ l.initial.names.entries ++ words_from 0 (map string_bytes l.words))
