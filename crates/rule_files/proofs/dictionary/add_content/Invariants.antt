use Rattle.std.proofs.Common.{◌≡◌, ◌++◌, drop, map, string_bytes}
use Rattle.rule_files.specs.Reading.{content_from}
use Rattle.rule_files.proofs.dictionary.add_content.Given as goal

abbrev pub invariant-loop-place : goal.invariant-loop-place
invariant-loop-place l = (l.names.draws ≡ l.initial.names.draws) × (l.names.own ≡ l.initial.names.own) × (l.names.entries ++ content_from l.place (map string_bytes (drop l.place l.words)) ≡ l.initial.names.entries ++ content_from 0 (map string_bytes l.words))
