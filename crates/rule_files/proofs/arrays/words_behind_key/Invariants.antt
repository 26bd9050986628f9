use Rattle.std.proofs.Common.{◌≡◌, ◌++◌, ◌∷◌, codes, drop, false, map, string_bytes}
use Rattle.rule_files.specs.Arrays.{but_key}
use Rattle.rule_files.proofs.arrays.words_behind_key.Given as goal

abbrev pub invariant-words : goal.invariant-words
invariant-words l = map string_bytes l.all.items ++ but_key l.out (map string_bytes (drop l.word-index l.words))
    ≡ codes "key" ∷ but_key false (map string_bytes l.words)
