use Rattle.std.proofs.Common.{drop, flat_map, length, map, string_bytes}
use Rattle.std.specs.List.{AllByRecursion as Every}
use Rattle.rule_files.specs.Digest.{IsWord, own_name, text_bytes}
use Rattle.rule_files.proofs.Hashed.{IsAhead}
use Rattle.rule_files.proofs.digest.put_words.Given as goal

abbrev pub invariant-words : goal.invariant-words
invariant-words l =
    let left = map own_name (map string_bytes (drop l.word-index l.words)) in
    let all = map own_name (map string_bytes l.words) in
    record {
      bytes : IsAhead l.initial.hasher l.hasher (flat_map text_bytes left) (flat_map text_bytes all);
      fits : Every (λ word. IsWord (length word)) left → Every (λ word. IsWord (length word)) all;
    }
