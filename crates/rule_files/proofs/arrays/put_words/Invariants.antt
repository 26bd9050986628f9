use Rattle.std.proofs.Common.{◌≡◌, ◌+◌, length, map}
use Rattle.std.specs.Prelude.{string_bytes}
use Rattle.rule_files.specs.Arrays.{with_array_words}
use Rattle.rule_files.proofs.arrays.put_words.Given as goal

abbrev pub invariant-words : goal.invariant-words
invariant-words l = record {
  words : map string_bytes l.words.items ≡ with_array_words l.place l.name l.array (map string_bytes l.initial.words.items);
  length : length l.words.items ≡ length l.initial.words.items + l.place;
}
