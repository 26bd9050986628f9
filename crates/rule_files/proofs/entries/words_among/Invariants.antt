use Rattle.std.proofs.Common.{◌≡◌, ◌++◌, drop, map}
use Rattle.std.specs.Prelude.{option_map, string_bytes}
use Rattle.rule_files.specs.RuleFile.{all_of, word_in}
use Rattle.toml.specs.View.{items_view}
use Rattle.rule_files.proofs.entries.words_among.Given as goal

abbrev pub invariant-loop-item : goal.invariant-loop-item
invariant-loop-item l = option_map (λ ys. map string_bytes l.words.items ++ ys) (all_of word_in (items_view (drop l.item-index l.items)))
    ≡ all_of word_in (items_view l.items)
