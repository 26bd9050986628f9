use Rattle.std.proofs.Common.{◌≡◌, ◌++◌, drop, map, List, ℕ}
use Rattle.std.specs.Prelude.{flat_map, string_bytes}
use Rattle.views.specs.Tables.{between, words_text}
use Rattle.views.proofs.cells.put_names.Given as goal

abbrev pub invariant-loop-name : goal.invariant-loop-name
invariant-loop-name l =
    let after = λ (name : List ℕ). between l.format ++ words_text l.format name in
    string_bytes l.line ++ flat_map after (map (λ n. n.now) (drop l.name-index l.rest)) ≡ string_bytes l.initial.line ++ flat_map after (map (λ n. n.now) l.rest)
