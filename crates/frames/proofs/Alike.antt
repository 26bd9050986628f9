-- The states of ports that judge.
use Rattle.std.proofs.Common.{◌≡◌, ◌∙◌, ℕ, List, [], ◌++◌, ◌∷◌, ap, arith, length, map, replicate, sym}
use Rattle.std.proofs.lemmas.List.{append-nil, map-append}
use Rattle.std.specs.Prelude.{false}
use Rattle.std.proofs.lemmas.Simd.{map-map}
use Rattle.eventkey.proofs.Lists.{map-replicate}
use Rattle.frames.specs.Judged.{Judged, judged_state, new_judge, state_by}
use Rattle.wire.specs.Port.{PortState}

-- over ports of one state, those that judge have one state too
pub judged_alike : {M P : Type 0} (model : M) (every : ℕ) (state : P → PortState) (js : List (Judged M P)) (ps : List P) (n : ℕ) (s : PortState) →
    js ≡ map (λ p. new_judge model every p) ps → map state ps ≡ replicate n s →
    map (λ j. state_by state j) js ≡ replicate n (judged_state false s)
judged_alike model every state js ps n s over are =
    ap (map (λ j. state_by state j)) over
    ∙ map-map (λ j. state_by state j) (λ p. new_judge model every p) ps
    ∙ sym (map-map (judged_state false) state ps) ∙ ap (map (judged_state false)) are ∙ map-replicate (judged_state false) n s

-- one port more that judges
pub judged_port_more : {M P : Type 0} (model : M) (every : ℕ) (js js' : List (Judged M P)) (j : Judged M P) (ps : List P) (p : P) →
    js ≡ map (λ p. new_judge model every p) ps → js' ≡ js ++ j ∷ [] → j ≡ new_judge model every p →
    js' ≡ map (λ p. new_judge model every p) (ps ++ p ∷ [])
judged_port_more {M} {P} model every js js' j ps p so_far more is =
    more
    ∙ ap (λ (xs : List (Judged M P)). xs ++ j ∷ []) so_far
    ∙ ap (λ (x : Judged M P). map (λ p. new_judge model every p) ps ++ x ∷ []) is
    ∙ sym (map-append (λ p. new_judge model every p) ps (p ∷ []))

-- where none is left, all are there
pub none_left : {X : Type 0} (done rest xs : List X) → done ++ rest ≡ xs → length rest ≡ 0 → done ≡ xs
none_left done [] xs all none = sym (append-nil done) ∙ all
none_left done (x ∷ rest) xs all none = absurd (omega arith)
