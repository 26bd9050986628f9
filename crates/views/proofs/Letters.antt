-- What is written letter by letter of a text, as a text of bytes.
use Rattle.std.proofs.Common.{◌≡◌, ℕ, ◌<◌, ◌≤◌, suc, ltb, List, [], ◌∷◌, ◌++◌, length, get_or, refl, sym, ap, ◌∙◌, inl, inr, arith, append_assoc}
use Rattle.std.specs.List.{flat_map}
use Rattle.std.specs.Prelude.{encode_utf8}
use Rattle.std.proofs.lemmas.List.{append-nil}
use Rattle.std.proofs.lemmas.List.Concat.{flat_map-append}
use Rattle.std.proofs.lemmas.Bool.{cases_lt, cond-false, cond-true, le-ltb, lt-ltb}
use Rattle.std.proofs.lemmas.Bool.Decides.{nat_tests}
use Rattle.std.proofs.lemmas.Str.{encode_ascii, inside_one}
use Rattle.views.specs.Tables.{in_field, in_string, letter_text}

-- a text of bytes that stand for themselves
kept_bytes : (f : ℕ → List ℕ) (xs : List ℕ) → ((k : ℕ) → k < length xs → f (get_or xs k 0) ≡ get_or xs k 0 ∷ []) → flat_map f xs ≡ xs
kept_bytes f [] h = refl
kept_bytes f (x ∷ xs) h = ap (λ s. s ++ flat_map f xs) (h 0 (omega arith)) ∙ ap (λ s. x ∷ s) (kept_bytes f xs (λ k below. h (suc k) (omega arith)))

high_byte : (c k : ℕ) → 128 ≤ c → k < length (encode_utf8 c) → 128 ≤ get_or (encode_utf8 c) k 0
high_byte c k high below =
    let one = λ (low : get_or (encode_utf8 c) k 0 < 128). inside_one c [] (encode_utf8 c) k (sym (append-nil (encode_utf8 c))) below low in
    grind (arith, one)

-- the bytes of a letter
letter_bytes : (f : ℕ → List ℕ) → ((b : ℕ) → 128 ≤ b → f b ≡ b ∷ []) → (c : ℕ) → flat_map f (encode_utf8 c) ≡ letter_text f c
letter_bytes f high c = elim (cases_lt c 128) [
  | inl low ↦ ap (flat_map f) (encode_ascii c low) ∙ append-nil (f c) ∙ sym (cond-true (ltb c 128) (f c) (encode_utf8 c) (lt-ltb c 128 low))
  | inr up ↦ kept_bytes f (encode_utf8 c) (λ k below. high (get_or (encode_utf8 c) k 0) (high_byte c k up below)) ∙ sym (cond-false (ltb c 128) (f c) (encode_utf8 c) (le-ltb c 128 up))
]

-- one letter more of a text
pub letter_put : (f : ℕ → List ℕ) → ((b : ℕ) → 128 ≤ b → f b ≡ b ∷ []) → (c : ℕ) (line new rest text whole : List ℕ) → line ++ flat_map f text ≡ whole → text ≡ encode_utf8 c ++ rest → new ≡ line ++ letter_text f c → new ++ flat_map f rest ≡ whole
letter_put f high c line new rest text whole h e put =
    ap (λ s. s ++ flat_map f rest) put
    ∙ append_assoc line (letter_text f c) (flat_map f rest)
    ∙ ap (λ s. line ++ (s ++ flat_map f rest)) (sym (letter_bytes f high c))
    ∙ ap (λ s. line ++ s) (sym (flat_map-append f (encode_utf8 c) rest))
    ∙ ap (λ s. line ++ flat_map f s) (sym e)
    ∙ h

pub field_high : (b : ℕ) → 128 ≤ b → in_field b ≡ b ∷ []
field_high b high = grind (arith, nat_tests)

pub string_high : (b : ℕ) → 128 ≤ b → in_string b ≡ b ∷ []
string_high b high = grind (arith, nat_tests)
