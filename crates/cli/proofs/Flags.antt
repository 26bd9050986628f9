-- Flags, word by word.
use Rattle.std.specs.Prelude.{◌≡◌, ◌==◌, ◌-◌, ◌||◌, drop, length, map, not, take, Bool, true, false, List, [], ◌∷◌, codes}
use Rattle.std.specs.Str.{bytes_eq}
use Rattle.std.proofs.Common.{refl, ap, arith, inl, inr}
use Rattle.std.proofs.lemmas.List.{take_all}
use Rattle.std.proofs.lemmas.Bool.{cases_Bool, eqb-true}
use Rattle.clap.specs.Words.{Text}
use Rattle.cli.specs.Command.{says_flag}

neither : (a b : Bool) → (a || b) ≡ false → (a ≡ false) × (b ≡ false)
neither false b e = (refl, e)
neither true b e = absurd (cc)

-- the words after the first one
pub behind_first : {X : Type 0} (text : X → Text) (words : List X) → map text (take (length words - 1) (drop 1 words)) ≡ drop 1 (map text words)
behind_first text [] = refl
behind_first text (word ∷ rest) = ap (map text) (take_all (length (word ∷ rest) - 1) rest (omega (arith)))

pub none_behind : {X : Type 0} (text : X → Text) (words : List X) → (length words == 0) ≡ true → drop 1 (map text words) ≡ []
none_behind text [] e = refl
none_behind text (word ∷ rest) e =
    let none : length (word ∷ rest) ≡ 0 = eqb-true (length (word ∷ rest)) 0 e in
    absurd (omega (arith, none))

-- no words say nothing
pub flag_none : (flag : Text) → says_flag flag [] ≡ false
unfolding says_flag
flag_none flag = refl

-- `--` and the flag decide, and each other word leaves it to the words after it
pub flag_met : (flag word : Text) (rest : List Text) → (bytes_eq word (codes "--") || bytes_eq word flag) ≡ true → says_flag flag (word ∷ rest) ≡ not (bytes_eq word (codes "--"))
unfolding says_flag
flag_met flag word rest met = elim (cases_Bool (bytes_eq word (codes "--"))) [
  | inl e ↦ rw e refl
  | inr e ↦
      let is : bytes_eq word flag ≡ true = rw e at met in
      rw (e, is) refl
]

pub flag_more : (flag word : Text) (rest : List Text) → (bytes_eq word (codes "--") || bytes_eq word flag) ≡ false → says_flag flag (word ∷ rest) ≡ says_flag flag rest
unfolding says_flag
flag_more flag word rest e =
    let parts = neither (bytes_eq word (codes "--")) (bytes_eq word flag) e in
    rw (parts.0, parts.1) refl
