-- Texts with placeholders for numbers.
use Rattle.std.proofs.Common.{◌≡◌, ◌≢◌, ℕ, suc, ◌+◌, ◌<◌, ◌≤◌, ◌==◌, List, [], ◌∷◌, ◌++◌, length, get_or, drop, decimal, refl, ap, ◌∙◌, arith, eqb-true}
use Rattle.std.proofs.lemmas.Bool.{cond_both}
use Rattle.std.proofs.lemmas.List.{drop_all, drop_more}
use Rattle.pictures.specs.Filled.{filled}

-- these bytes have no placeholder, which is a `$`, byte 36
abbrev pub HasNoHole : List ℕ → Type 0
HasNoHole bytes = (i : ℕ) → i < length bytes → get_or bytes i 0 ≢ 36

tail_whole : (b : ℕ) (bs : List ℕ) → HasNoHole (b ∷ bs) → HasNoHole bs
tail_whole b bs h = λ i l. h (suc i) (omega arith)

pub filled-hole : (before after : List ℕ) (n : ℕ) (ns : List ℕ) → HasNoHole before
    → filled (before ++ (36 ∷ after)) (n ∷ ns) ≡ before ++ decimal n ++ filled after ns
unfolding filled
filled-hole [] after n ns h = refl
filled-hole (b ∷ bs) after n ns h =
    cond_both (b == 36) (decimal n ++ filled (bs ++ (36 ∷ after)) ns) (b ∷ filled (bs ++ (36 ∷ after)) (n ∷ ns)) (λ t. t ≡ b ∷ (bs ++ decimal n ++ filled after ns))
    (λ e. absurd (h 0 (omega arith) (eqb-true b 36 e)))
    (λ e. ap (λ t. b ∷ t) (filled-hole bs after n ns (tail_whole b bs h)))

pub filled-none : (bytes : List ℕ) → filled bytes [] ≡ bytes
unfolding filled
filled-none [] = refl
filled-none (b ∷ bs) = refl

pub filled-whole : (bytes ns : List ℕ) → HasNoHole bytes → filled bytes ns ≡ bytes
unfolding filled
filled-whole [] ns h = refl
filled-whole (b ∷ bs) [] h = refl
filled-whole (b ∷ bs) (n ∷ ns) h =
    cond_both (b == 36) (decimal n ++ filled bs ns) (b ∷ filled bs (n ∷ ns)) (λ t. t ≡ b ∷ bs)
    (λ e. absurd (h 0 (omega arith) (eqb-true b 36 e)))
    (λ e. ap (λ t. b ∷ t) (filled-whole bs (n ∷ ns) (tail_whole b bs h)))

-- the text from a number on begins with the bytes before its placeholder, then the number
pub filled-next : (text before after numbers : List ℕ) (i : ℕ) → text ≡ before ++ (36 ∷ after) → HasNoHole before → i < length numbers
    → filled text (drop i numbers) ≡ before ++ decimal (get_or numbers i 0) ++ filled after (drop (i + 1) numbers)
filled-next text before after numbers i parts whole l =
    ap (λ t. filled t (drop i numbers)) parts ∙ ap (filled (before ++ (36 ∷ after))) (drop_more numbers i 0 l) ∙ filled-hole before after (get_or numbers i 0) (drop (i + 1) numbers) whole

-- if no number is left, the rest stays
pub filled-last : (text numbers : List ℕ) (i : ℕ) → length numbers ≤ i → filled text (drop i numbers) ≡ text
filled-last text numbers i l = ap (filled text) (drop_all i numbers l) ∙ filled-none text
