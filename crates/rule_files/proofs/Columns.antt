-- The column of an element of an array.
use Rattle.std.proofs.Common.{◌≡◌, ◌≤◌, ℕ, ◌+◌, ◌/◌, ◌%◌, ◌^◌, List, true, false, ap, sym, ◌∙◌, arith, slice_index, if◌then◌else◌}
use Rattle.std.proofs.lemmas.Bool.Decides.{nat_tests}
use Rattle.rules.specs.ElementLaws.{HasElement, shift_fits}
use Rattle.rules.specs.Elements.{element, has_element, shift_of, word_of}
use Rattle.rules.specs.declared.arrays.Array.{Array}
use Rattle.texts.specs.Names.{bits_in, lacks, number_of, word_at}

has_bits : (shift bits : ℕ) → 1 ≤ bits → shift + bits ≤ 64 → lacks shift bits ≡ false
has_bits shift bits some fits = grind (arith, nat_tests)

is_there : (a : Array) (i : ℕ) → HasElement a i → has_element a i ≡ true
is_there a i h = let w = h.within in let s = h.some in let f = h.few in grind (arith, nat_tests)

pub column_is : (a : Array) (i place shift : ℕ) (state : List ℕ) → HasElement a i → place ≡ word_of a i → shift ≡ shift_of a i
    → number_of place shift a.bits state ≡ element a state i
column_is a i place shift state h p s =
    ap (λ q. number_of q shift a.bits state) p ∙ ap (λ t. number_of (word_of a i) t a.bits state) s
    ∙ ap (λ b. if b then 0 else bits_in (word_at state (word_of a i)) (shift_of a i) a.bits) (has_bits (shift_of a i) a.bits h.some (shift_fits a h.some h.few i))
    ∙ sym (ap (λ b. if b then slice_index state (word_of a i) / 2 ^ shift_of a i % 2 ^ a.bits else 0) (is_there a i h))
