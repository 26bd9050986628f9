-- What a write to an array leaves: the element is what was written, as far as it fits; all other
-- elements, and the words outside the array, stay.
use Rattle.std.specs.Prelude.{◌≡◌, ◌≢◌, ◌≤◌, ◌<◌, ℕ, ◌+◌, ◌-◌, ◌*◌, ◌/◌, ◌%◌, ◌^◌, List, Bool}
use Rattle.std.specs.Prelude.{true, false, length, min, refl, slice_index, slice_set}
use Rattle.std.specs.Prelude.{if◌then◌else◌}
use Rattle.std.proofs.Common.{arith, ap, sym, subst, ◌∙◌, inl, inr, lit<}
use Rattle.std.proofs.lemmas.Bool.{cases_eq, cases_lt, cond_both}
use Rattle.std.proofs.lemmas.Bool.Decides.{nat_tests}
use Rattle.std.proofs.lemmas.List.{get_or-set_other, get_or-set_same, set_past}
use Rattle.std.proofs.lemmas.Nat.{div-add-mod', field_of, le-div, mod-pow-add, mod_below, mod_low, one_shl}
use Rattle.std.proofs.lemmas.Nat.{mul-add-lt, pow-add, pow_pos, row_fits, shr-shr, shr_below}
use Rattle.std.proofs.lemmas.Nat.{shr_high}
use Rattle.std.proofs.Math.Nat.{div-le_self, div-mul-le_self, le-mul_of_pos_right, mod-eq_of_lt}
use Rattle.std.proofs.Math.Nat.{mod-le}
use Rattle.std.specs.List.{AllByRecursion as Every}
use Rattle.model.proofs.ForLaws.{Every-get_or-default, Every-set}
use Rattle.rules.specs.Elements.{cut, element, has_element, per_word, shift_of, with_bits}
use Rattle.rules.specs.Elements.{with_element, word_of, words_of}
use Rattle.rules.specs.declared.arrays.Array.{Array}

-- 1. Bits of a word

cut_fits : (b n : ℕ) → min n (2 ^ b - 1) < 2 ^ b
cut_fits b n = omega (arith, pow_pos b)

-- a remainder by a greater power of two keeps the lower bits
lower_bits : (x s r : ℕ) → r ≤ s → x % 2 ^ s % 2 ^ r ≡ x % 2 ^ r
lower_bits x s r le =
    let whole : s ≡ (s - r) + r = omega arith in
    ap (λ m. x % 2 ^ m % 2 ^ r) whole
    ∙ ap (λ m. m % 2 ^ r) (mod-pow-add x (s - r) r)
    ∙ mod_low (x / 2 ^ r % 2 ^ (s - r)) r (x % 2 ^ r) (mod_below x (2 ^ r) (pow_pos r))

module _ (word s b n : ℕ) where
  abbrev made : ℕ
  made = with_bits word s b n

  abbrev above : ℕ
  above = word / 2 ^ (s + b)

  from_there : made / 2 ^ s ≡ above * 2 ^ b + min n (2 ^ b - 1)
  from_there = shr_high (above * 2 ^ b + min n (2 ^ b - 1)) s (word % 2 ^ s)
      (mod_below word (2 ^ s) (pow_pos s))

  pub written : made / 2 ^ s % 2 ^ b ≡ min n (2 ^ b - 1)
  written = ap (λ m. m % 2 ^ b) from_there ∙ mod_low above b (min n (2 ^ b - 1)) (cut_fits b n)

  below_stays : made % 2 ^ s ≡ word % 2 ^ s
  below_stays = mod_low (above * 2 ^ b + min n (2 ^ b - 1)) s (word % 2 ^ s)
      (mod_below word (2 ^ s) (pow_pos s))

  above_stays : made / 2 ^ (s + b) ≡ above
  above_stays = sym (shr-shr made s b) ∙ ap (λ m. m / 2 ^ b) from_there
      ∙ shr_high above b (min n (2 ^ b - 1)) (cut_fits b n)

  pub lower_stays : (t c : ℕ) → c + t ≤ s → made / 2 ^ t % 2 ^ c ≡ word / 2 ^ t % 2 ^ c
  lower_stays t c le =
      let same : made % 2 ^ (c + t) ≡ word % 2 ^ (c + t) =
      sym (lower_bits made s (c + t) le) ∙ ap (λ m. m % 2 ^ (c + t)) below_stays
      ∙ lower_bits word s (c + t) le in
      sym (field_of made c t) ∙ ap (λ m. m / 2 ^ t) same ∙ field_of word c t

  pub higher_stays : (t : ℕ) → s + b ≤ t → made / 2 ^ t ≡ word / 2 ^ t
  higher_stays t le =
      let whole : t ≡ (s + b) + (t - (s + b)) = omega arith in
      ap (λ m. made / 2 ^ m) whole ∙ sym (shr-shr made (s + b) (t - (s + b)))
      ∙ ap (λ m. m / 2 ^ (t - (s + b))) above_stays
      ∙ shr-shr word (s + b) (t - (s + b)) ∙ ap (λ m. word / 2 ^ m) (sym whole)

  pub made_fits : s + b ≤ 64 → word < 2 ^ 64 → made < 2 ^ 64
  made_fits le fits =
      let whole : 64 ≡ (64 - (s + b)) + (s + b) = omega arith in
      let high : above < 2 ^ (64 - (s + b)) =
      shr_below word (64 - (s + b)) (s + b) (subst (λ m. word < 2 ^ m) whole fits) in
      let inner = mul-add-lt above (2 ^ b) (min n (2 ^ b - 1)) (2 ^ (64 - (s + b))) high (cut_fits b n) in
      let outer = mul-add-lt (above * 2 ^ b + min n (2 ^ b - 1)) (2 ^ s) (word % 2 ^ s)
      (2 ^ b * 2 ^ (64 - (s + b))) inner (mod_below word (2 ^ s) (pow_pos s)) in
      let sum : s + (b + (64 - (s + b))) ≡ 64 = omega arith in
      let all : 2 ^ s * (2 ^ b * 2 ^ (64 - (s + b))) ≡ 2 ^ 64 =
      ap (λ m. 2 ^ s * m) (sym (pow-add 2 b (64 - (s + b))))
      ∙ sym (pow-add 2 s (b + (64 - (s + b)))) ∙ ap (λ m. 2 ^ m) sum in
      omega (arith, outer, all)

  -- the same by shifts in 64 bits

  abbrev inner : ℕ
  inner = above * 2 ^ b + min n (2 ^ b - 1)

  pub inner_is : (m : ℕ) → word < 2 ^ 64 → b < 64 → m ≡ min n (1 * 2 ^ b % 2 ^ 64 - 1) →
      word / 2 ^ s / 2 ^ b * 2 ^ b % 2 ^ 64 + m ≡ inner
  inner_is m fits lt is =
      let small : word / 2 ^ s / 2 ^ b * 2 ^ b < 2 ^ 64 =
      omega (arith, div-mul-le_self (word / 2 ^ s) (2 ^ b), div-le_self word (2 ^ s)) in
      ap (λ x. x + m) (mod-eq_of_lt small ∙ ap (λ a. a * 2 ^ b) (shr-shr word s b))
      ∙ ap (λ x. above * 2 ^ b + x) (is ∙ ap (λ k. min n (k - 1)) (one_shl b 64 lt))

  pub inner_fits : s + b ≤ 64 → word < 2 ^ 64 → inner < 2 ^ 64
  inner_fits le fits =
      omega (arith, made_fits le fits, le-mul_of_pos_right inner (pow_pos s))

  pub shifted_is : (m : ℕ) → s + b ≤ 64 → s < 64 → word < 2 ^ 64 → m ≡ inner →
      m * 2 ^ s % 2 ^ 64 + word % (1 * 2 ^ s % 2 ^ 64) ≡ made
  shifted_is m le lt fits is =
      let small : inner * 2 ^ s < 2 ^ 64 = omega (arith, made_fits le fits) in
      ap (λ x. x * 2 ^ s % 2 ^ 64 + word % (1 * 2 ^ s % 2 ^ 64)) is
      ∙ ap (λ x. x + word % (1 * 2 ^ s % 2 ^ 64)) (mod-eq_of_lt small)
      ∙ ap (λ u. inner * 2 ^ s + word % u) (one_shl s 64 lt)

-- 2. Elements of an array

either_fits : (b : Bool) (m n : ℕ) → m < 2 ^ 64 → n < 2 ^ 64 → (if b then m else n) < 2 ^ 64
either_fits true m n p q = p
either_fits false m n p q = q

pub element_fits : (a : Array) (words : List ℕ) (i : ℕ) → slice_index words (word_of a i) < 2 ^ 64 →
    element a words i < 2 ^ 64
element_fits a words i fits =
    let word = slice_index words (word_of a i) in
    either_fits (has_element a i) (word / 2 ^ shift_of a i % 2 ^ a.bits) 0
    (omega (arith, mod-le (word / 2 ^ shift_of a i) (2 ^ a.bits), div-le_self word (2 ^ shift_of a i)))
    (lit< tt)

-- what an array with such an element is
pub record HasElement (a : Array) (i : ℕ) : Type 0 where
  pub within : i < a.count
  pub some : 1 ≤ a.bits
  pub few : a.bits ≤ 64

pub has-element : (a : Array) (i : ℕ) → has_element a i ≡ true → HasElement a i
has-element a i e = record {
  within = grind (arith, nat_tests);
  some = grind (arith, nat_tests);
  few = grind (arith, nat_tests);
}

module _ (a : Array) (some : 1 ≤ a.bits) (few : a.bits ≤ 64) where
  pub per_some : 1 ≤ per_word a
  per_some = le-div 1 64 a.bits some (omega arith)

  -- an element lies within its word
  pub shift_fits : (i : ℕ) → shift_of a i + a.bits ≤ 64
  shift_fits i =
      let row = row_fits (i % per_word a) a.bits (per_word a) a.bits
      (mod_below i (per_word a) per_some) (omega arith) in
      omega (arith, row, div-mul-le_self 64 a.bits)

  -- two elements of a word do not meet
  apart : (i j : ℕ) → i % per_word a < j % per_word a → shift_of a i + a.bits ≤ shift_of a j
  apart i j lt = row_fits (i % per_word a) a.bits (j % per_word a) a.bits lt (omega arith)

  other_place : (i j : ℕ) → j ≢ i → word_of a j ≡ word_of a i →
      (i % per_word a ≡ j % per_word a) → ⊥
  other_place i j other same equal =
      let row : j / per_word a ≡ i / per_word a = omega (arith, same) in
      other (sym (div-add-mod' j (per_word a))
      ∙ ap (λ m. m * per_word a + j % per_word a) row
      ∙ ap (λ m. i / per_word a * per_word a + m) (sym equal)
      ∙ div-add-mod' i (per_word a))

  -- another element of the word that is written
  same_word : (word n i j : ℕ) → j ≢ i → word_of a j ≡ word_of a i →
      with_bits word (shift_of a i) a.bits n / 2 ^ shift_of a j % 2 ^ a.bits
      ≡ word / 2 ^ shift_of a j % 2 ^ a.bits
  same_word word n i j other same = elim (cases_lt (i % per_word a) (j % per_word a)) [
    | inl before ↦ ap (λ m. m % 2 ^ a.bits)
        (higher_stays word (shift_of a i) a.bits n (shift_of a j) (apart i j before))
    | inr behind ↦ elim (cases_lt (j % per_word a) (i % per_word a)) [
      | inl after ↦ lower_stays word (shift_of a i) a.bits n (shift_of a j) a.bits
          (omega (arith, apart j i after))
      | inr equal ↦ absurd (other_place i j other same (omega (arith, behind, equal)))
    ]
  ]

module _ (a : Array) (words : List ℕ) (i n : ℕ) where
  abbrev there : ℕ
  there = word_of a i

  abbrev new_word : ℕ
  new_word = with_bits (slice_index words there) (shift_of a i) a.bits n

  -- numbers of 64 bits stay such
  pub written_fits : Every (λ m. m < 2 ^ 64) words → Every (λ m. m < 2 ^ 64) (with_element a words i n)
  written_fits all = cond_both (has_element a i) (slice_set words there new_word) words
      (λ ws. Every (λ m. m < 2 ^ 64) ws)
      (λ e. let has = has-element a i e in
      Every-set (λ m. m < 2 ^ 64) words there new_word
      (made_fits (slice_index words there) (shift_of a i) a.bits n (shift_fits a has.some has.few i)
      (Every-get_or-default (λ m. m < 2 ^ 64) words there 0 all (lit< tt))) all)
      (λ e. all)

  pub written_is : has_element a i ≡ true → there < length words →
      element a (with_element a words i n) i ≡ cut a n
  written_is has lt =
      ap (λ b. element a (if b then slice_set words there new_word else words) i) has
      ∙ ap (λ b. if b then slice_index (slice_set words there new_word) there / 2 ^ shift_of a i % 2 ^ a.bits else 0) has
      ∙ ap (λ m. m / 2 ^ shift_of a i % 2 ^ a.bits) (get_or-set_same words there new_word 0 lt)
      ∙ written (slice_index words there) (shift_of a i) a.bits n

  abbrev bits_at : List ℕ → ℕ → ℕ
  bits_at ws j = slice_index ws (word_of a j) / 2 ^ shift_of a j % 2 ^ a.bits

  other_bits : HasElement a i → (j : ℕ) → j ≢ i →
      bits_at (slice_set words there new_word) j ≡ bits_at words j
  other_bits has j other = elim (cases_eq (word_of a j) there) [
    | inr apart ↦ ap (λ m. m / 2 ^ shift_of a j % 2 ^ a.bits)
        (get_or-set_other words there (word_of a j) new_word 0 apart)
    | inl same ↦ elim (cases_lt there (length words)) [
      | inl lt ↦ ap (λ m. slice_index (slice_set words there new_word) m / 2 ^ shift_of a j % 2 ^ a.bits) same
          ∙ ap (λ m. m / 2 ^ shift_of a j % 2 ^ a.bits) (get_or-set_same words there new_word 0 lt)
          ∙ same_word a has.some has.few (slice_index words there) n i j other same
          ∙ ap (λ m. slice_index words m / 2 ^ shift_of a j % 2 ^ a.bits) (sym same)
      | inr past ↦ ap (λ ws. bits_at ws j) (set_past words there new_word past)
    ]
  ]

  pub others_stay : (j : ℕ) → j ≢ i → element a (with_element a words i n) j ≡ element a words j
  others_stay j other = cond_both (has_element a i) (slice_set words there new_word) words
      (λ ws. element a ws j ≡ element a words j)
      (λ e. ap (λ m. if has_element a j then m else 0) (other_bits (has-element a i e) j other))
      (λ e. refl)

  -- the word of an element is one of the array's words
  within_words : HasElement a i → (a.place ≤ there) × (there < a.place + words_of a)
  within_words has =
      let some = per_some a has.some has.few in
      let row : (i / per_word a + 1) * per_word a ≤ a.count + per_word a - 1 =
      omega (arith, div-mul-le_self i (per_word a), has.within, some) in (
        omega arith,
        omega (arith, le-div (i / per_word a + 1) (a.count + per_word a - 1) (per_word a) some row),
      )

  pub outside_stays : (place : ℕ) → ¬ ((a.place ≤ place) × (place < a.place + words_of a)) →
      slice_index (with_element a words i n) place ≡ slice_index words place
  outside_stays place out = cond_both (has_element a i) (slice_set words there new_word) words
      (λ ws. slice_index ws place ≡ slice_index words place)
      (λ e. let within = within_words (has-element a i e) in
      get_or-set_other words there place new_word 0 (λ same. out (subst (λ m. (a.place ≤ m) × (m < a.place + words_of a)) (sym same) within)))
      (λ e. refl)
