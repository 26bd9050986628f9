-- The last elements of a list, and messages added to a bag and removed again.
use Rattle.std.proofs.Common.{false, ◌≡◌, ℕ, ◌+◌, ◌-◌, ◌<◌, ◌≤◌, List, [], ◌∷◌, ◌++◌, suc, refl, ap, sym, ◌∙◌, arith, length, take, drop, get_or, inl, inr}
use Rattle.std.proofs.lemmas.Bool.{cases_Bool, ltb-true, ltb-false, lt-ltb, le-ltb}
use Rattle.std.proofs.lemmas.List.{get_or-drop, length-append, length-drop, take_more}
use Rattle.std.specs.Prelude.{nat_lt}
use Rattle.eventkey.proofs.Bags.{IsAscending-add, IsAscending-add_all, IsAscending-remove_all, copies-add, copies-add_all, copies-remove_all, remove_one_none, same_ascending}
use Rattle.eventkey.specs.Bag.{IsAscending, add, add_all, copies, is_among, remove_all, remove_one}
use Rattle.eventkey.specs.Message.{Message}
use Rattle.queues.specs.Queue.{but_last, last_of}

module _ {X : Type 0} where
  pub but_last-append : (xs ys : List X) (n : ℕ) → length ys ≡ n → but_last n (xs ++ ys) ≡ xs
  but_last-append [] [] n e = refl
  but_last-append [] (y ∷ ys) n e = rw (lt-ltb (length ys) n (omega arith)) refl
  but_last-append (x ∷ xs) ys n e = rw (le-ltb (length (xs ++ ys)) n (omega (arith, length-append xs ys))) (ap (λ (zs : List X). x ∷ zs) (but_last-append xs ys n e))

  last_of-all : (ys : List X) (n : ℕ) → length ys ≡ n → last_of n ys ≡ ys
  last_of-all [] n e = refl
  last_of-all (y ∷ ys) n e = rw (lt-ltb (length ys) n (omega arith)) refl

  pub last_of-append : (xs ys : List X) (n : ℕ) → length ys ≡ n → last_of n (xs ++ ys) ≡ ys
  last_of-append [] ys n e = last_of-all ys n e
  last_of-append (x ∷ xs) ys n e = rw (le-ltb (length (xs ++ ys)) n (omega (arith, length-append xs ys))) (last_of-append xs ys n e)

  pub but_last-take : (n : ℕ) (xs : List X) → n ≤ length xs → but_last n xs ≡ take (length xs - n) xs
  but_last-take n [] h = sym (ap (λ (k : ℕ). take k []) (let k : 0 - n ≡ 0 = omega arith in k))
  but_last-take n (x ∷ xs) h = elim (cases_Bool (nat_lt (length xs) n)) [
    | inl e ↦ let long = ltb-true (length xs) n e in rw e (sym (ap (λ (k : ℕ). take k (x ∷ xs)) (let k : suc (length xs) - n ≡ 0 = omega arith in k)))
    | inr e ↦ let short = ltb-false (length xs) n e in
        rw e (ap (λ (ys : List X). x ∷ ys) (but_last-take n xs short) ∙ sym (ap (λ (k : ℕ). take k (x ∷ xs)) (let k : suc (length xs) - n ≡ suc (length xs - n) = omega arith in k)))
  ]

  pub last_of-drop : (n : ℕ) (xs : List X) → n ≤ length xs → last_of n xs ≡ drop (length xs - n) xs
  last_of-drop n [] h = sym (ap (λ (k : ℕ). drop k []) (let k : 0 - n ≡ 0 = omega arith in k))
  last_of-drop n (x ∷ xs) h = elim (cases_Bool (nat_lt (length xs) n)) [
    | inl e ↦ let long = ltb-true (length xs) n e in rw e (sym (ap (λ (k : ℕ). drop k (x ∷ xs)) (let k : suc (length xs) - n ≡ 0 = omega arith in k)))
    | inr e ↦ let short = ltb-false (length xs) n e in
        rw e (last_of-drop n xs short ∙ sym (ap (λ (k : ℕ). drop k (x ∷ xs)) (let k : suc (length xs) - n ≡ suc (length xs - n) = omega arith in k)))
  ]

  pub next_of : (xs : List X) (i n : ℕ) (d : X) → i + n < length xs → take (n + 1) (drop i xs) ≡ take n (drop i xs) ++ get_or xs (i + n) d ∷ []
  next_of xs i n d h =
      take_more (drop i xs) n d (omega (arith, length-drop i xs)) ∙ ap (λ (x : X). take n (drop i xs) ++ x ∷ []) (get_or-drop i xs n d)

pub add_all-last : (xs bag : List Message) (m : Message) → add_all (xs ++ m ∷ []) bag ≡ add m (add_all xs bag)
add_all-last [] bag m = refl
add_all-last (x ∷ xs) bag m = add_all-last xs (add x bag) m

pub remove_all-last : (xs bag : List Message) (m : Message) → remove_all (xs ++ m ∷ []) bag ≡ remove_one m (remove_all xs bag)
remove_all-last [] bag m = refl
remove_all-last (x ∷ xs) bag m = remove_all-last xs (remove_one x bag) m

-- added messages are removed again
pub taken_out : (xs bag : List Message) → IsAscending bag → remove_all xs (add_all xs bag) ≡ bag
taken_out xs bag up =
    same_ascending (remove_all xs (add_all xs bag)) bag (IsAscending-remove_all xs (add_all xs bag) (IsAscending-add_all xs bag up)) up
    (λ y. omega (arith, copies-remove_all y xs (add_all xs bag) (λ x. omega (arith, copies-add_all x xs bag)), copies-add_all y xs bag))

pub put_first : (m : Message) (xs bag : List Message) → IsAscending bag → add_all xs (add m bag) ≡ add m (add_all xs bag)
put_first m xs bag up =
    same_ascending (add_all xs (add m bag)) (add m (add_all xs bag)) (IsAscending-add_all xs (add m bag) (IsAscending-add m bag up)) (IsAscending-add m (add_all xs bag) (IsAscending-add_all xs bag up))
    (λ y. omega (arith, copies-add_all y xs (add m bag), copies-add y m bag, copies-add y m (add_all xs bag), copies-add_all y xs bag))

pub put_one_back : (m : Message) (bag : List Message) → IsAscending bag → remove_one m (add m bag) ≡ bag
put_one_back m bag up = taken_out (m ∷ []) bag up

pub not_taken : (m : Message) (old new : List Message) → is_among m old ≡ false → new ≡ remove_one m old → new ≡ old
not_taken m old new e h = h ∙ remove_one_none m old (let none = ltb-false 0 (copies m old) e in omega arith)
