-- Messages grouped by time, with one message added or removed.
use Rattle.std.proofs.Common.{◌≡◌, ℕ, ◌+◌, ◌<◌, ◌≤◌, List, [], ◌∷◌, ◌++◌, Some, None, Less, Equal, Greater, true, false, refl, ap, sym, ◌∙◌, arith, length, nat_cmp, subst, inl, inr, ◌⊎◌}
use Rattle.std.proofs.lemmas.Bool.{cases_Bool, cond_both, lt-ltb, le-ltb, ltb-true, ltb-false}
use Rattle.std.proofs.lemmas.Cmp.{ranked, by_ranked}
use Rattle.std.proofs.lemmas.Option.{same_Some, none-some}
use Rattle.std.specs.BTreeMap.{insert_entry, is_at}
use Rattle.std.specs.List.{AllByRecursion as Every, slice_get}
use Rattle.std.specs.Map.{lookup, remove_entry, set_value}
use Rattle.eventkey.proofs.Bags.{IsAscending-add, IsAscending-remove_one, at_most_from_before, copies-add, copies-append, copies-remove_one, earlier_before, none_from_Every, one_if_same_itself, remove_one_none, same_ascending}
use Rattle.eventkey.proofs.Lists.{Every-add, Every-append, Every-remove_one, Every-weaker, IsAscending-append}
use Rattle.eventkey.specs.Bag.{IsAscending, add, copies, is_among, one_if_same, remove_one}
use Rattle.eventkey.specs.Message.{IsAtMost, Message, is_before, is_same}
use Rattle.queues.specs.Buckets.{IsAdded, IsBucket, IsLater, IsParted, all_of}

-- 1. The list ascends

late : (t : ℕ) (es : List (ℕ × List Message)) → IsLater t es → IsParted es → Every (λ (m : Message). t < m.time) (all_of es)
late t [] h p = tt
late t (e ∷ es) h p =
    let l : t < e.0 = h.0 in
    Every-append (λ (m : Message). t < m.time) e.1 (all_of es) (Every-weaker (λ (m : Message). m.time ≡ e.0) (λ (m : Message). t < m.time) (λ m q. omega arith) e.1 p.0.0.timed)
    (late t es h.1 p.1)

pub ascends : (es : List (ℕ × List Message)) → IsParted es → IsAscending (all_of es)
ascends [] p = tt
ascends (e ∷ es) p =
    IsAscending-append e.1 (all_of es) p.0.0.ascending (ascends es p.1)
    (Every-weaker (λ (w : Message). e.0 < w.time) (λ (w : Message). Every (λ (d : Message). IsAtMost d w) e.1)
    (λ w l. Every-weaker (λ (d : Message). d.time ≡ e.0) (λ (d : Message). IsAtMost d w) (λ d q. at_most_from_before d w (earlier_before d w (omega arith))) e.1 p.0.0.timed) (all_of es) (late e.0 es p.0.1 p.1))

-- 2. The bucket of a time

key_cases : (t k : ℕ) → ((t < k) × (nat_cmp t k ≡ Less)) ⊎ (((t ≡ k) × (nat_cmp t k ≡ Equal)) ⊎ ((k < t) × (nat_cmp t k ≡ Greater)))
key_cases t k = by_ranked (t < k) (t ≡ k) (k < t) (nat_cmp t k) (ranked t k (nat_cmp t k) refl) (λ e h. inl (h, e)) (λ e h. inr (inl (h, e))) (λ e h. inr (inr (h, e)))

none_later : (t : ℕ) (es : List (ℕ × List Message)) → IsLater t es → lookup (is_at (nat_cmp t)) es ≡ None
none_later t [] h = refl
none_later t (e ∷ es) h = elim (key_cases t e.0) [
  | inl l ↦ rw l.1 (none_later t es h.1)
  | inr r ↦ absurd (let l : t < e.0 = h.0 in elim r [ inl q ↦ (let f = q.0 in omega arith) | inr g ↦ (let f = g.0 in omega arith) ])
]

pub copies-absent : (m : Message) (es : List (ℕ × List Message)) → IsParted es → lookup (is_at (nat_cmp m.time)) es ≡ None → copies m (all_of es) ≡ 0
copies-absent m [] p h = refl
copies-absent m (e ∷ es) p h =
    let apart : (m.time ≡ e.0 → ⊥) → lookup (is_at (nat_cmp m.time)) es ≡ None → copies m (e.1 ++ all_of es) ≡ 0 = λ n r. omega (arith, copies-append m e.1 (all_of es), none_from_Every (λ (x : Message). x.time ≡ e.0) e.1 m p.0.0.timed n, copies-absent m es p.1 r) in
    elim (key_cases m.time e.0) [
      | inl l ↦ let r = rw l.1 at h in (let f = l.0 in apart (λ q. omega arith) r)
      | inr (inl q) ↦ absurd (let r = rw q.1 at h in none-some e.1 (sym r))
      | inr (inr g) ↦ let r = rw g.1 at h in (let f = g.0 in apart (λ q. omega arith) r)
    ]

pub found : (t : ℕ) (b : List Message) (es : List (ℕ × List Message)) → IsParted es → lookup (is_at (nat_cmp t)) es ≡ Some b → IsBucket t b
found t b [] p h = absurd (none-some b h)
found t b (e ∷ es) p h = elim (key_cases t e.0) [
  | inl l ↦ let r = rw l.1 at h in found t b es p.1 r
  | inr (inl q) ↦ let r = rw q.1 at h in subst (λ (c : List Message). IsBucket t c) (same_Some e.1 b r) (subst (λ (k : ℕ). IsBucket k e.1) (sym q.0) p.0.0)
  | inr (inr g) ↦ let r = rw g.1 at h in found t b es p.1 r
]

pub copies-found : (m : Message) (b : List Message) (es : List (ℕ × List Message)) → IsParted es → lookup (is_at (nat_cmp m.time)) es ≡ Some b → copies m (all_of es) ≡ copies m b
copies-found m b [] p h = absurd (none-some b h)
copies-found m b (e ∷ es) p h =
    let apart : (m.time ≡ e.0 → ⊥) → lookup (is_at (nat_cmp m.time)) es ≡ Some b → copies m (e.1 ++ all_of es) ≡ copies m b = λ n r. omega (arith, copies-append m e.1 (all_of es), none_from_Every (λ (x : Message). x.time ≡ e.0) e.1 m p.0.0.timed n, copies-found m b es p.1 r) in
    elim (key_cases m.time e.0) [
      | inl l ↦ let r = rw l.1 at h in (let f = l.0 in apart (λ q. omega arith) r)
      | inr (inl q) ↦ let r = rw q.1 at h in
          let same = ap (copies m) (same_Some e.1 b r) in
          let k = q.0 in
          let others = none_from_Every (λ (x : Message). e.0 < x.time) (all_of es) m (late e.0 es p.0.1 p.1) (λ l. omega arith) in
          omega (arith, copies-append m e.1 (all_of es))
      | inr (inr g) ↦ let r = rw g.1 at h in (let f = g.0 in apart (λ q. omega arith) r)
    ]

-- 3. A new bucket

later-insert : (k t : ℕ) (b : List Message) (es : List (ℕ × List Message)) → k < t → IsLater k es → IsLater k (insert_entry nat_cmp es t b)
later-insert k t b [] l h = (l, tt)
later-insert k t b (e ∷ es) l h = elim (key_cases t e.0) [
  | inl c ↦ rw c.1 (l, h)
  | inr (inl c) ↦ rw c.1 h
  | inr (inr c) ↦ rw c.1 (h.0, later-insert k t b es l h.1)
]

parted-insert : (t : ℕ) (b : List Message) (es : List (ℕ × List Message)) → IsBucket t b → IsParted es → lookup (is_at (nat_cmp t)) es ≡ None → IsParted (insert_entry nat_cmp es t b)
parted-insert t b [] k p h = ((k, tt), tt)
parted-insert t b (e ∷ es) k p h = elim (key_cases t e.0) [
  | inl c ↦ let l = c.0 in rw c.1 ((k, (l, Every-weaker (λ (f : ℕ × List Message). e.0 < f.0) (λ (f : ℕ × List Message). t < f.0) (λ f q. omega arith) es p.0.1)), p)
  | inr (inl c) ↦ absurd (let r = rw c.1 at h in none-some e.1 (sym r))
  | inr (inr c) ↦ let r = rw c.1 at h in rw c.1 ((p.0.0, later-insert e.0 t b es c.0 p.0.1), parted-insert t b es k p.1 r)
]

copies-insert : (x : Message) (t : ℕ) (b : List Message) (es : List (ℕ × List Message)) → lookup (is_at (nat_cmp t)) es ≡ None → copies x (all_of (insert_entry nat_cmp es t b)) ≡ copies x b + copies x (all_of es)
copies-insert x t b [] h = copies-append x b []
copies-insert x t b (e ∷ es) h = elim (key_cases t e.0) [
  | inl c ↦ rw c.1 (copies-append x b (e.1 ++ all_of es))
  | inr (inl c) ↦ absurd (let r = rw c.1 at h in none-some e.1 (sym r))
  | inr (inr c) ↦ let r = rw c.1 at h in rw c.1 (omega (arith, copies-append x e.1 (all_of (insert_entry nat_cmp es t b)), copies-append x e.1 (all_of es), copies-insert x t b es r))
]

-- 4. A replaced or a removed bucket

module _ (t : ℕ) where
  later-set : (k : ℕ) (w : List Message) (es : List (ℕ × List Message)) → IsLater k es → IsLater k (set_value (is_at (nat_cmp t)) es w)
  later-set k w [] h = tt
  later-set k w (e ∷ es) h = cond_both (is_at (nat_cmp t) e.0) ((e.0, w) ∷ es) (e ∷ set_value (is_at (nat_cmp t)) es w) (IsLater k) (λ _. h) (λ _. (h.0, later-set k w es h.1))

  parted-set : (w : List Message) (es : List (ℕ × List Message)) → IsBucket t w → IsParted es → IsParted (set_value (is_at (nat_cmp t)) es w)
  parted-set w [] k p = tt
  parted-set w (e ∷ es) k p = elim (key_cases t e.0) [
    | inl c ↦ rw c.1 ((p.0.0, later-set e.0 w es p.0.1), parted-set w es k p.1)
    | inr (inl c) ↦ rw c.1 ((subst (λ (n : ℕ). IsBucket n w) c.0 k, p.0.1), p.1)
    | inr (inr c) ↦ rw c.1 ((p.0.0, later-set e.0 w es p.0.1), parted-set w es k p.1)
  ]

  copies-set : (x : Message) (old w : List Message) (es : List (ℕ × List Message)) → lookup (is_at (nat_cmp t)) es ≡ Some old →
      copies x (all_of (set_value (is_at (nat_cmp t)) es w)) + copies x old ≡ copies x (all_of es) + copies x w
  copies-set x old w [] h = absurd (none-some old h)
  copies-set x old w (e ∷ es) h = elim (cases_Bool (is_at (nat_cmp t) e.0)) [
    | inl c ↦ let r = rw c at h in rw c (let same = ap (copies x) (same_Some e.1 old r) in omega (arith, copies-append x w (all_of es), copies-append x e.1 (all_of es)))
    | inr c ↦ let r = rw c at h in rw c (omega (arith, copies-append x e.1 (all_of (set_value (is_at (nat_cmp t)) es w)), copies-append x e.1 (all_of es), copies-set x old w es r))
  ]

  pub set_same : (w : List Message) (es : List (ℕ × List Message)) → lookup (is_at (nat_cmp t)) es ≡ Some w → set_value (is_at (nat_cmp t)) es w ≡ es
  set_same w [] h = refl
  set_same w (e ∷ es) h = elim (cases_Bool (is_at (nat_cmp t) e.0)) [
    | inl c ↦ let r = rw c at h in rw c (ap (λ (v : List Message). (e.0, v) ∷ es) (sym (same_Some e.1 w r)))
    | inr c ↦ let r = rw c at h in rw c (ap (λ (fs : List (ℕ × List Message)). e ∷ fs) (set_same w es r))
  ]

  pub insert_present : (old w : List Message) (es : List (ℕ × List Message)) → IsParted es → lookup (is_at (nat_cmp t)) es ≡ Some old → insert_entry nat_cmp es t w ≡ set_value (is_at (nat_cmp t)) es w
  insert_present old w [] p h = absurd (none-some old h)
  insert_present old w (e ∷ es) p h = elim (key_cases t e.0) [
    | inl c ↦ absurd (
        let r = rw c.1 at h in
        let l = c.0 in
        let n = none_later t es (Every-weaker (λ (f : ℕ × List Message). e.0 < f.0) (λ (f : ℕ × List Message). t < f.0) (λ f q. omega arith) es p.0.1) in
        none-some old (sym n ∙ r))
    | inr (inl c) ↦ rw c.1 refl
    | inr (inr c) ↦ let r = rw c.1 at h in rw c.1 (ap (λ (fs : List (ℕ × List Message)). e ∷ fs) (insert_present old w es p.1 r))
  ]

  later-remove : (k : ℕ) (es : List (ℕ × List Message)) → IsLater k es → IsLater k (remove_entry (is_at (nat_cmp t)) es)
  later-remove k [] h = tt
  later-remove k (e ∷ es) h = cond_both (is_at (nat_cmp t) e.0) es (e ∷ remove_entry (is_at (nat_cmp t)) es) (IsLater k) (λ _. h.1) (λ _. (h.0, later-remove k es h.1))

  parted-remove : (es : List (ℕ × List Message)) → IsParted es → IsParted (remove_entry (is_at (nat_cmp t)) es)
  parted-remove [] p = tt
  parted-remove (e ∷ es) p =
      cond_both (is_at (nat_cmp t) e.0) es (e ∷ remove_entry (is_at (nat_cmp t)) es) IsParted (λ _. p.1) (λ _. ((p.0.0, later-remove e.0 es p.0.1), parted-remove es p.1))

  copies-remove : (x : Message) (old : List Message) (es : List (ℕ × List Message)) → lookup (is_at (nat_cmp t)) es ≡ Some old →
      copies x (all_of (remove_entry (is_at (nat_cmp t)) es)) + copies x old ≡ copies x (all_of es)
  copies-remove x old [] h = absurd (none-some old h)
  copies-remove x old (e ∷ es) h = elim (cases_Bool (is_at (nat_cmp t) e.0)) [
    | inl c ↦ let r = rw c at h in rw c (let same = ap (copies x) (same_Some e.1 old r) in omega (arith, copies-append x e.1 (all_of es)))
    | inr c ↦ let r = rw c at h in rw c (omega (arith, copies-append x e.1 (all_of (remove_entry (is_at (nat_cmp t)) es)), copies-append x e.1 (all_of es), copies-remove x old es r))
  ]

  here : nat_cmp t t ≡ Equal
  here = elim (key_cases t t) [
    | inl c ↦ absurd (let l = c.0 in omega arith)
    | inr (inl c) ↦ c.1
    | inr (inr c) ↦ absurd (let l = c.0 in omega arith)
  ]

  pub insert_twice : (a b : List Message) (es : List (ℕ × List Message)) → insert_entry nat_cmp (insert_entry nat_cmp es t a) t b ≡ insert_entry nat_cmp es t b
  insert_twice a b [] = rw here refl
  insert_twice a b (e ∷ es) = elim (key_cases t e.0) [
    | inl c ↦ rw (c.1, here) refl
    | inr (inl c) ↦ rw c.1 (rw c.1 refl)
    | inr (inr c) ↦ rw c.1 (rw c.1 (ap (λ (fs : List (ℕ × List Message)). e ∷ fs) (insert_twice a b es)))
  ]

-- 5. The number of messages, and the first

pub length-add : (m : Message) (xs : List Message) → length (add m xs) ≡ length xs + 1
length-add m [] = refl
length-add m (x ∷ xs) = cond_both (is_before m x) (m ∷ x ∷ xs) (x ∷ add m xs) (λ ys. length ys ≡ length (x ∷ xs) + 1) (λ _. omega arith) (λ _. omega (arith, length-add m xs))

pub length-remove_one : (m : Message) (xs : List Message) → is_among m xs ≡ true → length (remove_one m xs) + 1 ≡ length xs
length-remove_one m xs h = counted xs (ltb-true 0 (copies m xs) h)
  where
    counted : (ys : List Message) → 1 ≤ copies m ys → length (remove_one m ys) + 1 ≡ length ys
    counted [] n = absurd (omega arith)
    counted (y ∷ ys) n =
        cond_both (is_same m y) ys (y ∷ remove_one m ys) (λ zs. length zs + 1 ≡ length (y ∷ ys)) (λ _. omega arith)
        (λ e. let f : one_if_same m y ≡ 0 = rw e in
        let more : 1 ≤ copies m ys = omega arith in
        omega (arith, counted ys more))

first_of-append : (xs ys : List Message) (x : Message) → slice_get xs 0 ≡ Some x → Some x ≡ slice_get (xs ++ ys) 0
first_of-append [] ys x e = absurd (none-some x e)
first_of-append (y ∷ xs) ys x e = sym e

pub first_of : (es : List (ℕ × List Message)) (k : ℕ) (b : List Message) (x : Message) → slice_get es 0 ≡ Some (k, b) → slice_get b 0 ≡ Some x → Some x ≡ slice_get (all_of es) 0
first_of [] k b x e f = absurd (none-some (k, b) e)
first_of (e ∷ es) k b x g f = let same = same_Some e (k, b) g in first_of-append e.1 (all_of es) x (ap (λ (p : ℕ × List Message). slice_get p.1 0) same ∙ f)

-- a lesser first message
pub first_ascends : (m x : Message) (xs bag : List Message) → is_before m x ≡ true → bag ≡ x ∷ xs → IsAscending (x ∷ xs) → IsAscending (m ∷ bag)
first_ascends m x xs bag b e up = let h = IsAscending-add m (x ∷ xs) up in subst (λ (ys : List Message). IsAscending (m ∷ ys)) (sym e) (rw b at h)

pub later_ascends : (m x : Message) (xs bag : List Message) → is_before m x ≡ false → bag ≡ add m xs → IsAscending (x ∷ xs) → IsAscending (x ∷ bag)
later_ascends m x xs bag b e up = let h = IsAscending-add m (x ∷ xs) up in subst (λ (ys : List Message). IsAscending (x ∷ ys)) (sym e) (rw b at h)

-- 6. One message added or removed

module _ (m : Message) (es : List (ℕ × List Message)) (p : IsParted es) where
  -- an ascending list with one more copy of m
  added : (fs : List (ℕ × List Message)) → IsParted fs → ((x : Message) → copies x (all_of fs) ≡ copies x (m ∷ []) + copies x (all_of es)) → IsAdded m es fs
  added fs k h =
      let all = same_ascending (all_of fs) (add m (all_of es)) (ascends fs k) (IsAscending-add m (all_of es) (ascends es p)) (λ x. omega (arith, h x, copies-add x m (all_of es))) in
      record { parted = k; all = all; many = ap length all ∙ length-add m (all_of es) }

  pub add_absent : lookup (is_at (nat_cmp m.time)) es ≡ None → IsAdded m es (insert_entry nat_cmp es m.time (m ∷ []))
  add_absent h =
      added (insert_entry nat_cmp es m.time (m ∷ [])) (parted-insert m.time (m ∷ []) es (record { ascending = (tt, tt); some = omega arith; timed = (refl, tt) }) p h) (λ x. copies-insert x m.time (m ∷ []) es h)

  pub add_present : (b : List Message) → lookup (is_at (nat_cmp m.time)) es ≡ Some b → IsAdded m es (insert_entry nat_cmp es m.time (add m b))
  add_present b h =
      let k = found m.time b es p h in
      let more : IsBucket m.time (add m b) = record { ascending = IsAscending-add m b k.ascending; some = omega (arith, length-add m b); timed = Every-add (λ (x : Message). x.time ≡ m.time) m b refl k.timed } in
      subst (IsAdded m es) (sym (insert_present m.time b (add m b) es p h))
      (added (set_value (is_at (nat_cmp m.time)) es (add m b)) (parted-set m.time (add m b) es more p) (λ x. omega (arith, copies-set m.time x b (add m b) es h, copies-add x m b)))

  pub put_back : (b : List Message) → lookup (is_at (nat_cmp m.time)) es ≡ Some b → insert_entry nat_cmp (insert_entry nat_cmp es m.time (m ∷ [])) m.time b ≡ es
  put_back b h = insert_twice m.time (m ∷ []) b es ∙ (insert_present m.time b b es p h ∙ set_same m.time b es h)

  pub add_again : (b : List Message) → lookup (is_at (nat_cmp m.time)) es ≡ Some b → IsAdded m es (insert_entry nat_cmp (insert_entry nat_cmp es m.time (m ∷ [])) m.time (add m b))
  add_again b h = subst (IsAdded m es) (sym (insert_twice m.time (m ∷ []) (add m b) es)) (add_present b h)

  pub record IsRemoved (fs : List (ℕ × List Message)) : Type 0 where
    pub parted : IsParted fs
    pub among : is_among m (all_of es) ≡ true
    pub all : all_of fs ≡ remove_one m (all_of es)
    pub long : length (all_of fs) + 1 ≡ length (all_of es)

  -- an ascending list with one copy of m less
  removed : (fs : List (ℕ × List Message)) → IsParted fs → ((x : Message) → copies x (all_of fs) + copies x (m ∷ []) ≡ copies x (all_of es)) → IsRemoved fs
  removed fs k h =
      let there : 1 ≤ copies m (all_of es) = omega (arith, h m, one_if_same_itself m) in
      let among : is_among m (all_of es) ≡ true = lt-ltb 0 (copies m (all_of es)) there in
      let all = same_ascending (all_of fs) (remove_one m (all_of es)) (ascends fs k) (IsAscending-remove_one m (all_of es) (ascends es p)) (λ x. omega (arith, h x, copies-remove_one x m (all_of es) there)) in
      record { parted = k; among = among; all = all; long = omega (arith, ap length all, length-remove_one m (all_of es) among) }

  pub remove_gone : (b : List Message) → lookup (is_at (nat_cmp m.time)) es ≡ Some b → is_among m b ≡ true → 0 < length (remove_one m b) → IsRemoved (set_value (is_at (nat_cmp m.time)) es (remove_one m b))
  remove_gone b h a l =
      let k = found m.time b es p h in
      let less : IsBucket m.time (remove_one m b) = record { ascending = IsAscending-remove_one m b k.ascending; some = l; timed = Every-remove_one (λ (x : Message). x.time ≡ m.time) m b k.timed } in
      removed (set_value (is_at (nat_cmp m.time)) es (remove_one m b)) (parted-set m.time (remove_one m b) es less p)
      (λ x. omega (arith, copies-set m.time x b (remove_one m b) es h, copies-remove_one x m b (ltb-true 0 (copies m b) a)))

  pub remove_last : lookup (is_at (nat_cmp m.time)) es ≡ Some (m ∷ []) → IsRemoved (remove_entry (is_at (nat_cmp m.time)) es)
  remove_last h = removed (remove_entry (is_at (nat_cmp m.time)) es) (parted-remove m.time es p) (λ x. copies-remove m.time x (m ∷ []) es h)

  pub not_found : lookup (is_at (nat_cmp m.time)) es ≡ None → (is_among m (all_of es) ≡ false) × (all_of es ≡ remove_one m (all_of es))
  not_found h = let n = copies-absent m es p h in (le-ltb 0 (copies m (all_of es)) (omega arith), sym (remove_one_none m (all_of es) n))

  pub not_in : (b : List Message) → lookup (is_at (nat_cmp m.time)) es ≡ Some b → is_among m b ≡ false → (is_among m (all_of es) ≡ false) × (all_of es ≡ remove_one m (all_of es))
  not_in b h a =
      let n = copies-found m b es p h in
      let none = ltb-false 0 (copies m b) a in
      (le-ltb 0 (copies m (all_of es)) (omega arith), sym (remove_one_none m (all_of es) (omega arith)))
