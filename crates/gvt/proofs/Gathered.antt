-- The reports, in one list: those of one process, those before a time, and the list without the
-- first report of a process.
use Rattle.std.proofs.Common.{◌≡◌, ℕ, ◌+◌, ◌<◌, ◌≤◌, Bool, true, false, not, List, [], ◌∷◌, ◌++◌, filter, refl, sym, ap, ◌∙◌, subst, arith, nat_lt, ◌==◌, inl, inr, set, get_or, length, length-set, get_or-set_same, get_or-set_other, lt-ltb, ltb-true, ltb-false}
use Rattle.std.proofs.lemmas.Bool.{cases_Bool, cases_eq, cond_both, cond-true, cond-false, both_ways, eq-eqb, ne_eqb, not_from_true}
use Rattle.std.proofs.lemmas.List.Concat.{flat_map-append}
use Rattle.std.proofs.lemmas.List.Elements.{filter-append}
use Rattle.std.specs.List.{AllByRecursion as Every}
use Rattle.eventkey.proofs.Bags.{copies-append, one_if_same_cases, one_if_same_itself}
use Rattle.eventkey.specs.Bag.{copies, one_if_same}
use Rattle.eventkey.specs.Message.{Message}
use Rattle.process.specs.declared.Done.{Done}
use Rattle.process.specs.Process.{number_after, state_after}
use Rattle.gvt.specs.System.{reported_messages, reported_sends, reported_by}
use Rattle.gvt.specs.Moves.{reported_numbers, reported_states, reported_before, reported_from}

-- 1. Filters

module _ {X : Type 0} (test : X → Bool) where
  pub filter_with : (ls : List X) (x : X) (rs : List X) → test x ≡ true → filter test (ls ++ x ∷ rs) ≡ filter test ls ++ x ∷ filter test rs
  filter_with ls x rs e = filter-append test ls (x ∷ rs) ∙ ap (λ ys. filter test ls ++ ys) (cond-true (test x) (x ∷ filter test rs) (filter test rs) e)

  pub filter_without : (ls : List X) (x : X) (rs : List X) → test x ≡ false → filter test (ls ++ x ∷ rs) ≡ filter test (ls ++ rs)
  filter_without ls x rs e =
      filter-append test ls (x ∷ rs) ∙ ap (λ ys. filter test ls ++ ys) (cond-false (test x) (x ∷ filter test rs) (filter test rs) e) ∙ sym (filter-append test ls rs)

  pub filter_swap : (other : X → Bool) (xs : List X) → filter test (filter other xs) ≡ filter other (filter test xs)
  filter_swap other [] = refl
  filter_swap other (x ∷ xs) = elim (cases_Bool (test x)) [
    | inl e ↦ elim (cases_Bool (other x)) [
      | inl f ↦ rw (e, f, e) (ap (λ ys. x ∷ ys) (filter_swap other xs))
      | inr f ↦ rw (e, f) (filter_swap other xs)
    ]
    | inr e ↦ elim (cases_Bool (other x)) [
      | inl f ↦ rw (e, f, e) (filter_swap other xs)
      | inr f ↦ rw (e, f) (filter_swap other xs)
    ]
  ]

-- 2. The reports of a process, and those before a time

pub reported_by-cons : (lp : ℕ) (d : Done) (ds : List Done) → d.message.to ≡ lp → reported_by lp (d ∷ ds) ≡ d ∷ reported_by lp ds
reported_by-cons lp d ds e = cond-true (d.message.to == lp) (d ∷ reported_by lp ds) (reported_by lp ds) (eq-eqb d.message.to lp e)

pub reported_by-other : (lp : ℕ) (d : Done) (ds : List Done) → (d.message.to ≡ lp → ⊥) → reported_by lp (d ∷ ds) ≡ reported_by lp ds
reported_by-other lp d ds ne = cond-false (d.message.to == lp) (d ∷ reported_by lp ds) (reported_by lp ds) (ne_eqb d.message.to lp ne)

pub reported_before-cons : (c : ℕ) (d : Done) (ds : List Done) → d.message.time < c → reported_before c (d ∷ ds) ≡ d ∷ reported_before c ds
reported_before-cons c d ds h = cond-true (nat_lt d.message.time c) (d ∷ reported_before c ds) (reported_before c ds) (lt-ltb d.message.time c h)

pub copies-reported_by : (x : Message) (lp : ℕ) (ds : List Done) → x.to ≡ lp → copies x (reported_messages (reported_by lp ds)) ≡ copies x (reported_messages ds)
copies-reported_by x lp [] own = refl
copies-reported_by x lp (d ∷ ds) own =
    cond_both (d.message.to == lp) (d ∷ reported_by lp ds) (reported_by lp ds) (λ zs. copies x (reported_messages zs) ≡ one_if_same x d.message + copies x (reported_messages ds))
    (λ _. omega (arith, copies-reported_by x lp ds own))
    (λ e. elim (one_if_same_cases x d.message) [
      | inl f ↦ absurd (both_ways (d.message.to == lp) e (eq-eqb d.message.to lp (sym (ap (λ (y : Message). y.to) f.0) ∙ own)))
      | inr f ↦ (let g = f.1 in omega (arith, copies-reported_by x lp ds own))
    ])

pub copies-reported_before : (x : Message) (c : ℕ) (ds : List Done) → x.time < c → copies x (reported_messages (reported_before c ds)) ≡ copies x (reported_messages ds)
copies-reported_before x c [] h = refl
copies-reported_before x c (d ∷ ds) h =
    cond_both (nat_lt d.message.time c) (d ∷ reported_before c ds) (reported_before c ds) (λ zs. copies x (reported_messages zs) ≡ one_if_same x d.message + copies x (reported_messages ds))
    (λ _. omega (arith, copies-reported_before x c ds h))
    (λ e. elim (one_if_same_cases x d.message) [
      | inl f ↦ absurd (both_ways (nat_lt d.message.time c) e (lt-ltb d.message.time c (subst (λ (y : Message). y.time < c) f.0 h)))
      | inr f ↦ (let g = f.1 in omega (arith, copies-reported_before x c ds h))
    ])

pub before_is_early : (c : ℕ) (ds : List Done) → Every (λ (d : Done). d.message.time < c) (reported_before c ds)
before_is_early c [] = tt
before_is_early c (d ∷ ds) =
    cond_both (nat_lt d.message.time c) (d ∷ reported_before c ds) (reported_before c ds) (Every (λ (d : Done). d.message.time < c))
    (λ e. (ltb-true d.message.time c e, before_is_early c ds))
    (λ _. before_is_early c ds)

-- if no report is before c, all are from c on
pub none_before : (c : ℕ) (ds : List Done) → ((x : Message) → copies x (reported_messages (reported_before c ds)) ≡ 0) → (reported_before c ds ≡ []) × (reported_from c ds ≡ ds) × Every (λ (d : Done). c ≤ d.message.time) ds
none_before c [] none = (refl, refl, tt)
none_before c (d ∷ ds) none = elim (cases_Bool (nat_lt d.message.time c)) [
  | inl e ↦ absurd (let f = rw e at (none d.message) in omega (arith, f, one_if_same_itself d.message))
  | inr e ↦
      (let rest = none_before c ds (λ x. rw e at (none x)) in
      (rw e rest.0, rw e (ap (λ (es : List Done). d ∷ es) rest.1), (ltb-false d.message.time c e, rest.2)))
]

-- no report sent x if no process reported a send of x
pub none_reported : (lps : ℕ) (x : Message) (ds : List Done) → Every (λ (d : Done). d.message.to < lps) ds → ((lp : ℕ) → lp < lps → copies x (reported_sends (reported_by lp ds)) ≡ 0) → copies x (reported_sends ds) ≡ 0
none_reported lps x [] there none = refl
none_reported lps x (d ∷ ds) there none =
    let all = none d.message.to there.0 in
    let mine : copies x (reported_sends (d ∷ reported_by d.message.to ds)) ≡ 0 = subst (λ zs. copies x (reported_sends zs) ≡ 0) (reported_by-cons d.message.to d ds refl) all in
    let rest = none_reported lps x ds there.1 (λ lp l.
    cond_both (d.message.to == lp) (d ∷ reported_by lp ds) (reported_by lp ds) (λ zs. copies x (reported_sends zs) ≡ 0 → copies x (reported_sends (reported_by lp ds)) ≡ 0)
    (λ _ e. omega (arith, copies-append x d.sent (reported_sends (reported_by lp ds))))
    (λ _ e. e) (none lp l)) in
    omega (arith, copies-append x d.sent (reported_sends (reported_by d.message.to ds)), copies-append x d.sent (reported_sends ds))

-- 3. The first report of a process

pub record IsSplit (lp : ℕ) (d : Done) (rest ds : List Done) : Type 0 where
  pub before : List Done
  pub after : List Done
  pub is : ds ≡ before ++ d ∷ after
  pub none : reported_by lp before ≡ []
  pub left : reported_by lp after ≡ rest

pub split_first : (lp : ℕ) (d : Done) (rest ds : List Done) → reported_by lp ds ≡ d ∷ rest → IsSplit lp d rest ds
split_first lp d rest [] e = absurd (cc)
split_first lp d rest (y ∷ ds) e = elim (cases_Bool (y.message.to == lp)) [
  | inl f ↦
      (let g : y ∷ reported_by lp ds ≡ d ∷ rest = sym (cond-true (y.message.to == lp) (y ∷ reported_by lp ds) (reported_by lp ds) f) ∙ e in
      let same : y ≡ d = cc in
      let left : reported_by lp ds ≡ rest = cc in
      record { before = []; after = ds; is = ap (λ (z : Done). z ∷ ds) same; none = refl; left = left })
  | inr f ↦
      (let g : reported_by lp ds ≡ d ∷ rest = sym (cond-false (y.message.to == lp) (y ∷ reported_by lp ds) (reported_by lp ds) f) ∙ e in
      let s = split_first lp d rest ds g in
      record {
        before = y ∷ s.before;
        after = s.after;
        is = ap (λ (zs : List Done). y ∷ zs) s.is;
        none = cond-false (y.message.to == lp) (y ∷ reported_by lp s.before) (reported_by lp s.before) f ∙ s.none;
        left = s.left;
      })
]

pub Every-without : {X : Type 0} (P : X → Type 0) (ls : List X) (x : X) (rs : List X) → Every P (ls ++ x ∷ rs) → Every P (ls ++ rs)
Every-without P [] x rs h = h.1
Every-without P (l ∷ ls) x rs h = (h.0, Every-without P ls x rs h.1)

pub copies-reported_without : (y : Message) (ls : List Done) (d : Done) (rs : List Done) → copies y (reported_messages (ls ++ d ∷ rs)) ≡ one_if_same y d.message + copies y (reported_messages (ls ++ rs))
copies-reported_without y [] d rs = refl
copies-reported_without y (l ∷ ls) d rs = omega (arith, copies-reported_without y ls d rs)

pub copies-sent_without : (y : Message) (ls : List Done) (d : Done) (rs : List Done) → copies y (reported_sends (ls ++ d ∷ rs)) ≡ copies y d.sent + copies y (reported_sends (ls ++ rs))
copies-sent_without y [] d rs = copies-append y d.sent (reported_sends rs)
copies-sent_without y (l ∷ ls) d rs = omega (arith, copies-sent_without y ls d rs, copies-append y l.sent (reported_sends (ls ++ d ∷ rs)), copies-append y l.sent (reported_sends (ls ++ rs)))

module _ (c : ℕ) (ls : List Done) (d : Done) (rs : List Done) (early : d.message.time < c) where
  pub before_with : reported_before c (ls ++ d ∷ rs) ≡ reported_before c ls ++ d ∷ reported_before c rs
  before_with = filter_with (λ (d : Done). nat_lt d.message.time c) ls d rs (lt-ltb d.message.time c early)

  pub before_apart : reported_before c (ls ++ rs) ≡ reported_before c ls ++ reported_before c rs
  before_apart = filter-append (λ (d : Done). nat_lt d.message.time c) ls rs

  pub from_same : reported_from c (ls ++ d ∷ rs) ≡ reported_from c (ls ++ rs)
  from_same = filter_without (λ (d : Done). not (nat_lt d.message.time c)) ls d rs (not_from_true (nat_lt d.message.time c) (lt-ltb d.message.time c early))

  pub copies-before_without : (y : Message) → copies y (reported_messages (reported_before c (ls ++ d ∷ rs))) ≡ one_if_same y d.message + copies y (reported_messages (reported_before c (ls ++ rs)))
  copies-before_without y =
      ap (λ zs. copies y (reported_messages zs)) before_with
      ∙ (copies-reported_without y (reported_before c ls) d (reported_before c rs) ∙ ap (λ zs. one_if_same y d.message + copies y (reported_messages zs)) (sym before_apart))

  pub sent_before_without : (y : Message) → copies y (reported_sends (reported_before c (ls ++ d ∷ rs))) ≡ copies y d.sent + copies y (reported_sends (reported_before c (ls ++ rs)))
  sent_before_without y =
      ap (λ zs. copies y (reported_sends zs)) before_with
      ∙ (copies-sent_without y (reported_before c ls) d (reported_before c rs) ∙ ap (λ zs. copies y d.sent + copies y (reported_sends zs)) (sym before_apart))

-- removing a report does not change those of another process
pub reported_by-without : (lp : ℕ) (ls : List Done) (d : Done) (rs : List Done) → (d.message.to ≡ lp → ⊥) → reported_by lp (ls ++ d ∷ rs) ≡ reported_by lp (ls ++ rs)
reported_by-without lp ls d rs ne = filter_without (λ (d : Done). d.message.to == lp) ls d rs (ne_eqb d.message.to lp ne)

pub reported_by-apart : (lp : ℕ) (ls rs : List Done) → reported_by lp (ls ++ rs) ≡ reported_by lp ls ++ reported_by lp rs
reported_by-apart lp ls rs = filter-append (λ (d : Done). d.message.to == lp) ls rs

-- 4. All processes at once

pub length-reported_states : (ds : List Done) (states : List (List ℕ)) → length (reported_states ds states) ≡ length states
length-reported_states [] states = refl
length-reported_states (d ∷ ds) states = length-reported_states ds (set states d.message.to d.after) ∙ length-set states d.message.to d.after

pub length-reported_numbers : (ds : List Done) (numbers : List ℕ) → length (reported_numbers ds numbers) ≡ length numbers
length-reported_numbers [] numbers = refl
length-reported_numbers (d ∷ ds) numbers = length-reported_numbers ds (set numbers d.message.to d.number_after) ∙ length-set numbers d.message.to d.number_after

pub reported_states-at : (ds : List Done) (states : List (List ℕ)) (lp : ℕ) → lp < length states → get_or (reported_states ds states) lp [] ≡ state_after (reported_by lp ds) (get_or states lp [])
reported_states-at [] states lp l = refl
reported_states-at (d ∷ ds) states lp l =
    let rest = reported_states-at ds (set states d.message.to d.after) lp (subst (λ n. lp < n) (sym (length-set states d.message.to d.after)) l) in
    elim (cases_eq d.message.to lp) [
      | inl e ↦ rest
          ∙ ap (state_after (reported_by lp ds)) (ap (λ k. get_or (set states k d.after) lp []) e ∙ get_or-set_same states lp d.after [] l)
          ∙ ap (λ zs. state_after zs (get_or states lp [])) (sym (reported_by-cons lp d ds e))
      | inr ne ↦ rest
          ∙ ap (state_after (reported_by lp ds)) (get_or-set_other states d.message.to lp d.after [] (λ f. ne (sym f)))
          ∙ ap (λ zs. state_after zs (get_or states lp [])) (sym (reported_by-other lp d ds ne))
    ]

pub reported_numbers-at : (ds : List Done) (numbers : List ℕ) (lp : ℕ) → lp < length numbers → get_or (reported_numbers ds numbers) lp 0 ≡ number_after (reported_by lp ds) (get_or numbers lp 0)
reported_numbers-at [] numbers lp l = refl
reported_numbers-at (d ∷ ds) numbers lp l =
    let rest = reported_numbers-at ds (set numbers d.message.to d.number_after) lp (subst (λ n. lp < n) (sym (length-set numbers d.message.to d.number_after)) l) in
    elim (cases_eq d.message.to lp) [
      | inl e ↦ rest
          ∙ ap (number_after (reported_by lp ds)) (ap (λ k. get_or (set numbers k d.number_after) lp 0) e ∙ get_or-set_same numbers lp d.number_after 0 l)
          ∙ ap (λ zs. number_after zs (get_or numbers lp 0)) (sym (reported_by-cons lp d ds e))
      | inr ne ↦ rest
          ∙ ap (number_after (reported_by lp ds)) (get_or-set_other numbers d.message.to lp d.number_after 0 (λ f. ne (sym f)))
          ∙ ap (λ zs. number_after zs (get_or numbers lp 0)) (sym (reported_by-other lp d ds ne))
    ]

-- 5. One more report

pub reported_before-append : (c : ℕ) (ds es : List Done) → reported_before c (ds ++ es) ≡ reported_before c ds ++ reported_before c es
reported_before-append c ds es = filter-append (λ (d : Done). nat_lt d.message.time c) ds es

pub reported_sends-append : (ds es : List Done) → reported_sends (ds ++ es) ≡ reported_sends ds ++ reported_sends es
reported_sends-append ds es = flat_map-append (λ (d : Done). d.sent) ds es

pub reported_states-append : (ds es : List Done) (states : List (List ℕ)) → reported_states (ds ++ es) states ≡ reported_states es (reported_states ds states)
reported_states-append [] es states = refl
reported_states-append (d ∷ ds) es states = reported_states-append ds es (set states d.message.to d.after)

pub reported_numbers-append : (ds es : List Done) (numbers : List ℕ) → reported_numbers (ds ++ es) numbers ≡ reported_numbers es (reported_numbers ds numbers)
reported_numbers-append [] es numbers = refl
reported_numbers-append (d ∷ ds) es numbers = reported_numbers-append ds es (set numbers d.message.to d.number_after)
