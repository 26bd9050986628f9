-- Handlings as records, with the states to which they lead.
use Rattle.std.proofs.Common.{◌≡◌, ℕ, ◌+◌, ◌≤◌, ◌++◌, List, [], ◌∷◌, Some, zero, suc, length, map, flat_map, take, drop, refl, ap, sym, ◌∙◌, arith, inl, inr}
use Rattle.std.proofs.lemmas.Bool.{cases_Bool}
use Rattle.std.proofs.lemmas.List.{append-nil, append_assoc, map-append, take-append-drop}
use Rattle.std.proofs.lemmas.List.Concat.{flat_map-append}
use Rattle.std.specs.List.{AllByRecursion as Every}
use Rattle.std.specs.Prelude.{nat_lt}
use Rattle.eventkey.specs.Message.{Message}
use Rattle.eventkey.specs.Signed.{minus}
use Rattle.eventkey.specs.declared.Signed.{Signed}
use Rattle.queues.specs.Queue.{but_last, last_of}
use Rattle.queues.specs.Record.{Record, first_handled, handled_before, handled_from, number_before, sent_in, state_before}
use Rattle.process.proofs.HandlingLaws.{handled_before-from}
use Rattle.process.proofs.Histories.{number_after-append, number_before-append, reported_sends, state_after-append, state_before-append}
use Rattle.process.specs.Course.{records_of}
use Rattle.process.specs.Handlings.{IsLastOf, count_before, first_reported}
use Rattle.process.specs.Process.{number_after, reported, state_after}
use Rattle.process.specs.Reports.{IsDone, IsFirstOf}
use Rattle.process.specs.declared.Done.{Done}

-- 1. The records of handlings

pub length-records_of : (state : List ℕ) (number : ℕ) (ds : List Done) → length (records_of state number ds) ≡ length ds
length-records_of state number [] = refl
length-records_of state number (d ∷ ds) = ap suc (length-records_of d.after d.number_after ds)

pub first_of_records : (state : List ℕ) (number : ℕ) (ds : List Done) → first_handled (records_of state number ds) ≡ first_reported ds
first_of_records state number [] = refl
first_of_records state number (d ∷ ds) = refl

pub records_of-append : (state : List ℕ) (number : ℕ) (ds es : List Done) → records_of state number (ds ++ es) ≡ records_of state number ds ++ records_of (state_after ds state) (number_after ds number) es
records_of-append state number [] es = refl
records_of-append state number (d ∷ ds) es =
    ap (λ (hs : List Record). record { message = d.message; before = state; number_before = number; sent = d.sent } ∷ hs) (records_of-append d.after d.number_after ds es)

-- one more handling, in this state and with this number
pub records_pushed : (start : List ℕ) (start_number : ℕ) (old new : List Done) (d : Done) (state : List ℕ) (number : ℕ) → new ≡ old ++ d ∷ [] → state ≡ state_after old start → number ≡ number_after old start_number →
    records_of start start_number new ≡ records_of start start_number old ++ record { message = d.message; before = state; number_before = number; sent = d.sent } ∷ []
records_pushed start start_number old new d state number e s n =
    ap (records_of start start_number) e
    ∙ (records_of-append start start_number old (d ∷ [])
    ∙ (λ i. records_of start start_number old ++ record { message = d.message; before = sym s i; number_before = sym n i; sent = d.sent } ∷ []))

-- the state and the number before the first record are those with which the handlings begin
pub state_begins : (state : List ℕ) (number : ℕ) (ds : List Done) → state_before (records_of state number ds) (state_after ds state) ≡ state
state_begins state number [] = refl
state_begins state number (d ∷ ds) = refl

pub number_begins : (state : List ℕ) (number : ℕ) (ds : List Done) → number_before (records_of state number ds) (number_after ds number) ≡ number
number_begins state number [] = refl
number_begins state number (d ∷ ds) = refl

-- the reports of the records are the handlings
pub reports_of_records : (state : List ℕ) (number : ℕ) (ds : List Done) → reported (records_of state number ds) (state_after ds state) (number_after ds number) ≡ ds
reports_of_records state number [] = refl
reports_of_records state number (d ∷ ds) =
    let after = state_begins d.after d.number_after ds in
    let number_then = number_begins d.after d.number_after ds in
    let rest = reports_of_records d.after d.number_after ds in
    λ i. record { message = d.message; sent = d.sent; after = after i; number_after = number_then i } ∷ rest i

-- 2. The last handlings

module _ (n : ℕ) where
  pub records_kept : (state : List ℕ) (number : ℕ) (ds : List Done) → but_last n (records_of state number ds) ≡ records_of state number (but_last n ds)
  records_kept state number [] = refl
  records_kept state number (d ∷ ds) = rw (length-records_of d.after d.number_after ds) (elim (cases_Bool (nat_lt (length ds) n)) [
    | inl e ↦ rw e refl
    | inr e ↦ rw e (ap (λ (hs : List Record). record { message = d.message; before = state; number_before = number; sent = d.sent } ∷ hs) (records_kept d.after d.number_after ds))
  ])

  pub state_undone : (state : List ℕ) (number : ℕ) (ds : List Done) → state_before (last_of n (records_of state number ds)) (state_after ds state) ≡ state_after (but_last n ds) state
  state_undone state number [] = refl
  state_undone state number (d ∷ ds) = rw (length-records_of d.after d.number_after ds) (elim (cases_Bool (nat_lt (length ds) n)) [
    | inl e ↦ rw e refl
    | inr e ↦ rw e (state_undone d.after d.number_after ds)
  ])

  pub number_undone : (state : List ℕ) (number : ℕ) (ds : List Done) → number_before (last_of n (records_of state number ds)) (number_after ds number) ≡ number_after (but_last n ds) number
  number_undone state number [] = refl
  number_undone state number (d ∷ ds) = rw (length-records_of d.after d.number_after ds) (elim (cases_Bool (nat_lt (length ds) n)) [
    | inl e ↦ rw e refl
    | inr e ↦ rw e (number_undone d.after d.number_after ds)
  ])

  pub reports_undone : (state : List ℕ) (number : ℕ) (ds : List Done) → reported (last_of n (records_of state number ds)) (state_after ds state) (number_after ds number) ≡ last_of n ds
  reports_undone state number [] = refl
  reports_undone state number (d ∷ ds) = rw (length-records_of d.after d.number_after ds) (elim (cases_Bool (nat_lt (length ds) n)) [
    | inl e ↦ rw e (reports_of_records state number (d ∷ ds))
    | inr e ↦ rw e (reports_undone d.after d.number_after ds)
  ])

-- 3. The handlings before a time

module _ (c : ℕ) where
  pub reports_released : (state : List ℕ) (number : ℕ) (ds : List Done) →
      reported (handled_before c (records_of state number ds)) (state_before (handled_from c (records_of state number ds)) (state_after ds state)) (number_before (handled_from c (records_of state number ds)) (number_after ds number))
      ≡ take (count_before c ds) ds
  reports_released state number [] = refl
  reports_released state number (d ∷ ds) = elim (cases_Bool (nat_lt d.message.time c)) [
    | inl e ↦
        let hs = records_of d.after d.number_after ds in
        let end = state_after ds d.after in
        let number_end = number_after ds d.number_after in
        let after : state_before (handled_before c hs) (state_before (handled_from c hs) end) ≡ d.after =
        sym (state_before-append (handled_before c hs) (handled_from c hs) end) ∙ (ap (λ (rs : List Record). state_before rs end) (handled_before-from c hs) ∙ state_begins d.after d.number_after ds) in
        let number_then : number_before (handled_before c hs) (number_before (handled_from c hs) number_end) ≡ d.number_after =
        sym (number_before-append (handled_before c hs) (handled_from c hs) number_end) ∙ (ap (λ (rs : List Record). number_before rs number_end) (handled_before-from c hs) ∙ number_begins d.after d.number_after ds) in
        let rest = reports_released d.after d.number_after ds in
        rw e ((λ i. record { message = d.message; sent = d.sent; after = after i; number_after = number_then i } ∷ rest i)
        ∙ ap (λ (k : ℕ). take k (d ∷ ds)) {x = suc (count_before c ds)} {y = count_before c ds + 1} (omega arith))
    | inr e ↦ rw e refl
  ]

  pub records_left : (state : List ℕ) (number : ℕ) (ds : List Done) →
      handled_from c (records_of state number ds) ≡ records_of (state_after (take (count_before c ds) ds) state) (number_after (take (count_before c ds) ds) number) (drop (count_before c ds) ds)
  records_left state number [] = refl
  records_left state number (d ∷ ds) = elim (cases_Bool (nat_lt d.message.time c)) [
    | inl e ↦ rw e (records_left d.after d.number_after ds
        ∙ ap (λ (k : ℕ). records_of (state_after (take k (d ∷ ds)) state) (number_after (take k (d ∷ ds)) number) (drop k (d ∷ ds))) {x = suc (count_before c ds)} {y = count_before c ds + 1} (omega arith))
    | inr e ↦ rw e refl
  ]

module _ (n : ℕ) (ds : List Done) where
  pub state_goes_on : (state : List ℕ) → state_after (drop n ds) (state_after (take n ds) state) ≡ state_after ds state
  state_goes_on state = sym (state_after-append (take n ds) (drop n ds) state) ∙ ap (λ (es : List Done). state_after es state) (take-append-drop n ds)

  pub number_goes_on : (number : ℕ) → number_after (drop n ds) (number_after (take n ds) number) ≡ number_after ds number
  number_goes_on number = sym (number_after-append (take n ds) (drop n ds) number) ∙ ap (λ (es : List Done). number_after es number) (take-append-drop n ds)

-- 4. The last handling

module _ (ds : List Done) (d : Done) (last : IsLastOf ds (Some d)) where
  pub state_of_last : (state : List ℕ) → d.after ≡ state_after ds state
  state_of_last state = sym (ap (λ (es : List Done). state_after es state) last.1 ∙ state_after-append last.0 (d ∷ []) state)

  pub number_of_last : (number : ℕ) → d.number_after ≡ number_after ds number
  number_of_last number = sym (ap (λ (es : List Done). number_after es number) last.1 ∙ number_after-append last.0 (d ∷ []) number)

-- reported states have at most 16 words
pub few_after : (n : ℕ) (ds : List Done) (state : List ℕ) → Every IsDone ds → length state ≤ 16 → length (state_after (take n ds) state) ≤ 16
few_after zero ds state ranged few = few
few_after (suc n) [] state ranged few = few
few_after (suc n) (d ∷ ds) state ranged few = few_after n ds d.after ranged.1 ranged.0.after.0

-- 5. Cancelling

-- the sends of all of these handlings but those that are left were cancelled
pub record HasCancelled (all left : List Done) (before after : List Signed) : Type 0 where
  pub gone : List Done
  pub parts : gone ++ left ≡ all
  pub out : after ≡ before ++ map minus (flat_map (λ (d : Done). d.sent) gone)

pub none_cancelled : (all : List Done) (out : List Signed) → HasCancelled all all out out
none_cancelled all out = record { gone = []; parts = refl; out = sym (append-nil out) }

pub one_more_cancelled : (all left rest : List Done) (d : Done) (before after now : List Signed) → IsFirstOf left rest (Some d) → now ≡ after ++ map minus d.sent → HasCancelled all left before after → HasCancelled all rest before now
one_more_cancelled all left rest d before after now first is h =
    let gone = h.gone in
    let sent = λ (ds : List Done). flat_map (λ (e : Done). e.sent) ds in
    let one : flat_map (λ (e : Done). e.sent) (gone ++ d ∷ []) ≡ flat_map (λ (e : Done). e.sent) gone ++ d.sent =
    flat_map-append (λ (e : Done). e.sent) gone (d ∷ []) ∙ ap (λ (xs : List Message). flat_map (λ (e : Done). e.sent) gone ++ xs) (append-nil d.sent) in
    record {
      gone = gone ++ d ∷ [];
      parts = append_assoc gone (d ∷ []) rest ∙ (ap (λ (es : List Done). gone ++ es) (sym first) ∙ h.parts);
      out = is ∙ (ap (λ (xs : List Signed). xs ++ map minus d.sent) h.out
          ∙ (append_assoc before (map minus (sent gone)) (map minus d.sent)
          ∙ ap (λ (xs : List Signed). before ++ xs) (sym (map-append minus (sent gone) d.sent) ∙ ap (map minus) (sym one))));
    }

-- the sends of the last records, as their reports have them
pub all_cancelled : (hs : List Record) (state : List ℕ) (number : ℕ) (left : List Done) (before after : List Signed) → left ≡ [] → HasCancelled (reported hs state number) left before after → after ≡ before ++ map minus (sent_in hs)
all_cancelled hs state number left before after none h =
    let all : h.gone ≡ reported hs state number = sym (append-nil h.gone) ∙ (ap (λ (es : List Done). h.gone ++ es) (sym none) ∙ h.parts) in
    h.out ∙ ap (λ (xs : List Message). before ++ map minus xs) (ap (flat_map (λ (d : Done). d.sent)) all ∙ reported_sends hs state number)
