-- When each process sent those of its messages that are still on their way.
use Rattle.std.specs.BTreeMap.{get}
use Rattle.std.specs.Ordering.{nat_cmp}
use Rattle.std.proofs.Common.{◌≡◌, ◌≢◌, ◌+◌, ◌<◌, ◌≤◌, ◌++◌, ◌∷◌, [], ℕ, List, ap, append-nil, append_assoc, arith, get_or, inl, inr, length, refl, replicate, set, subst, sym, unwrap_or, ◌∙◌}
use Rattle.std.proofs.Math.ListN.{get_or-append}
use Rattle.std.proofs.Math.Seq.{get_or-append_seam}
use Rattle.std.proofs.lemmas.Bool.{cases_eq, cases_lt}
use Rattle.std.proofs.lemmas.List.{get_or-set_other, get_or-set_same, get_or_default, length-append, length-set}
use Rattle.eventkey.specs.Message.{Message}
use Rattle.pictures.specs.Run.{Run, sending_times}
use Rattle.pictures.specs.Senders.{AreSenders, HaveTime, HaveTimes, IsFound, IsSender, base_of}
use Rattle.pictures.specs.declared.senders.Sender.{Sender}

-- 1. One sender

pub sender_none : (times : List ℕ) (s : Sender) → s.times.items ≡ [] → length times ≡ s.sent → IsSender times s
sender_none times s none long = record {
  before = times;
  all = sym (append-nil times) ∙ ap (λ ts. times ++ ts) (sym none);
  sent = sym long;
}

pub sender_more : (times : List ℕ) (old new : Sender) (more : List ℕ) → IsSender times old → new.times.items ≡ old.times.items ++ more → new.sent ≡ length times + length more → IsSender (times ++ more) new
sender_more times old new more is items sent = record {
  before = is.before;
  all = ap (λ ts. ts ++ more) is.all ∙ append_assoc is.before old.times.items more ∙ ap (λ ts. is.before ++ ts) (sym items);
  sent = sent ∙ sym (length-append times more);
}

-- what is found stays found when more is sent
pub found_more : (times more : List ℕ) (old new : Sender) (number : ℕ) → base_of new ≡ base_of old → get nat_cmp new.earlier number ≡ get nat_cmp old.earlier number
    → IsFound times old number → IsFound (times ++ more) new number
found_more times more old new number base same (inl low) = inl (omega (arith, base))
found_more times more old new number base same (inr (inside, here)) = inr (omega (arith, length-append times more), ap (λ o. unwrap_or o 0) same ∙ here ∙ sym (get_or-append times more 0 number inside))

-- 2. All senders

-- a list of senders after one of them changed, for a run of the same processes
pub senders_set : (r next : Run) (old : List Sender) (lp : ℕ) (s : Sender) → AreSenders r old → lp < length r.first → length next.first ≡ length r.first
    → IsSender (sending_times next lp) s → ((k : ℕ) → k ≢ lp → sending_times next k ≡ sending_times r k) → AreSenders next (set old lp s)
senders_set r next old lp s are inside same here others = record {
  long = length-set old lp s ∙ are.long ∙ sym same;
  each = λ k d l. elim (cases_eq k lp) [
    | inl e ↦
        let at : get_or (set old lp s) k d ≡ s = ap (λ j. get_or (set old lp s) j d) e ∙ get_or-set_same old lp s d (omega (arith, are.long)) in
        subst (IsSender (sending_times next k)) (sym at) (subst (λ j. IsSender (sending_times next j) s) (sym e) here)
    | inr ne ↦
        subst (IsSender (sending_times next k)) (sym (get_or-set_other old lp k s d ne))
        (subst (λ ts. IsSender ts (get_or old k d)) (sym (others k ne)) (are.each k d (omega (arith, same))))
  ];
  others = λ k l. others k (λ e. absurd (omega (arith, same))) ∙ are.others k (omega (arith, same));
}

-- the same of what is found
pub time_set : (r next : Run) (old : List Sender) (lp : ℕ) (s : Sender) (x : Message) → lp < length old
    → ((d : Sender) → IsFound (sending_times r lp) (get_or old lp d) x.number → IsFound (sending_times next lp) s x.number)
    → ((k : ℕ) → k ≢ lp → sending_times next k ≡ sending_times r k) → HaveTime r old x → HaveTime next (set old lp s) x
time_set r next old lp s x inside here others have = λ d l. elim (cases_eq x.from lp) [
  | inl e ↦
      let at : get_or (set old lp s) x.from d ≡ s = ap (λ j. get_or (set old lp s) j d) e ∙ get_or-set_same old lp s d inside in
      let was : IsFound (sending_times r lp) (get_or old lp d) x.number = subst (λ j. IsFound (sending_times r j) (get_or old j d) x.number) e (have d (omega (arith, e))) in
      subst (λ t. IsFound (sending_times next x.from) t x.number) (sym at) (subst (λ j. IsFound (sending_times next j) s x.number) (sym e) (here d was))
  | inr ne ↦
      let was = have d (omega (arith, length-set old lp s)) in
      subst (λ t. IsFound (sending_times next x.from) t x.number) (sym (get_or-set_other old lp x.from s d ne))
      (subst (λ ts. IsFound ts (get_or old x.from d) x.number) (sym (others x.from ne)) was)
]

-- a message that its sender has still to send is found when it is sent
pub time_ahead : (r : Run) (senders : List Sender) (x : Message) → AreSenders r senders → length (sending_times r x.from) ≤ x.number → HaveTime r senders x
time_ahead r senders x are ahead = λ d l.
    let is = are.each x.from d (omega (arith, are.long)) in
    inl (omega (arith, is.sent))

-- 3. Senders, one after another

pub each_push : {X : Type 0} (P : ℕ → X → Type 0) (xs : List X) (x : X) → ((k : ℕ) (d : X) → k < length xs → P k (get_or xs k d)) → P (length xs) x
    → (k : ℕ) (d : X) → k < length (xs ++ x ∷ []) → P k (get_or (xs ++ x ∷ []) k d)
each_push P xs x each here k d l = elim (cases_lt k (length xs)) [
  | inl low ↦ subst (P k) (sym (get_or-append xs (x ∷ []) d k low)) (each k d low)
  | inr high ↦
      let last : k ≡ length xs = omega (arith, length-append xs (x ∷ [])) in
      let at : get_or (xs ++ x ∷ []) k d ≡ x = ap (λ j. get_or (xs ++ x ∷ []) j d) last ∙ get_or-append_seam xs x [] d in
      subst (P k) (sym at) (subst (λ j. P j x) (sym last) here)
]

-- at the opening each process sent its messages at 0
pub opening_times : (r : Run) (first : List ℕ) (lp : ℕ) → r.first ≡ first → r.events ≡ [] → sending_times r lp ≡ replicate (get_or first lp 0) 0
opening_times r first lp e none = rw (e, none) (append-nil (replicate (get_or first lp 0) 0))

-- 4. One more time that is kept

pub senders_kept : (r : Run) (old : List Sender) (lp : ℕ) (was s : Sender) → AreSenders r old → lp < length old → was ≡ get_or old lp was
    → ((times : List ℕ) → IsSender times was → IsSender times s) → AreSenders r (set old lp s)
senders_kept r old lp was s are inside is kept =
    let there : lp < length r.first = omega (arith, are.long) in
    senders_set r r old lp s are there refl (kept (sending_times r lp) (subst (IsSender (sending_times r lp)) (sym is) (are.each lp was there))) (λ k ne. refl)

pub times_kept : (r : Run) (old : List Sender) (lp : ℕ) (was s : Sender) → AreSenders r old → lp < length old → was ≡ get_or old lp was
    → ((times : List ℕ) → IsSender times was → IsSender times s) → ((other : ℕ) → IsFound (sending_times r lp) was other → IsFound (sending_times r lp) s other) → HaveTimes r r old (set old lp s)
times_kept r old lp was s are inside is kept found = record {
  senders = senders_kept r old lp was s are inside is kept;
  found = λ x have. time_set r r old lp s x inside (λ d h. found x.number (subst (λ t. IsFound (sending_times r lp) t x.number) (sym is) (subst (λ t. IsFound (sending_times r lp) t x.number) (any d) h))) (λ k ne. refl) have;
}
  where
    any : (d : Sender) → get_or old lp d ≡ get_or old lp was
    any d = get_or_default old lp d was inside

-- the number of a message that its sender has sent
pub number_inside : (r : Run) (senders : List Sender) (lp number : ℕ) (was : Sender) → AreSenders r senders → lp < length senders → was ≡ get_or senders lp was → number < was.sent → number < length (sending_times r lp)
number_inside r senders lp number was are inside is early =
    let here = are.each lp was (omega (arith, are.long)) in
    let sent : was.sent ≡ length (sending_times r lp) = ap (λ (s : Sender). s.sent) is ∙ here.sent in
    omega arith

-- one that it has still to send is found when it is sent
pub found_ahead : (r : Run) (senders : List Sender) (x : Message) (was : Sender) → x.from < length senders → was ≡ get_or senders x.from was → was.sent ≤ x.number → HaveTime r senders x
found_ahead r senders x was inside is late = λ d l.
    let same : get_or senders x.from d ≡ was = get_or_default senders x.from d was inside ∙ sym is in
    subst (λ t. IsFound (sending_times r x.from) t x.number) (sym same) (inl (omega arith))
