-- A simulation that counts its events.
use Rattle.std.specs.List.{AllByRecursion as Every}
use Rattle.std.specs.Prelude.{None, Ok, Result, nat_le, nat_lt, ◌↔◌}
use Rattle.std.specs.declared.alloc.Global.{Global}
use Rattle.std.specs.declared.vec.Vec.{Vec}
use Rattle.std.specs.List.Sorted.{IsPermutation}
use Rattle.std.proofs.Common.{◌≡◌, ◌≢◌, ◌==◌, ◌+◌, ◌-◌, ◌<◌, ◌≤◌, ◌^◌, ◌++◌, ◌∷◌, [], ℕ, List, Option, Some, ap, append-nil, append_assoc, arith, drop, eq-eqb, eqb-true, false, filter, get_or, if◌then◌else◌, inl, inr, length, map, min, refl, replicate, set, subst, suc, sym, true, ◌∙◌}
use Rattle.std.proofs.Math.ListN.{get_or-append}
use Rattle.std.proofs.lemmas.Bool.{and_parts, cases_Bool, cases_eq, leb-true, lt-ltb, ltb-true}
use Rattle.std.proofs.lemmas.List.{get_or-set_other, get_or-set_same, get_or_default, length-append, length-replicate, length-set, map-append}
use Rattle.std.proofs.lemmas.List.Elements.{filter-append}
use Rattle.std.proofs.lemmas.List.Sorted.{IsPermutation-append_left, IsPermutation-append_right, IsPermutation-to_front, IsPermutation-trans}
use Rattle.eventkey.proofs.Lists.{Every-add_all, Every-all, Every-weaker, not_same}
use Rattle.eventkey.specs.Message.{Message}
use Rattle.model.proofs.Runs.{run_more, step_below, went}
use Rattle.model.proofs.Steps.{Reaches-sooner, Reaches_logged, Reaches_time, step_made}
use Rattle.model.proofs.Worlds.{Reaches_IsWorld, opening_IsWorld, step_is}
use Rattle.model.specs.Meaning.{IsAddressed, IsLawful, Meaning, stamp}
use Rattle.model.specs.Runner.{Handles, IsIdle, IsRun, Simulation, is_due}
use Rattle.model.specs.World.{IsUpto, IsWorld, Reaches, World, at_time, can_handle, handled, number_of, opening, state_of, step}
use Rattle.model.specs.declared.Outgoing.{Outgoing}
use Rattle.model.specs.declared.WorldFault.{WorldFault}
use Rattle.pictures.specs.Counting.{GoesOn, HasCounted, HasDelays, HasRun, IsCounted, states_after}
use Rattle.pictures.specs.Delays.{AreCounted}
use Rattle.pictures.specs.Figures.{IsSpread, delay_of, handled_by}
use Rattle.pictures.specs.Run.{IsRunOf, Run, sending_times, sends_of, sent_at, sent_in, with_event}
use Rattle.pictures.specs.Senders.{AreSenders, HaveTime, HaveTimes, IsFound, IsSender}
use Rattle.pictures.specs.Stepping.{with_log}
use Rattle.pictures.specs.declared.counted.Counts.{Counts}
use Rattle.pictures.specs.declared.counted.Spread.{Spread}
use Rattle.pictures.specs.declared.delays.Delays.{Delays}
use Rattle.pictures.specs.declared.senders.Sender.{Sender}
use Rattle.pictures.proofs.Traces.{length-opening}
use Rattle.pictures.proofs.OnTheWay.{senders_set, time_ahead, time_set}

-- 1. One more event in a log

sent_in_more : (lp : ℕ) (xs : List Message) (ns : List ℕ) (x : Message) (n : ℕ) → length ns ≡ length xs
    → sent_in lp (xs ++ x ∷ []) (ns ++ n ∷ []) ≡ sent_in lp xs ns ++ (if x.to == lp then replicate n x.time else [])
sent_in_more lp [] [] x n same = append-nil (if x.to == lp then replicate n x.time else [])
sent_in_more lp [] (k ∷ ks) x n same = absurd (omega (arith, same))
sent_in_more lp (y ∷ ys) [] x n same = absurd (omega (arith, same))
sent_in_more lp (y ∷ ys) (k ∷ ks) x n same =
    let front : List ℕ = if y.to == lp then replicate k y.time else [] in
    ap (λ ts. front ++ ts) (sent_in_more lp ys ks x n (omega (arith, same))) ∙ sym (append_assoc front (sent_in lp ys ks) (if x.to == lp then replicate n x.time else []))

sending_more : (r : Run) (x : Message) (n : ℕ) (pending : List Message) (lp : ℕ) → length r.sends ≡ length r.events
    → sending_times (with_event r x n pending) lp ≡ sending_times r lp ++ (if x.to == lp then replicate n x.time else [])
sending_more r x n pending lp same =
    let first : List ℕ = replicate (get_or r.first lp 0) 0 in
    ap (λ ts. first ++ ts) (sent_in_more lp r.events r.sends x n same) ∙ sym (append_assoc first (sent_in lp r.events r.sends) (if x.to == lp then replicate n x.time else []))

pub sending_here : (r : Run) (x : Message) (n : ℕ) (pending : List Message) → length r.sends ≡ length r.events → sending_times (with_event r x n pending) x.to ≡ sending_times r x.to ++ replicate n x.time
sending_here r x n pending same = sending_more r x n pending x.to same ∙ ap (λ b. sending_times r x.to ++ (if b then replicate n x.time else [])) (eq-eqb x.to x.to refl)

pub sending_other : (r : Run) (x : Message) (n : ℕ) (pending : List Message) (lp : ℕ) → length r.sends ≡ length r.events → lp ≢ x.to → sending_times (with_event r x n pending) lp ≡ sending_times r lp
sending_other r x n pending lp same ne = elim (cases_Bool (x.to == lp)) [
  | inl e ↦ absurd (ne (sym (eqb-true x.to lp e)))
  | inr e ↦ sending_more r x n pending lp same ∙ ap (λ b. sending_times r lp ++ (if b then replicate n x.time else [])) e ∙ append-nil (sending_times r lp)
]

-- what a process sent stays as it is
pub goes_on : (r later : Run) (x : Message) (n : ℕ) (pending : List Message) → length r.sends ≡ length r.events → GoesOn (with_event r x n pending) later → GoesOn r later
goes_on r later x n pending same on = λ lp.
    let more : List ℕ = if x.to == lp then replicate n x.time else [] in
    let next = on lp in
    (more ++ next.0, next.1 ∙ ap (λ ts. ts ++ next.0) (sending_more r x n pending lp same) ∙ append_assoc (sending_times r lp) more next.0)

sends_push : (m : Meaning) (states : List (List ℕ)) (xs : List Message) (x : Message)
    → sends_of m states (xs ++ x ∷ []) ≡ sends_of m states xs ++ length (m.sends x.to (get_or (states_after m states xs) x.to []) x) ∷ []
sends_push m states [] x = refl
sends_push m states (y ∷ ys) x =
    ap (λ ns. length (m.sends y.to (get_or states y.to []) y) ∷ ns) (sends_push m (set states y.to (m.next_state y.to (get_or states y.to []) y)) ys x)

states_push : (m : Meaning) (states : List (List ℕ)) (xs : List Message) (x : Message)
    → states_after m states (xs ++ x ∷ []) ≡ set (states_after m states xs) x.to (m.next_state x.to (get_or (states_after m states xs) x.to []) x)
states_push m states [] x = refl
states_push m states (y ∷ ys) x = states_push m (set states y.to (m.next_state y.to (get_or states y.to []) y)) ys x

-- 2. One more step of a run

-- how many messages the handling of an event sends
abbrev pub sends_at : Meaning → World → Message → ℕ
sends_at m w x = length (m.sends x.to (state_of w x.to) x)

pub run_world : (m : Meaning) (bound : ℕ) (r : Run) (w : World) → IsLawful m → bound ≤ 2 ^ 40 → HasRun m bound r w → IsWorld m.lps w
run_world m bound r w law short h =
    let is = Reaches_IsWorld m bound h.passed.steps (opening m) (with_log r.events w) law short (opening_IsWorld m law) h.passed.reached in
    record { states = is.states; numbers = is.numbers; ascending = is.ascending; addressed = is.addressed; words = is.words }

-- what a step does, where the least message is known
pub stepped : (m : Meaning) (bound : ℕ) (w v : World) (x : Message) (rest : List Message) → w.pending ≡ x ∷ rest → step m bound w ≡ Some v
    → (v ≡ handled m w x rest) × (x.time < bound) × (number_of w x.to + sends_at m w x ≤ 2 ^ 63)
stepped m bound w v x rest first e =
    let s = step_is m bound w v e in
    let one : s.0 ≡ x = let both : s.0 ∷ s.1 ≡ x ∷ rest = sym s.2 ∙ first in cc in
    let others : s.1 ≡ rest = let both : s.0 ∷ s.1 ≡ x ∷ rest = sym s.2 ∙ first in cc in
    let can : can_handle m bound w x ≡ true = ap (can_handle m bound w) (sym one) ∙ s.4 in
    let parts = and_parts (nat_lt x.time bound) (nat_le (number_of w x.to + sends_at m w x) (2 ^ 63)) can in
    (s.3 ∙ ap (λ y. handled m w y s.1) one ∙ ap (handled m w x) others, ltb-true x.time bound parts.0, leb-true (number_of w x.to + sends_at m w x) (2 ^ 63) parts.1)

pub length-run : (m : Meaning) (bound : ℕ) (r : Run) (w : World) → HasRun m bound r w → length r.sends ≡ length r.events
length-run m bound r w h = ap length h.sends ∙ go (opening m).states r.events
  where
    go : (states : List (List ℕ)) (log : List Message) → length (sends_of m states log) ≡ length log
    go states [] = refl
    go states (x ∷ xs) = ap suc (go (set states x.to (m.next_state x.to (get_or states x.to []) x)) xs)

pub passed_event : (m : Meaning) (bound : ℕ) (events : List Message) (w v : World) (x : Message) (rest : List Message) → IsRun m bound (opening m) (with_log events w) → w.pending ≡ x ∷ rest → step m bound w ≡ Some v
    → IsRun m bound (opening m) (with_log (events ++ x ∷ []) v)
passed_event m bound events w v x rest h first e =
    let s = stepped m bound w v x rest first e in
    let log : List Message = events ++ x ∷ [] in
    let goes : step m bound (with_log events w) ≡ Some (with_log log v) =
    step_made m bound (with_log events w) x rest first s.1 s.2 ∙ ap (λ (u : World). Some (with_log log u)) (sym s.0) in
    run_more m bound (opening m) (with_log events w) (with_log log v) h goes

pub run_stepped : (m : Meaning) (bound : ℕ) (r : Run) (w v : World) (x : Message) (rest : List Message) → IsLawful m → bound ≤ 2 ^ 40 → HasRun m bound r w → w.pending ≡ x ∷ rest → step m bound w ≡ Some v
    → HasRun m bound (with_event r x (sends_at m w x) v.pending) v
run_stepped m bound r w v x rest law short h first e =
    let s = stepped m bound w v x rest first e in
    let n : ℕ = sends_at m w x in
    let is = run_world m bound r w law short h in
    let at : IsAddressed m.lps x = let all : Every (IsAddressed m.lps) (x ∷ rest) = rw first at is.addressed in all.0 in
    let same = length-run m bound r w h in
    let next : Run = with_event r x n v.pending in
    let state : length (m.sends x.to (get_or (states_after m (opening m).states r.events) x.to []) x) ≡ n = ap (λ (ss : List (List ℕ)). length (m.sends x.to (get_or ss x.to []) x)) h.states in
    record {
      passed = passed_event m bound r.events w v x rest h.passed first e;
      first = h.first;
      sends = ap (λ ns. ns ++ n ∷ []) h.sends ∙ ap (λ k. sends_of m (opening m).states r.events ++ k ∷ []) (sym state) ∙ sym (sends_push m (opening m).states r.events x);
      pending = refl;
      states = states_push m (opening m).states r.events x ∙ ap (λ (ss : List (List ℕ)). set ss x.to (m.next_state x.to (get_or ss x.to []) x)) h.states ∙ ap (λ (u : World). u.states) (sym s.0);
      sent = λ lp. ap (λ (u : World). get_or u.numbers lp 0) s.0 ∙ elim (cases_eq lp x.to) [
        | inl e' ↦
            let there = at.to in
            let here : get_or (set w.numbers x.to (number_of w x.to + n)) x.to 0 ≡ number_of w x.to + n = get_or-set_same w.numbers x.to (number_of w x.to + n) 0 (omega (arith, is.numbers)) in
            let long : length (sending_times next x.to) ≡ length (sending_times r x.to) + n =
            ap length (sending_here r x n v.pending same) ∙ length-append (sending_times r x.to) (replicate n x.time) ∙ ap (λ k. length (sending_times r x.to) + k) (length-replicate n x.time) in
            ap (λ k. get_or (set w.numbers x.to (number_of w x.to + n)) k 0) e' ∙ here ∙ ap (λ k. k + n) (h.sent x.to) ∙ sym long ∙ ap (λ k. length (sending_times next k)) (sym e')
        | inr ne ↦ get_or-set_other w.numbers x.to lp (number_of w x.to + n) 0 ne ∙ h.sent lp ∙ ap length (sym (sending_other r x n v.pending lp same ne))
      ];
    }

stamp_numbers : (lp t k : ℕ) (os : List Outgoing) → Every (λ (y : Message). (y.from ≡ lp) × (k ≤ y.number)) (stamp lp t k os)
stamp_numbers lp t k [] = tt
stamp_numbers lp t k (o ∷ os) = (
  (refl, omega arith),
  Every-weaker (λ (y : Message). (y.from ≡ lp) × (k + 1 ≤ y.number)) (λ (y : Message). (y.from ≡ lp) × (k ≤ y.number)) (λ y h. let late = h.1 in (h.0, omega arith)) (stamp lp t (k + 1) os) (stamp_numbers lp t (k + 1) os),
)

-- the times of the pending messages are found after a step
pub pending_stepped : (m : Meaning) (bound : ℕ) (r : Run) (w v : World) (x : Message) (rest : List Message) (senders : List Sender) → HasRun m bound r w → AreSenders r senders → w.pending ≡ x ∷ rest → step m bound w ≡ Some v
    → Every (HaveTime r senders) w.pending → Every (HaveTime r senders) v.pending
pending_stepped m bound r w v x rest senders h are first e have =
    let s = stepped m bound w v x rest first e in
    let all : Every (HaveTime r senders) (x ∷ rest) = subst (Every (HaveTime r senders)) first have in
    let os : List Outgoing = m.sends x.to (state_of w x.to) x in
    let k : ℕ = number_of w x.to in
    let new : Every (HaveTime r senders) (stamp x.to x.time k os) =
    Every-weaker (λ (y : Message). (y.from ≡ x.to) × (k ≤ y.number)) (HaveTime r senders)
    (λ y p. time_ahead r senders y are (let long = h.sent x.to ∙ ap (λ lp. length (sending_times r lp)) (sym p.0) in let late = p.1 in omega arith)) (stamp x.to x.time k os) (stamp_numbers x.to x.time k os) in
    subst (λ (u : World). Every (HaveTime r senders) u.pending) (sym s.0) (Every-add_all (HaveTime r senders) (stamp x.to x.time k os) rest new all.1)

-- 3. What is counted

-- the sender with the messages that a handling sent
pub sends_added : (r : Run) (x : Message) (n : ℕ) (pending : List Message) (old : List Sender) (lp sent : ℕ) (was s : Sender) → AreSenders r old → length r.sends ≡ length r.events → lp ≡ x.to → lp < length old
    → was ≡ get_or old lp was → sent ≡ length (sending_times r x.to) + n
    → ((times : List ℕ) → IsSender times was → length times ≤ sent → IsSender (times ++ replicate (sent - length times) x.time) s)
    → ((times more : List ℕ) (number : ℕ) → IsSender times was → length times ≤ sent → IsFound times was number → IsFound (times ++ more) s number)
    → HaveTimes r (with_event r x n pending) old (set old lp s)
sends_added r x n pending old lp sent was s are same to inside is count sender found =
    let next : Run = with_event r x n pending in
    let times : List ℕ = sending_times r x.to in
    let there : x.to < length old = omega (arith, to) in
    let at : was ≡ get_or old x.to was = subst (λ k. was ≡ get_or old k was) to is in
    let one : IsSender times was = subst (IsSender times) (sym at) (are.each x.to was (omega (arith, are.long))) in
    let le : length times ≤ sent = omega (arith, count) in
    let now : sending_times next x.to ≡ times ++ replicate n x.time = sending_here r x n pending same in
    let few : sent - length times ≡ n = omega (arith, count) in
    let here : IsSender (sending_times next x.to) s = subst (λ ts. IsSender ts s) (ap (λ k. times ++ replicate k x.time) few ∙ sym now) (sender times one le) in
    let others : (k : ℕ) → k ≢ x.to → sending_times next k ≡ sending_times r k = λ k ne. sending_other r x n pending k same ne in
    subst (λ k. HaveTimes r next old (set old k s)) (sym to) (record {
      senders = senders_set r next old x.to s are (omega (arith, are.long)) refl here others;
      found = λ y have. time_set r next old x.to s y there
          (λ d h. subst (λ ts. IsFound ts s y.number) (sym now)
          (found times (replicate n x.time) y.number one le (subst (λ t. IsFound times t y.number) (get_or_default old x.to d was there ∙ sym at) h)))
          others have;
    })

-- an event whose delay is not known yet
pub delay_left : (r : Run) (events : List Message) (d : Delays) (unsent : List Message) (x : Message) → HasDelays r events d unsent → HasDelays r (events ++ x ∷ []) d (unsent ++ x ∷ [])
delay_left r events d unsent x h = λ later on.
    let f : Message → ℕ = delay_of later in
    let (delays, counted, same) = h later on in
    let left : map f (events ++ x ∷ []) ≡ map f events ++ f x ∷ [] = map-append f events (x ∷ []) in
    let right : (delays ++ map f unsent) ++ f x ∷ [] ≡ delays ++ map f (unsent ++ x ∷ []) = append_assoc delays (map f unsent) (f x ∷ []) ∙ ap (λ ys. delays ++ ys) (sym (map-append f unsent (x ∷ []))) in
    (delays, counted, subst (λ xs. IsPermutation xs (delays ++ map f (unsent ++ x ∷ []))) (sym left) (subst (IsPermutation (map f events ++ f x ∷ [])) right (IsPermutation-append_left (f x ∷ []) (map f events) (delays ++ map f unsent) same)))

-- an event whose delay is counted
pub delay_taken : (r : Run) (events : List Message) (old new : Delays) (unsent : List Message) (x : Message) (delay : ℕ) → x.number < length (sending_times r x.from) → delay ≡ x.time - sent_at r x
    → ((delays : List ℕ) → AreCounted delays old → AreCounted (delays ++ delay ∷ []) new) → HasDelays r events old unsent → HasDelays r (events ++ x ∷ []) new unsent
delay_taken r events old new unsent x delay inside is add h = λ later on.
    let f : Message → ℕ = delay_of later in
    let (delays, counted, same) = h later on in
    let (more, goes) = on x.from in
    let sent : sent_at later x ≡ sent_at r x = ap (λ ts. get_or ts x.number 0) goes ∙ get_or-append (sending_times r x.from) more 0 x.number inside in
    let here : f x ≡ delay = ap (λ t. x.time - t) sent ∙ sym is in
    let left : map f (events ++ x ∷ []) ≡ map f events ++ delay ∷ [] = map-append f events (x ∷ []) ∙ ap (λ k. map f events ++ k ∷ []) here in
    let late : List ℕ = map f unsent in
    let moved : IsPermutation ((delays ++ late) ++ delay ∷ []) ((delays ++ delay ∷ []) ++ late) =
    subst (λ ys. IsPermutation ys ((delays ++ delay ∷ []) ++ late)) (sym (append_assoc delays late (delay ∷ [])))
    (subst (IsPermutation (delays ++ (late ++ delay ∷ []))) (sym (append_assoc delays (delay ∷ []) late)) (IsPermutation-append_right delays (late ++ delay ∷ []) (delay ∷ late) (IsPermutation-to_front late delay))) in (
      delays ++ delay ∷ [],
      add delays counted,
      subst (λ xs. IsPermutation xs ((delays ++ delay ∷ []) ++ late)) (sym left)
          (IsPermutation-trans (map f events ++ delay ∷ []) ((delays ++ late) ++ delay ∷ []) ((delays ++ delay ∷ []) ++ late) (IsPermutation-append_left (delay ∷ []) (map f events) (delays ++ late) same) moved),
    )

handled_more : (r : Run) (x : Message) (n : ℕ) (pending : List Message) (lp : ℕ) → handled_by (with_event r x n pending) lp ≡ handled_by r lp + length (filter (λ (y : Message). y.to == lp) (x ∷ []))
handled_more r x n pending lp =
    ap length (filter-append (λ (y : Message). y.to == lp) r.events (x ∷ [])) ∙ length-append (filter (λ (y : Message). y.to == lp) r.events) (filter (λ (y : Message). y.to == lp) (x ∷ []))

-- one more event is counted
pub counted_event : (r : Run) (x : Message) (n : ℕ) (pending : List Message) (old new : Counts) (lp count : ℕ) → HasCounted r old → lp ≡ x.to → lp < length r.first → HaveTimes r (with_event r x n pending) old.senders.items new.senders.items
    → count ≡ get_or old.handled.items lp 0 + 1 → new.handled.items ≡ set old.handled.items lp count → HasDelays (with_event r x n pending) (r.events ++ x ∷ []) new.delays new.unsent.items
    → Every (HaveTime (with_event r x n pending) new.senders.items) new.unsent.items → HasCounted (with_event r x n pending) new
counted_event r x n pending old new lp count is to inside times count_is handled delays unsent =
    let next : Run = with_event r x n pending in
    record {
      sends = length-append r.sends (n ∷ []) ∙ omega (arith, is.sends, length-append r.events (x ∷ []));
      senders = times.senders;
      long = ap length handled ∙ length-set old.handled.items lp count ∙ is.long;
      handled = λ k l. ap (λ hs. get_or hs k 0) handled ∙ elim (cases_eq k lp) [
        | inl e ↦
            let here : get_or (set old.handled.items lp count) lp 0 ≡ count = get_or-set_same old.handled.items lp count 0 (omega (arith, is.long)) in
            let one : length (filter (λ (y : Message). y.to == x.to) (x ∷ [])) ≡ 1 = ap (λ b. length (if b then x ∷ [] else [])) (eq-eqb x.to x.to refl) in
            let was = is.handled lp inside in
            let more : handled_by next x.to ≡ handled_by r x.to + 1 = handled_more r x n pending x.to ∙ ap (λ j. handled_by r x.to + j) one in
            ap (λ j. get_or (set old.handled.items lp count) j 0) e ∙ here ∙ count_is ∙ ap (λ j. j + 1) was ∙ ap (λ j. handled_by r j + 1) to ∙ sym more ∙ ap (handled_by next) (sym to ∙ sym e)
        | inr ne ↦
            let other : (x.to == k) ≡ false = not_same x.to k (λ e. ne (sym e ∙ sym to)) in
            let none : length (filter (λ (y : Message). y.to == k) (x ∷ [])) ≡ 0 = ap (λ b. length (if b then x ∷ [] else [])) other in
            get_or-set_other old.handled.items lp k count 0 ne ∙ is.handled k l ∙ omega (arith, none, handled_more r x n pending k)
      ];
      delays = delays;
      unsent = unsent;
    }

-- what the counts had of a run they have of it after one more event
pub delays_go_on : (r : Run) (x : Message) (n : ℕ) (pending events : List Message) (d : Delays) (unsent : List Message) → length r.sends ≡ length r.events → HasDelays r events d unsent → HasDelays (with_event r x n pending) events d unsent
delays_go_on r x n pending events d unsent same h = λ later on. h later (goes_on r later x n pending same on)

-- 4. A simulation that counts its events

-- the run at the opening
abbrev pub opening_run : Meaning → Run
opening_run m = record { time = 0; first = (opening m).numbers; events = []; sends = []; pending = (opening m).pending }

pub opening_has : (m : Meaning) (bound : ℕ) → HasRun m bound (opening_run m) (opening m)
opening_has m bound = record {
  passed = record { steps = 0; reached = refl };
  first = refl;
  sends = refl;
  pending = refl;
  states = refl;
  sent = λ lp. sym (ap length (append-nil (replicate (get_or (opening m).numbers lp 0) 0)) ∙ length-replicate (get_or (opening m).numbers lp 0) 0);
}

pub counted_open : (m : Meaning) (bound end : ℕ) (s : Simulation) (c : Counts) (numbers : List ℕ) → s ≡ record { end = end; world = opening m } → numbers ≡ s.world.numbers
    → ((r : Run) → r.first ≡ numbers → r.events ≡ [] → r.sends ≡ [] → HasCounted r c) → ((r : Run) (x : Message) → r.first ≡ numbers → r.events ≡ [] → HaveTime r c.senders.items x) → IsCounted m bound s.world c 0
counted_open m bound end s c numbers e numbers_are counted found =
    let r : Run = opening_run m in
    let first : (opening m).numbers ≡ numbers = sym (numbers_are ∙ ap (λ (t : Simulation). t.world.numbers) e) in
    let there : IsCounted m bound (opening m) c 0 = record {
      run = r;
      has = opening_has m bound;
      counted = counted r first refl refl;
      pending = Every-all (HaveTime r c.senders.items) (λ x. found r x first refl) (opening m).pending;
      events = refl;
    } in
    subst (λ (t : Simulation). IsCounted m bound t.world c 0) (sym e) there

pub event_addressed : (m : Meaning) (bound : ℕ) (r : Run) (w : World) (x : Message) (rest : List Message) → IsLawful m → bound ≤ 2 ^ 40 → HasRun m bound r w → w.pending ≡ x ∷ rest → x.to < m.lps
event_addressed m bound r w x rest law short has first =
    let all : Every (IsAddressed m.lps) (x ∷ rest) = rw first at (run_world m bound r w law short has).addressed in
    all.0.to

-- how many messages the receiver of an event has sent after it
pub sent_after : (m : Meaning) (bound : ℕ) (r : Run) (w v : World) (x : Message) (rest : List Message) (numbers : List ℕ) → IsLawful m → bound ≤ 2 ^ 40 → HasRun m bound r w → w.pending ≡ x ∷ rest → step m bound w ≡ Some v
    → numbers ≡ v.numbers → get_or numbers x.to 0 ≡ length (sending_times r x.to) + sends_at m w x
sent_after m bound r w v x rest numbers law short has first e numbers_are =
    let n : ℕ = sends_at m w x in
    let s = stepped m bound w v x rest first e in
    let there = event_addressed m bound r w x rest law short has first in
    ap (λ ns. get_or ns x.to 0) (numbers_are ∙ ap (λ (u : World). u.numbers) s.0)
    ∙ get_or-set_same w.numbers x.to (number_of w x.to + n) 0 (omega (arith, (run_world m bound r w law short has).numbers)) ∙ ap (λ j. j + n) (has.sent x.to)

-- there is a number for each process after a step
pub numbers_after : (m : Meaning) (bound : ℕ) (r : Run) (w v : World) (x : Message) (rest : List Message) (numbers : List ℕ) → IsLawful m → bound ≤ 2 ^ 40 → HasRun m bound r w → w.pending ≡ x ∷ rest → step m bound w ≡ Some v
    → numbers ≡ v.numbers → length numbers ≡ m.lps
numbers_after m bound r w v x rest numbers law short has first e numbers_are =
    let s = stepped m bound w v x rest first e in
    ap length (numbers_are ∙ ap (λ (u : World). u.numbers) s.0) ∙ length-set w.numbers x.to (number_of w x.to + sends_at m w x) ∙ (run_world m bound r w law short has).numbers

-- the counts have an entry for each process
pub counted_lps : (m : Meaning) (bound : ℕ) (w : World) (c : Counts) (k : ℕ) → IsLawful m → IsCounted m bound w c k → (length c.senders.items ≡ m.lps) × (length c.handled.items ≡ m.lps)
counted_lps m bound w c k law is =
    let first = length-opening m law is.run.first is.has.first in
    (is.counted.senders.long ∙ first, is.counted.long ∙ first)

pub counted_step : (m : Meaning) (bound : ℕ) (w v : World) (x : Message) (rest : List Message) (old new : Counts) (k : ℕ) (numbers : List ℕ) → IsLawful m → bound ≤ 2 ^ 40 → IsCounted m bound w old k → w.pending ≡ x ∷ rest → step m bound w ≡ Some v
    → numbers ≡ v.numbers
    → ((r : Run) (n : ℕ) (pending : List Message) → HasCounted r old → HaveTime r old.senders.items x → get_or numbers x.to 0 ≡ length (sending_times r x.to) + n → HasCounted (with_event r x n pending) new)
    → ((r : Run) (n : ℕ) (pending : List Message) (y : Message) → HasCounted r old → get_or numbers x.to 0 ≡ length (sending_times r x.to) + n → HaveTime r old.senders.items y → HaveTime (with_event r x n pending) new.senders.items y)
    → IsCounted m bound v new (k + 1)
counted_step m bound w v x rest old new k numbers law short is first e numbers_are add found =
    let r : Run = is.run in
    let n : ℕ = sends_at m w x in
    let count : get_or numbers x.to 0 ≡ length (sending_times r x.to) + n = sent_after m bound r w v x rest numbers law short is.has first e numbers_are in
    let all : Every (HaveTime r old.senders.items) (x ∷ rest) = subst (Every (HaveTime r old.senders.items)) first is.pending in
    let next : Run = with_event r x n v.pending in
    record {
      run = next;
      has = run_stepped m bound r w v x rest law short is.has first e;
      counted = add r n v.pending is.counted all.0 count;
      pending = Every-weaker (HaveTime r old.senders.items) (HaveTime next new.senders.items) (λ y h. found r n v.pending y is.counted count h) v.pending
          (pending_stepped m bound r w v x rest old.senders.items is.has is.counted.senders first e is.pending);
      events = omega (arith, is.events, length-append r.events (x ∷ []));
    }

-- the world may forget its log
pub run_forgotten : (m : Meaning) (bound : ℕ) (r : Run) (w : World) → HasRun m bound r w → HasRun m bound r (with_log [] w)
run_forgotten m bound r w has = record { passed = has.passed; first = has.first; sends = has.sends; pending = has.pending; states = has.states; sent = has.sent }

-- the same of what is counted
pub counted_forgotten : (m : Meaning) (bound end : ℕ) (w : World) (s : Simulation) (old : Counts) (short : Vec Sender Global) (k : ℕ) → IsCounted m bound w old k → s ≡ record { end = end; world = with_log [] w }
    → ((r : Run) → AreSenders r old.senders.items → Every (HaveTime r old.senders.items) w.pending → Every (HaveTime r old.senders.items) old.unsent.items → AreSenders r short.items)
    → ((r : Run) → AreSenders r old.senders.items → Every (HaveTime r old.senders.items) w.pending → Every (HaveTime r old.senders.items) old.unsent.items → Every (HaveTime r short.items) w.pending)
    → ((r : Run) → AreSenders r old.senders.items → Every (HaveTime r old.senders.items) w.pending → Every (HaveTime r old.senders.items) old.unsent.items → Every (HaveTime r short.items) old.unsent.items)
    → IsCounted m bound s.world (record old { senders = short }) k
counted_forgotten m bound end w s old short k is e senders pending unsent =
    let r : Run = is.run in
    let was = is.counted in
    let new : Counts = record old { senders = short } in
    let there : IsCounted m bound (with_log [] w) new k = record {
      run = r;
      has = run_forgotten m bound r w is.has;
      counted = record {
        sends = was.sends;
        senders = senders r was.senders is.pending was.unsent;
        long = was.long;
        handled = was.handled;
        delays = was.delays;
        unsent = unsent r was.senders is.pending was.unsent;
      };
      pending = pending r was.senders is.pending was.unsent;
      events = is.events;
    } in
    subst (λ (t : Simulation). IsCounted m bound t.world new k) (sym e) there

-- a message is due
pub due_first : (bound : ℕ) (xs : List Message) (x : Message) (rest : List Message) → xs ≡ x ∷ rest → x.time < bound → is_due bound xs ≡ true
due_first bound xs x rest first early = subst (λ ys. is_due bound ys ≡ true) (sym first) (lt-ltb x.time bound early)

-- there is an entry for the receiver of an event
pub event_fits : (m : Meaning) (bound : ℕ) (w v : World) (c : Counts) (k : ℕ) (x : Message) (rest : List Message) (numbers : List ℕ) → IsLawful m → bound ≤ 2 ^ 40 → IsCounted m bound w c k → w.pending ≡ x ∷ rest → step m bound w ≡ Some v
    → numbers ≡ v.numbers → (x.to < length numbers) × (x.to < length c.senders.items) × (x.to < length c.handled.items)
event_fits m bound w v c k x rest numbers law short is first e numbers_are =
    let there = event_addressed m bound is.run w x rest law short is.has first in
    let lps = counted_lps m bound w c k law is in
    let long = numbers_after m bound is.run w v x rest numbers law short is.has first e numbers_are in
    (omega (arith, long), omega (arith, lps.0), omega (arith, lps.1))

-- steps up to a time, when no event before it is left, are the simulation up to there
pub passed_all : (m : Meaning) (end bound : ℕ) (events : List Message) (w : World) → bound ≤ end → IsRun m bound (opening m) (with_log events w) → IsIdle bound w → IsUpto m end bound (at_time bound (with_log events w))
passed_all m end bound events w le h idle =
    let there : World = with_log events w in
    let zero_time : w.time ≡ 0 = Reaches_time m bound h.steps (opening m) there h.reached in
    let reached = subst (λ (t : ℕ). Reaches m bound h.steps (opening m) (at_time t there)) zero_time h.reached in
    record {
      steps = h.steps;
      reached = Reaches-sooner m bound end h.steps (opening m) (at_time 0 there) le reached;
      time = refl;
      logged = Reaches_logged m bound bound h.steps (opening m) (at_time 0 there) (omega arith) tt reached;
      left = idle;
    }

-- the run of these events
pub run_of_events : (m : Meaning) (end to : ℕ) (events : List Message) (w : World) → IsRun m (min to end) (opening m) (with_log events w) → IsIdle (min to end) w → (r : Run) × IsRunOf m end to r × (r.events ≡ events)
run_of_events m end to events w h idle =
    let bound : ℕ = min to end in
    let r : Run = record { time = bound; first = (opening m).numbers; events = events; sends = sends_of m (opening m).states events; pending = w.pending } in
    (r, record { world = at_time bound (with_log events w); upto = passed_all m end bound events w (omega arith) h idle; time = refl; events = refl; pending = refl; first = refl; sends = refl }, refl)

-- the run of a simulation, when no event is left
abbrev pub whole_run : ℕ → Run → World → Run
whole_run time r w = record { time = time; first = r.first; events = r.events; sends = r.sends; pending = w.pending }

pub run_ended : (m : Meaning) (end to : ℕ) (r : Run) (w : World) → HasRun m (min to end) r w → IsIdle (min to end) w → IsRunOf m end to (whole_run (min to end) r w)
run_ended m end to r w has idle =
    let bound : ℕ = min to end in
    record { world = at_time bound (with_log r.events w); upto = passed_all m end bound r.events w (omega arith) has.passed idle; time = refl; events = refl; pending = refl; first = has.first; sends = has.sends }

pub senders_whole : (time : ℕ) (r : Run) (w : World) (senders : List Sender) → AreSenders r senders → AreSenders (whole_run time r w) senders
senders_whole time r w senders are = record { long = are.long; each = are.each; others = are.others }

-- the run that was counted
pub counted_run : (m : Meaning) (end to : ℕ) (w : World) (c : Counts) (k : ℕ) → IsCounted m (min to end) w c k → IsIdle (min to end) w
    → (r : Run) × IsRunOf m end to r × (r.time ≡ min to end) × (k ≡ length r.events) × (r.pending ≡ w.pending) × HasCounted r c × Every (HaveTime r c.senders.items) w.pending
    × ((lp : ℕ) → get_or w.numbers lp 0 ≡ length (sending_times r lp))
counted_run m end to w c k is idle = (
  whole_run (min to end) is.run w,
  run_ended m end to is.run w is.has idle,
  refl,
  is.events,
  refl,
  record { sends = is.counted.sends; senders = senders_whole (min to end) is.run w c.senders.items is.counted.senders; long = is.counted.long; handled = is.counted.handled; delays = is.counted.delays; unsent = is.counted.unsent },
  is.pending,
  is.has.sent,
)

-- 5. The delays of all messages

pub spread_of_all : (r : Run) (d last : Delays) (unsent : List Message) (s : Spread) → HasDelays r r.events d unsent
    → ((delays : List ℕ) → AreCounted delays d → AreCounted ((delays ++ map (delay_of r) unsent) ++ map (delay_of r) r.pending) last)
    → ((delays : List ℕ) → AreCounted delays last → IsSpread delays s) → IsSpread (map (delay_of r) (r.events ++ r.pending)) s
spread_of_all r d last unsent s h add spread =
    let f : Message → ℕ = delay_of r in
    let (delays, counted, same) = h r (λ lp. ([], sym (append-nil (sending_times r lp)))) in
    let all : List ℕ = (delays ++ map f unsent) ++ map f r.pending in
    let is = spread all (add delays counted) in
    let moved : IsPermutation (map f (r.events ++ r.pending)) all =
    subst (λ xs. IsPermutation xs all) (sym (map-append f r.events r.pending)) (IsPermutation-append_left (map f r.pending) (map f r.events) (delays ++ map f unsent) same) in
    record {
      sorted = is.sorted;
      ascending = is.ascending;
      same = IsPermutation-trans (map f (r.events ++ r.pending)) all is.sorted moved is.same;
      least = is.least;
      median = is.median;
      most = is.most;
    }

-- 6. A step of the code

pub went_below : (m : Meaning) (b bound : ℕ) (s : Simulation) (v : World) (x : Message) (o : Option Message) → bound ≡ b → b ≤ s.end → (s.world.pending ≡ x ∷ drop 1 s.world.pending) × (x.time < bound)
    → ((y : Message) → ◌≡◌ {A = Result (Option Message) WorldFault} (Ok o) (Ok (Some y)) → Handles m s.end s.world y v) → (◌≡◌ {A = Result (Option Message) WorldFault} (Ok o) (Ok None) ↔ IsIdle s.end s.world) → step m b s.world ≡ Some v
went_below m b bound s v x o same le first handled idle =
    let early = first.1 in
    let due = due_first b s.world.pending x (drop 1 s.world.pending) first.0 (omega (arith, same, early)) in
    step_below m b s.end s.world v due (went m b s.end s.world v o le due handled idle)
