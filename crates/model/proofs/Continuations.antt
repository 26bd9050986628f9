-- A simulation that goes on from a world of another one does what that other one does from there on.
use Rattle.std.proofs.Common.{◌≡◌, ℕ, zero, suc, ◌+◌, ◌^◌, ◌<◌, ◌≤◌, List, [], ◌∷◌, ◌++◌, length, map, flat_map, set, get_or, length-append, Option, Some, None, refl, sym, ap, subst, ◌∙◌, append-nil, append_assoc, arith}
use Rattle.std.proofs.lemmas.Bool.{cond-true}
use Rattle.std.specs.List.{AllByRecursion as Every}
use Rattle.eventkey.specs.Message.{Message}
use Rattle.eventkey.proofs.Lists.{Every-append, Every-right, Every-weaker}
use Rattle.model.specs.Lawful.{continued_lawful}
use Rattle.model.specs.Meaning.{IsAddressed, IsLawful, IsOrigin, Meaning, stamp}
use Rattle.model.specs.Origins.{ContinuationBegins, ContinuationIsAll, ContinuationIsLawful, ContinuationIsPart, ContinuationsJoin, EventsAreCounted, as_origin, behind, from_world, total}
use Rattle.model.specs.Runner.{IsReached}
use Rattle.model.specs.World.{Reaches, World, at_time, below, can_handle, given_or, handled, number_of, opening, opening_at, starting, state_of, step, step_from}
use Rattle.model.specs.declared.origin.Origin.{Origin}
use Rattle.model.proofs.Heaps.{length-add_all}
use Rattle.model.proofs.Steps.{IsUpto_IsReached, Reaches_IsReached, opening_IsReached, upto_is_reached_from}
use Rattle.model.proofs.Worlds.{Reaches-append, length-stamp, step_is}

-- 1. Events before those of the log change nothing that a step does

module _ (m : Meaning) (end : ℕ) (events : List Message) where
  -- the step of a world is that of the world with these events before its log
  step-behind : (a b : World) → step m end a ≡ Some b → step m end (behind events a) ≡ Some (behind events b)
  step-behind a b e =
      let s = step_is m end a b e in
      let x = s.0 in
      let rest = s.1 in
      let same : handled m (behind events a) x rest ≡ behind events (handled m a x rest) =
      ap (λ (log : List Message). record { time = a.time; states = (handled m a x rest).states; numbers = (handled m a x rest).numbers; pending = (handled m a x rest).pending; log = log }) (append_assoc events a.log (x ∷ [])) in
      ap (step_from m end (behind events a)) s.2
      ∙ cond-true (can_handle m end a x) (Some (handled m (behind events a) x rest)) None s.4
      ∙ ap Some (same ∙ ap (behind events) (sym s.3))

  pub Reaches-behind : (n : ℕ) (a b : World) → Reaches m end n a b → Reaches m end n (behind events a) (behind events b)
  Reaches-behind zero a b f = ap (behind events) f
  Reaches-behind (suc n) a b f = (behind events f.0, step-behind a f.0 f.1, Reaches-behind n f.0 b f.2)

  -- a step of that world is the step of the world itself
  step-before : (a b : World) → step m end (behind events a) ≡ Some b → (c : World) × (step m end a ≡ Some c) × (b ≡ behind events c)
  step-before a b e =
      let s = step_is m end (behind events a) b e in
      let x = s.0 in
      let rest = s.1 in
      let c = handled m a x rest in
      let same : handled m (behind events a) x rest ≡ behind events c =
      ap (λ (log : List Message). record { time = a.time; states = c.states; numbers = c.numbers; pending = c.pending; log = log }) (append_assoc events a.log (x ∷ [])) in
      (c, ap (step_from m end a) s.2 ∙ cond-true (can_handle m end a x) (Some c) None s.4, s.3 ∙ same)

  pub Reaches-before : (n : ℕ) (a b : World) → Reaches m end n (behind events a) b → (c : World) × Reaches m end n a c × (b ≡ behind events c)
  Reaches-before zero a b f = (a, refl, f)
  Reaches-before (suc n) a b f =
      let s = step-before a f.0 f.1 in
      let rest = Reaches-before n s.0 b (subst (λ (u : World). Reaches m end n u b) s.2 f.2) in
      (rest.0, (s.0, s.1, rest.1), rest.2)

-- 2. A continuation makes the steps of its model

module _ (m : Meaning) (v : World) (end : ℕ) where
  pub Reaches-whole : (n : ℕ) (a b : World) → Reaches (from_world m v) end n a b → Reaches m end n a b
  Reaches-whole zero a b f = f
  Reaches-whole (suc n) a b f = (f.0, f.1, Reaches-whole n f.0 b f.2)

  pub Reaches-part : (n : ℕ) (a b : World) → Reaches m end n a b → Reaches (from_world m v) end n a b
  Reaches-part zero a b f = f
  Reaches-part (suc n) a b f = (f.0, f.1, Reaches-part n f.0 b f.2)

-- its beginning, with the events of the world from which it goes on, is that world
beginning : (m : Meaning) (v : World) → behind v.log (opening (from_world m v)) ≡ at_time 0 v
beginning m v = ap (λ (log : List Message). record { time = 0; states = v.states; numbers = v.numbers; pending = v.pending; log = log }) (append-nil v.log)

-- 3. The laws

pub continuation_is_part : ContinuationIsPart
continuation_is_part m end g0 g v w was le is =
    let own = Reaches-whole m v end is.steps (opening (from_world m v)) (at_time 0 w) is.reached in
    let on = Reaches-behind m end v.log is.steps (opening (from_world m v)) (at_time 0 w) own in
    let from : Reaches m end is.steps (at_time 0 v) (behind v.log (at_time 0 w)) = subst (λ (u : World). Reaches m end is.steps u (behind v.log (at_time 0 w))) (beginning m v) on in
    record {
      steps = was.steps + is.steps;
      reached = Reaches-append m end was.steps is.steps (opening m) (at_time 0 v) (behind v.log (at_time 0 w)) was.reached from;
      time = is.time;
      logged = Every-append (λ (x : Message). x.time < g) v.log w.log (Every-weaker (λ (x : Message). x.time < g0) (λ (x : Message). x.time < g) (λ x h. omega arith) v.log was.logged) is.logged;
      left = is.left;
    }

pub continuation_is_all : ContinuationIsAll
continuation_is_all m end g0 g v w was le is =
    let on = upto_is_reached_from m end g0 g v w le was is in
    let from : Reaches m end on.0 (behind v.log (opening (from_world m v))) (at_time 0 w) = subst (λ (u : World). Reaches m end on.0 u (at_time 0 w)) (sym (beginning m v)) on.1 in
    let own = Reaches-before m end v.log on.0 (opening (from_world m v)) (at_time 0 w) from in
    let u = at_time g own.0 in
    let same : at_time 0 w ≡ behind v.log own.0 = own.2 in
    let log : w.log ≡ v.log ++ own.0.log = ap (λ (a : World). a.log) same in
    let pending : w.pending ≡ own.0.pending = ap (λ (a : World). a.pending) same in
    let time : own.0.time ≡ 0 = sym (ap (λ (a : World). a.time) same) in (
      u,
      record {
        steps = on.0;
        reached = Reaches-part m v end on.0 (opening (from_world m v)) (at_time 0 u) (subst (λ (a : World). Reaches m end on.0 (opening (from_world m v)) a) (timed own.0 time) own.1);
        time = refl;
        logged = Every-right (λ (x : Message). x.time < g) v.log own.0.log (subst (λ (l : List Message). Every (λ (x : Message). x.time < g) l) log is.logged);
        left = subst (λ (l : List Message). Every (λ (x : Message). g ≤ x.time) l) pending is.left;
      },
      ap (at_time w.time) same ∙ ap (λ (t : ℕ). behind v.log (at_time t own.0)) is.time,
    )
  where
    timed : (a : World) → a.time ≡ 0 → a ≡ at_time 0 (at_time g a)
    timed a e = ap (λ (t : ℕ). at_time t a) e

pub continuation_begins : ContinuationBegins
continuation_begins m end g0 v was = record { steps = 0; reached = refl; time = refl; logged = tt; left = was.left }

pub continuation_is_lawful : ContinuationIsLawful
continuation_is_lawful m end g0 v law short was =
    let is = IsUpto_IsReached m end g0 v law short was in
    let can : IsOrigin m.lps (as_origin v) = record {
      states = is.world.states;
      words = is.world.words;
      numbers = is.world.numbers;
      limits = is.numbers;
      ascending = is.world.ascending;
      addressed = is.world.addressed;
    } in
    continued_lawful m (Some (as_origin v)) law can

pub continuations_join : ContinuationsJoin
continuations_join m v w = refl

-- 4. How many events there are

total-set : (ns : List ℕ) (i k : ℕ) → i < length ns → total (set ns i (get_or ns i 0 + k)) ≡ total ns + k
total-set [] i k lt = absurd (omega (arith, lt))
total-set (n ∷ ns) zero k lt = omega arith
total-set (n ∷ ns) (suc i) k lt = omega (arith, total-set ns i k (omega (arith, lt)))

started_counted : (m : Meaning) (lps : List ℕ) → total (map (λ lp. length (m.start_sends lp)) lps) ≡ length (flat_map (λ lp. stamp lp 0 0 (m.start_sends lp)) lps)
started_counted m [] = refl
started_counted m (lp ∷ lps) =
    let sent = stamp lp 0 0 (m.start_sends lp) in
    let rest = flat_map (λ k. stamp k 0 0 (m.start_sends k)) lps in
    omega (arith, started_counted m lps, length-stamp lp 0 0 (m.start_sends lp), length-append sent rest)

opening_counted : (m : Meaning) → m.origin ≡ None → total (opening m).numbers ≡ length (opening m).log + length (opening m).pending
opening_counted m none =
    let sent = flat_map (λ lp. stamp lp 0 0 (m.start_sends lp)) (below m.lps) in
    let at : total (starting m).numbers ≡ length (starting m).pending = omega (arith, started_counted m (below m.lps), length-add_all sent []) in
    subst (λ (o : Option Origin). total (opening_at (given_or o (starting m))).numbers ≡ 0 + length (opening_at (given_or o (starting m))).pending) (sym none) (omega (arith, at))

handled_counted : (m : Meaning) (w : World) (x : Message) (rest : List Message) → x.to < length w.numbers → w.pending ≡ x ∷ rest → total w.numbers ≡ length w.log + length w.pending →
    total (handled m w x rest).numbers ≡ length (handled m w x rest).log + length (handled m w x rest).pending
handled_counted m w x rest lt first was =
    let sends = m.sends x.to (state_of w x.to) x in
    let sent = stamp x.to x.time (number_of w x.to) sends in
    let before : length w.pending ≡ suc (length rest) = ap length first in
    omega (arith, was, before, total-set w.numbers x.to (length sends) lt, length-append w.log (x ∷ []), length-add_all sent rest, length-stamp x.to x.time (number_of w x.to) sends)

module _ (m : Meaning) (end : ℕ) (law : IsLawful m) (short : end ≤ 2 ^ 40) where
  Reaches_counted : (n : ℕ) (a b : World) → IsReached m.lps a → total a.numbers ≡ length a.log + length a.pending → Reaches m end n a b → total b.numbers ≡ length b.log + length b.pending
  Reaches_counted zero a b is was f = subst (λ (w : World). total w.numbers ≡ length w.log + length w.pending) (sym f) was
  Reaches_counted (suc n) a b is was f =
      let s = step_is m end a f.0 f.1 in
      let all : Every (IsAddressed m.lps) (s.0 ∷ s.1) = subst (Every (IsAddressed m.lps)) s.2 is.world.addressed in
      let to = all.0.to in
      let numbers = is.world.numbers in
      let one = handled_counted m a s.0 s.1 (omega (arith, to, numbers)) s.2 was in
      Reaches_counted n f.0 b (Reaches_IsReached m end law short 1 a f.0 is (f.0, f.1, refl))
      (subst (λ (w : World). total w.numbers ≡ length w.log + length w.pending) (sym s.3) one) f.2

pub events_are_counted : EventsAreCounted
events_are_counted m end g w law short none upto =
    Reaches_counted m end law short upto.steps (opening m) (at_time 0 w) (opening_IsReached m law) (opening_counted m none) upto.reached
