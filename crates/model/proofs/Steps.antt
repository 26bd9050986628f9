-- What steps of the sequential simulation keep of the log and the numbers, and that they lead from
-- the simulation up to a time to any later one.
use Rattle.std.specs.Prelude.{nat_lt, nat_le}
use Rattle.std.proofs.Common.{◌≡◌, ℕ, zero, suc, ◌+◌, ◌-◌, ◌^◌, ◌<◌, ◌≤◌, max, true, List, [], ◌∷◌, ◌++◌, length, Some, None, refl, sym, ap, subst, ◌∙◌, arith}
use Rattle.std.specs.List.{AllByRecursion as Every}
use Rattle.std.proofs.lemmas.Bool.{and_from, and_parts, cond-true, leb-true, ltb-true, lt-ltb, le-leb}
use Rattle.eventkey.specs.Bag.{IsAscending}
use Rattle.eventkey.specs.Message.{IsAtMost, Message}
use Rattle.eventkey.proofs.Bags.{at_most_from_before, at_most_trans, earlier_before}
use Rattle.eventkey.proofs.Lists.{Every-add_all, Every-all, Every-append, Every-set, Every-weaker, IsAllAtMost, IsAscending-append}
use Rattle.model.specs.Meaning.{IsAddressed, IsLawful, Meaning, stamp}
use Rattle.model.specs.Runner.{IsIdle, IsReached}
use Rattle.model.specs.Sequential.{EachWorldIsReached, OpeningIsUpto, RunsAreUpto, UptoIsReachedFrom}
use Rattle.model.specs.World.{IsUpto, IsWorld, Reaches, World, at_time, can_handle, handled, number_of, opening, state_of, step, step_from}
use Rattle.model.proofs.Worlds.{Reaches-append, fewer_steps, handled_IsWorld, opening_IsWorld, origin_IsOrigin, same_steps, stamp_later, step_is, words_at}

-- 1. The log ascends, and each logged message is at most each pending one

pub opening_IsReached : (m : Meaning) → IsLawful m → IsReached m.lps (opening m)
opening_IsReached m law = record {
  world = opening_IsWorld m law;
  numbers = (origin_IsOrigin m law).limits;
  logged = tt;
  log_ascends = tt;
  past = Every-all (λ (y : Message). Every (λ (x : Message). IsAtMost x y) []) (λ y. tt) (opening m).pending;
}

module _ (m : Meaning) (end : ℕ) (law : IsLawful m) (short : end ≤ 2 ^ 40) where
  -- a world and the one after its next step
  module _ (a : World) (x : Message) (rest : List Message) (is : IsReached m.lps a) (first : a.pending ≡ x ∷ rest) (can : can_handle m end a x ≡ true) where
    sent : List Message
    sent = stamp x.to x.time (number_of a x.to) (m.sends x.to (state_of a x.to) x)

    up : IsAscending (x ∷ rest)
    up = rw first at is.world.ascending

    addressed : Every (IsAddressed m.lps) (x ∷ rest)
    addressed = rw first at is.world.addressed

    past : IsAllAtMost a.log (x ∷ rest)
    past = rw first at is.past

    limits : (nat_lt x.time end ≡ true) × (nat_le (number_of a x.to + length (m.sends x.to (state_of a x.to) x)) (2 ^ 63) ≡ true)
    limits = and_parts (nat_lt x.time end) (nat_le (number_of a x.to + length (m.sends x.to (state_of a x.to) x)) (2 ^ 63)) can

    early : x.time < end
    early = ltb-true x.time end limits.0

    room : number_of a x.to + length (m.sends x.to (state_of a x.to) x) ≤ 2 ^ 63
    room = leb-true (number_of a x.to + length (m.sends x.to (state_of a x.to) x)) (2 ^ 63) limits.1

    later : Every (λ (y : Message). x.time < y.time) (stamp x.to x.time (number_of a x.to) (m.sends x.to (state_of a x.to) x))
    later = stamp_later m.lps x.to x.time (number_of a x.to) (m.sends x.to (state_of a x.to) x) (law.each x.to (state_of a x.to) x addressed.0.to (words_at a x.to is.world.words) addressed.0.ranged)

    next_IsWorld : IsWorld m.lps (handled m a x rest)
    next_IsWorld = let e = early in handled_IsWorld m a x rest law is.world addressed.0 (omega arith) room up.1 addressed.1

    log_before : (y : Message) → IsAtMost x y → Every (λ (l : Message). IsAtMost l y) (a.log ++ x ∷ [])
    log_before y h =
        Every-append (λ (l : Message). IsAtMost l y) a.log (x ∷ []) (Every-weaker (λ (l : Message). IsAtMost l x) (λ (l : Message). IsAtMost l y) (λ l k. at_most_trans l x y k h) a.log past.0) (h, tt)

    next_IsReached : IsReached m.lps (handled m a x rest)
    next_IsReached = record {
      world = next_IsWorld;
      numbers = Every-set (λ (n : ℕ). n ≤ 2 ^ 63) a.numbers x.to (number_of a x.to + length (m.sends x.to (state_of a x.to) x)) room is.numbers;
      logged = Every-append (IsAddressed m.lps) a.log (x ∷ []) is.logged (addressed.0, tt);
      log_ascends = IsAscending-append a.log (x ∷ []) is.log_ascends (tt, tt) (past.0, tt);
      past = Every-add_all (λ (y : Message). Every (λ (l : Message). IsAtMost l y) (a.log ++ x ∷ [])) (stamp x.to x.time (number_of a x.to) (m.sends x.to (state_of a x.to) x)) rest
          (Every-weaker (λ (y : Message). x.time < y.time) (λ (y : Message). Every (λ (l : Message). IsAtMost l y) (a.log ++ x ∷ []))
          (λ y h. log_before y (at_most_from_before x y (earlier_before x y h))) (stamp x.to x.time (number_of a x.to) (m.sends x.to (state_of a x.to) x)) later)
          (Every-weaker (IsAtMost x) (λ (y : Message). Every (λ (l : Message). IsAtMost l y) (a.log ++ x ∷ [])) log_before rest up.0);
    }

    -- if no message was pending before g, none is now
    next_left : (g : ℕ) → IsIdle g a → IsIdle g (handled m a x rest)
    next_left g left =
        let all : Every (λ (y : Message). g ≤ y.time) (x ∷ rest) = rw first at left in
        let now : g ≤ x.time = all.0 in
        Every-add_all (λ (y : Message). g ≤ y.time) (stamp x.to x.time (number_of a x.to) (m.sends x.to (state_of a x.to) x)) rest
        (Every-weaker (λ (y : Message). x.time < y.time) (λ (y : Message). g ≤ y.time) (λ y h. omega arith) (stamp x.to x.time (number_of a x.to) (m.sends x.to (state_of a x.to) x)) later)
        all.1

  pub Reaches_IsReached : (n : ℕ) (a b : World) → IsReached m.lps a → Reaches m end n a b → IsReached m.lps b
  Reaches_IsReached zero a b is f = subst (IsReached m.lps) (sym f) is
  Reaches_IsReached (suc n) a b is f =
      let s = step_is m end a f.0 f.1 in
      Reaches_IsReached n f.0 b (subst (IsReached m.lps) (sym s.3) (next_IsReached a s.0 s.1 is s.2 s.4)) f.2

  pub Reaches_left : (g n : ℕ) (a b : World) → IsReached m.lps a → IsIdle g a → Reaches m end n a b → IsIdle g b
  Reaches_left g zero a b is left f = subst (IsIdle g) (sym f) left
  Reaches_left g (suc n) a b is left f =
      let s = step_is m end a f.0 f.1 in
      Reaches_left g n f.0 b (subst (IsReached m.lps) (sym s.3) (next_IsReached a s.0 s.1 is s.2 s.4)) (subst (IsIdle g) (sym s.3) (next_left a s.0 s.1 is s.2 s.4 g left)) f.2

pub IsReached-at_time : (lps t : ℕ) (w : World) → IsReached lps w → IsReached lps (at_time t w)
IsReached-at_time lps t w is = record {
  world = record { states = is.world.states; numbers = is.world.numbers; ascending = is.world.ascending; addressed = is.world.addressed; words = is.world.words };
  numbers = is.numbers;
  logged = is.logged;
  log_ascends = is.log_ascends;
  past = is.past;
}

pub each_world_is_reached : EachWorldIsReached
each_world_is_reached m end n w law short f = Reaches_IsReached m end law short n (opening m) w (opening_IsReached m law) f

pub IsUpto_IsReached : (m : Meaning) (end g : ℕ) (w : World) → IsLawful m → end ≤ 2 ^ 40 → IsUpto m end g w → IsReached m.lps w
IsUpto_IsReached m end g w law short u = IsReached-at_time m.lps w.time (at_time 0 w) (each_world_is_reached m end u.steps (at_time 0 w) law short u.reached)

-- 2. From the simulation up to one time to the simulation up to another

pub upto_is_reached_from : UptoIsReachedFrom
upto_is_reached_from m end g1 g2 v w le f g =
    let few = fewer_steps m end g1 g2 v w le f g in
    let k = g.steps - f.steps in
    let n : g.steps ≡ f.steps + k = omega arith in
    (k, same_steps m end f.steps k (opening m) (at_time 0 v) (at_time 0 w) f.reached (rw n at g.reached))

-- 3. Steps at another time, and under another end

module _ (m : Meaning) where
  step-at_time : (end t : ℕ) (a b : World) → step m end a ≡ Some b → step m end (at_time t a) ≡ Some (at_time t b)
  step-at_time end t a b e =
      let s = step_is m end a b e in
      ap (step_from m end (at_time t a)) s.2
      ∙ cond-true (can_handle m end a s.0) (Some (at_time t (handled m a s.0 s.1))) None s.4
      ∙ ap (λ (w : World). Some (at_time t w)) (sym s.3)

  pub Reaches-at_time : (end t n : ℕ) (a b : World) → Reaches m end n a b → Reaches m end n (at_time t a) (at_time t b)
  Reaches-at_time end t zero a b f = ap (at_time t) f
  Reaches-at_time end t (suc n) a b f = (at_time t f.0, step-at_time end t a f.0 f.1, Reaches-at_time end t n f.0 b f.2)

  -- the step of a message that can be handled
  pub step_made : (end : ℕ) (w : World) (x : Message) (rest : List Message) → w.pending ≡ x ∷ rest → x.time < end → number_of w x.to + length (m.sends x.to (state_of w x.to) x) ≤ 2 ^ 63 →
      step m end w ≡ Some (handled m w x rest)
  step_made end w x rest first early fits =
      let count = number_of w x.to + length (m.sends x.to (state_of w x.to) x) in
      ap (step_from m end w) first
      ∙ cond-true (can_handle m end w x) (Some (handled m w x rest)) None (and_from (nat_lt x.time end) (nat_le count (2 ^ 63)) (lt-ltb x.time end early) (le-leb count (2 ^ 63) fits))

  step-sooner : (bound end : ℕ) (a b : World) → bound ≤ end → step m bound a ≡ Some b → step m end a ≡ Some b
  step-sooner bound end a b le e =
      let s = step_is m bound a b e in
      let count = number_of a s.0.to + length (m.sends s.0.to (state_of a s.0.to) s.0) in
      let can = and_parts (nat_lt s.0.time bound) (nat_le count (2 ^ 63)) s.4 in
      let early = ltb-true s.0.time bound can.0 in
      step_made end a s.0 s.1 s.2 (omega arith) (leb-true count (2 ^ 63) can.1) ∙ ap Some (sym s.3)

  -- steps before a bound are steps before a later end
  pub Reaches-sooner : (bound end n : ℕ) (a b : World) → bound ≤ end → Reaches m bound n a b → Reaches m end n a b
  Reaches-sooner bound end zero a b le f = f
  Reaches-sooner bound end (suc n) a b le f = (f.0, step-sooner bound end a f.0 le f.1, Reaches-sooner bound end n f.0 b le f.2)

  -- steps before a bound log only messages before the bound
  pub Reaches_logged : (bound g n : ℕ) (a b : World) → bound ≤ g → Every (λ (x : Message). x.time < g) a.log → Reaches m bound n a b → Every (λ (x : Message). x.time < g) b.log
  Reaches_logged bound g zero a b le h f = subst (λ (w : World). Every (λ (x : Message). x.time < g) w.log) (sym f) h
  Reaches_logged bound g (suc n) a b le h f =
      let s = step_is m bound a f.0 f.1 in
      let can = and_parts (nat_lt s.0.time bound) (nat_le (number_of a s.0.to + length (m.sends s.0.to (state_of a s.0.to) s.0)) (2 ^ 63)) s.4 in
      let early = ltb-true s.0.time bound can.0 in
      let more : Every (λ (x : Message). x.time < g) (a.log ++ s.0 ∷ []) = Every-append (λ (x : Message). x.time < g) a.log (s.0 ∷ []) h (omega arith, tt) in
      Reaches_logged bound g n f.0 b le (subst (λ (w : World). Every (λ (x : Message). x.time < g) w.log) (sym s.3) more) f.2

  pub Reaches_time : (bound n : ℕ) (a b : World) → Reaches m bound n a b → b.time ≡ a.time
  Reaches_time bound zero a b f = ap (λ (w : World). w.time) f
  Reaches_time bound (suc n) a b f = Reaches_time bound n f.0 b f.2 ∙ ap (λ (w : World). w.time) (step_is m bound a f.0 f.1).3

-- 4. What runs lead to

pub opening_is_upto : OpeningIsUpto
opening_is_upto m end = record { steps = 0; reached = refl; time = refl; logged = tt; left = Every-all (λ (x : Message). 0 ≤ x.time) (λ x. omega arith) (opening m).pending }

pub runs_are_upto : RunsAreUpto
runs_are_upto m end bound g old new law short le u run =
    let n = run.run.steps in
    let wide = Reaches-sooner m bound end n old (at_time old.time new) le run.run.reached in
    let to = Reaches-at_time m end 0 n old (at_time old.time new) wide in
    let was = IsUpto_IsReached m end g old law short u in
    let logged = Reaches_logged m bound (max g bound) n old (at_time old.time new) (omega arith)
    (Every-weaker (λ (x : Message). x.time < g) (λ (x : Message). x.time < max g bound) (λ x h. omega arith) old.log u.logged) run.run.reached in
    let left = Reaches_left m end law short g n old (at_time old.time new) was u.left wide in
    let time = u.time in
    record {
      steps = u.steps + n;
      reached = Reaches-append m end u.steps n (opening m) (at_time 0 old) (at_time 0 new) u.reached to;
      time = run.time ∙ ap (λ (t : ℕ). max t bound) time;
      logged = logged;
      left = both_left g bound new.pending left run.left;
    }
  where
    both_left : (g bound : ℕ) (xs : List Message) → Every (λ (x : Message). g ≤ x.time) xs → Every (λ (x : Message). bound ≤ x.time) xs → Every (λ (x : Message). max g bound ≤ x.time) xs
    both_left g bound [] h k = tt
    both_left g bound (x ∷ xs) h k = (let a = h.0 in let b = k.0 in omega arith, both_left g bound xs h.1 k.1)
