-- Worlds: what each step keeps, and where steps lead.
use Rattle.std.proofs.Common.{◌≡◌, ℕ, suc, ◌+◌, ◌-◌, List, [], ◌∷◌, refl, ap, length, ◌<◌, arith, ◌≤◌, ◌^◌, zero, length-append, flat_map, ◌∙◌, length-set, true, inl, inr, Option, Some, None, subst, suc-add, zero-add, sym, nat_lt, nat_le, ◌++◌, append_assoc, append-nil, ap₂, get_or}
use Rattle.std.proofs.lemmas.Bool.{cases_Bool, and_parts, ltb-true, leb-true, cases_lt}
use Rattle.std.proofs.Math.ListN.{get_or-append}
use Rattle.std.proofs.Math.Seq.{get_or-append_seam}
use Rattle.std.proofs.lemmas.List.{length-map}
use Rattle.std.specs.List.{AllByRecursion as Every}
use Rattle.eventkey.proofs.Bags.{IsAscending-add_all}
use Rattle.eventkey.proofs.Lists.{Every-add_all, Every-append, Every-flat_map, Every-get_or-default, Every-left, Every-map, Every-right, Every-set, Every-weaker}
use Rattle.eventkey.specs.Bag.{IsAscending}
use Rattle.eventkey.specs.Message.{Message}
use Rattle.model.specs.Meaning.{CanBegin, IsAddressed, IsLawful, IsOrigin, IsSend, IsWords, Meaning, most_lps, stamp}
use Rattle.model.specs.Sequential.{UptoGoesOn, UptoIsOne}
use Rattle.model.specs.World.{IsUpto, IsWorld, Reaches, World, at_time, below, can_handle, given_or, handled, number_of, opening, origin_of, starting, state_of, step, step_from}
use Rattle.model.specs.declared.Outgoing.{Outgoing}
use Rattle.model.specs.declared.origin.Origin.{Origin}

-- 2. The messages that a handling sends

pub length-stamp : (lp t k : ℕ) (os : List Outgoing) → length (stamp lp t k os) ≡ length os
length-stamp lp t k [] = refl
length-stamp lp t k (o ∷ os) = ap suc (length-stamp lp t (k + 1) os)

pub stamp_later : (lps lp t k : ℕ) (os : List Outgoing) → Every (IsSend lps) os → Every (λ (x : Message). t < x.time) (stamp lp t k os)
stamp_later lps lp t k [] h = tt
stamp_later lps lp t k (o ∷ os) h = (let d = h.0.delay in omega arith, stamp_later lps lp t (k + 1) os h.1)

pub stamp_addressed : (lps lp t k : ℕ) (os : List Outgoing) → lps ≤ most_lps → lp < lps → t < 2 ^ 40 → k + length os ≤ 2 ^ 63 → Every (IsSend lps) os → Every (IsAddressed lps) (stamp lp t k os)
stamp_addressed lps lp t k [] few l early fits h = tt
stamp_addressed lps lp t k (o ∷ os) few l early fits h = (
  record {
    to = h.0.to;
    ranged = (
        let d = h.0.delay_fits in
        let r = h.0.to in
        record { time = omega arith; from = omega arith; number = omega arith; to = omega arith; a = h.0.a; b = h.0.b; c = h.0.c; d = h.0.d });
  },
  stamp_addressed lps lp t (k + 1) os few l early (omega arith) h.1,
)

-- 3. Properties of every world

pub length-below : (n : ℕ) → length (below n) ≡ n
length-below zero = refl
length-below (suc n) = omega (arith, length-append (below n) (n ∷ []), length-below n)

pub get_or-below : (n i d : ℕ) → i < n → get_or (below n) i d ≡ i
get_or-below zero i d l = absurd (omega arith)
get_or-below (suc n) i d l = elim (cases_lt i n) [
  | inl low ↦ get_or-append (below n) (n ∷ []) d i (omega (arith, length-below n)) ∙ get_or-below n i d low
  | inr high ↦
      let last : i ≡ length (below n) = omega (arith, length-below n) in
      ap (λ j. get_or (below n ++ n ∷ []) j d) last ∙ get_or-append_seam (below n) n [] d ∙ omega (arith, length-below n)
]

pub Every-below : (n : ℕ) → Every (λ k. k < n) (below n)
Every-below zero = tt
Every-below (suc n) = Every-append (λ k. k < suc n) (below n) (n ∷ []) (Every-weaker (λ k. k < n) (λ k. k < suc n) (λ k h. omega arith) (below n) (Every-below n)) (omega arith, tt)

-- what the processes do at their start
starting_IsOrigin : (m : Meaning) → IsLawful m → IsOrigin m.lps (starting m)
starting_IsOrigin m law =
    let sent : ℕ → List Message = λ lp. stamp lp 0 0 (m.start_sends lp) in
    record {
      states = length-map (below m.lps) m.start_state ∙ length-below m.lps;
      numbers = length-map (below m.lps) (λ lp. length (m.start_sends lp)) ∙ length-below m.lps;
      limits = Every-map (λ (n : ℕ). n ≤ 2 ^ 63) (λ (lp : ℕ). length (m.start_sends lp)) (below m.lps)
          (Every-weaker (λ (k : ℕ). k < m.lps) (λ (k : ℕ). length (m.start_sends k) ≤ 2 ^ 63) (λ k l. let few = law.start_few k l in omega arith) (below m.lps) (Every-below m.lps));
      ascending = IsAscending-add_all (flat_map sent (below m.lps)) [] tt;
      addressed =
          Every-add_all (IsAddressed m.lps) (flat_map sent (below m.lps)) []
          (Every-flat_map (IsAddressed m.lps) sent (below m.lps)
          (Every-weaker (λ lp. lp < m.lps) (λ lp. Every (IsAddressed m.lps) (sent lp)) (λ lp l. let few = law.start_few lp l in stamp_addressed m.lps lp 0 0 (m.start_sends lp) law.few_lps l (omega arith) (omega arith) (law.start lp l)) (below m.lps) (Every-below m.lps)))
          tt;
      words = Every-map IsWords m.start_state (below m.lps) (Every-weaker (λ lp. lp < m.lps) (λ lp. IsWords (m.start_state lp)) law.start_words (below m.lps) (Every-below m.lps));
    }

given_IsOrigin : (lps : ℕ) (given : Option Origin) (o : Origin) → CanBegin lps given → IsOrigin lps o → IsOrigin lps (given_or given o)
given_IsOrigin lps None o can is = is
given_IsOrigin lps (Some given) o can is = can

-- where the simulation of a lawful model begins
pub origin_IsOrigin : (m : Meaning) → IsLawful m → IsOrigin m.lps (origin_of m)
origin_IsOrigin m law = given_IsOrigin m.lps m.origin (starting m) law.begins (starting_IsOrigin m law)

pub opening_IsWorld : (m : Meaning) → IsLawful m → IsWorld m.lps (opening m)
opening_IsWorld m law =
    let is = origin_IsOrigin m law in
    record { states = is.states; numbers = is.numbers; ascending = is.ascending; addressed = is.addressed; words = is.words }

pub words_at : (w : World) (lp : ℕ) → Every IsWords w.states → IsWords (state_of w lp)
words_at w lp h = Every-get_or-default IsWords w.states lp [] h (omega arith, tt)

pub handled_IsWorld : (m : Meaning) (w : World) (x : Message) (rest : List Message) → IsLawful m → IsWorld m.lps w → IsAddressed m.lps x → x.time < 2 ^ 40 →
    number_of w x.to + length (m.sends x.to (state_of w x.to) x) ≤ 2 ^ 63 → IsAscending rest → Every (IsAddressed m.lps) rest → IsWorld m.lps (handled m w x rest)
handled_IsWorld m w x rest law is at early fits up all =
    let state : List ℕ = state_of w x.to in
    let words : IsWords state = words_at w x.to is.words in
    let os : List Outgoing = m.sends x.to state x in
    record {
      states = length-set w.states x.to (m.next_state x.to state x) ∙ is.states;
      numbers = length-set w.numbers x.to (number_of w x.to + length os) ∙ is.numbers;
      ascending = IsAscending-add_all (stamp x.to x.time (number_of w x.to) os) rest up;
      addressed =
          Every-add_all (IsAddressed m.lps) (stamp x.to x.time (number_of w x.to) os) rest
          (stamp_addressed m.lps x.to x.time (number_of w x.to) os law.few_lps at.to early fits (law.each x.to state x at.to words at.ranged)) all;
      words = Every-set IsWords w.states x.to (m.next_state x.to state x) (law.words x.to state x at.to words at.ranged) is.words;
    }

-- a step handles the least pending message
pub step_is : (m : Meaning) (end : ℕ) (w v : World) → step m end w ≡ Some v →
    (x : Message) × (rest : List Message) × (w.pending ≡ x ∷ rest) × (v ≡ handled m w x rest) × (can_handle m end w x ≡ true)
step_is m end w v e = go w.pending refl
  where
    go : (xs : List Message) → w.pending ≡ xs → (x : Message) × (rest : List Message) × (w.pending ≡ x ∷ rest) × (v ≡ handled m w x rest) × (can_handle m end w x ≡ true)
    go [] f = absurd (let g : step_from m end w [] ≡ Some v = rw f at e in cc)
    go (x ∷ rest) f =
        let g : step_from m end w (x ∷ rest) ≡ Some v = rw f at e in
        elim (cases_Bool (can_handle m end w x)) [
          | inl t ↦ (x, rest, f, (let h : Some (handled m w x rest) ≡ Some v = rw t at g in cc), t)
          | inr t ↦ absurd (let h : None ≡ Some v = rw t at g in cc)
        ]

-- 4. Where steps lead

pub Reaches-append : (m : Meaning) (end k n : ℕ) (a b c : World) → Reaches m end k a b → Reaches m end n b c → Reaches m end (k + n) a c
Reaches-append m end zero n a b c f g = rw zero-add (subst (λ w. Reaches m end n w c) f g)
Reaches-append m end (suc k) n a b c f g = rw suc-add (f.0, f.1, Reaches-append m end k n f.0 b c f.2 g)

pub Reaches_IsWorld : (m : Meaning) (end n : ℕ) (a b : World) → IsLawful m → end ≤ 2 ^ 40 → IsWorld m.lps a → Reaches m end n a b → IsWorld m.lps b
Reaches_IsWorld m end zero a b law short is f = subst (IsWorld m.lps) (sym f) is
Reaches_IsWorld m end (suc n) a b law short is f =
    let s = step_is m end a f.0 f.1 in
    let x : Message = s.0 in
    let rest : List Message = s.1 in
    let up : IsAscending (x ∷ rest) = rw s.2 at is.ascending in
    let to : Every (IsAddressed m.lps) (x ∷ rest) = rw s.2 at is.addressed in
    let count : ℕ = number_of a x.to + length (m.sends x.to (state_of a x.to) x) in
    let can = and_parts (nat_lt x.time end) (nat_le count (2 ^ 63)) s.4 in
    let early = ltb-true x.time end can.0 in
    let fits : count ≤ 2 ^ 63 = leb-true count (2 ^ 63) can.1 in
    let mid : IsWorld m.lps f.0 = subst (IsWorld m.lps) (sym s.3) (handled_IsWorld m a x rest law is to.0 (omega arith) fits up.1 to.1) in
    Reaches_IsWorld m end n f.0 b law short mid f.2

pub IsUpto_IsWorld : (m : Meaning) (end g : ℕ) (w : World) → IsLawful m → end ≤ 2 ^ 40 → IsUpto m end g w → IsWorld m.lps w
IsUpto_IsWorld m end g w law short u =
    let is = Reaches_IsWorld m end u.steps (opening m) (at_time 0 w) law short (opening_IsWorld m law) u.reached in
    record { states = is.states; numbers = is.numbers; ascending = is.ascending; addressed = is.addressed; words = is.words }

pub log_goes_on : (m : Meaning) (end n : ℕ) (a b : World) → Reaches m end n a b → (more : List Message) × (b.log ≡ a.log ++ more)
log_goes_on m end zero a b f = ([], ap (λ (w : World). w.log) f ∙ sym (append-nil a.log))
log_goes_on m end (suc n) a b f =
    let s = step_is m end a f.0 f.1 in
    let rest = log_goes_on m end n f.0 b f.2 in
    let here : f.0.log ≡ a.log ++ s.0 ∷ [] = ap (λ (w : World). w.log) s.3 in
    (s.0 ∷ rest.0, rest.1 ∙ ap (λ l. l ++ rest.0) here ∙ append_assoc a.log (s.0 ∷ []) rest.0)

-- the steps are determined
pub same_steps : (m : Meaning) (end k n : ℕ) (a b c : World) → Reaches m end k a b → Reaches m end (k + n) a c → Reaches m end n b c
same_steps m end zero n a b c f g = subst (λ w. Reaches m end n w c) (sym f) (rw zero-add at g)
same_steps m end (suc k) n a b c f g =
    let g' : Reaches m end (suc (k + n)) a c = rw suc-add at g in
    let same : Some g'.0 ≡ Some f.0 = sym g'.1 ∙ f.1 in
    let mid : g'.0 ≡ f.0 = cc in
    same_steps m end k n f.0 b c f.2 (subst (λ w. Reaches m end (k + n) w c) mid g'.2)

-- a step from a world up to g2 handles a message at g2 or later
pub late_step : (m : Meaning) (end g1 g2 k : ℕ) (v w : World) → Every (λ (x : Message). x.time < g1) v.log → Every (λ (x : Message). g2 ≤ x.time) w.pending →
    Reaches m end (suc k) w v → g2 < g1
late_step m end g1 g2 k v w logged left f =
    let s = step_is m end w f.0 f.1 in
    let log = log_goes_on m end k f.0 v f.2 in
    let e : v.log ≡ (w.log ++ s.0 ∷ []) ++ log.0 = log.1 ∙ ap (λ (u : World). u.log ++ log.0) {y = handled m w s.0 s.1} s.3 in
    let early : s.0.time < g1 = (Every-right (λ (x : Message). x.time < g1) w.log (s.0 ∷ []) (Every-left (λ (x : Message). x.time < g1) (w.log ++ s.0 ∷ []) log.0 (rw e at logged))).0 in
    let e' : w.pending ≡ s.0 ∷ s.1 = s.2 in
    let late : Every (λ (x : Message). g2 ≤ x.time) (s.0 ∷ s.1) = rw e' at left in
    let late' : g2 ≤ s.0.time = late.0 in
    omega arith

-- the simulation up to an earlier time has at most as many steps
pub fewer_steps : (m : Meaning) (end g1 g2 : ℕ) (v w : World) → g1 ≤ g2 → (f : IsUpto m end g1 v) (g : IsUpto m end g2 w) → f.steps ≤ g.steps
fewer_steps m end g1 g2 v w le f g = elim (cases_lt g.steps f.steps) [
  | inl h ↦ absurd (
      let k = f.steps - suc g.steps in
      let n : f.steps ≡ g.steps + suc k = omega arith in
      let more = same_steps m end g.steps (suc k) (opening m) (at_time 0 w) (at_time 0 v) g.reached (rw n at f.reached) in
      let late = late_step m end g1 g2 k (at_time 0 v) (at_time 0 w) f.logged g.left more in
      omega arith)
  | inr h ↦ h
]

pub upto_goes_on : UptoGoesOn
upto_goes_on m end g1 g2 v w le f g =
    let few = fewer_steps m end g1 g2 v w le f g in
    let k = g.steps - f.steps in
    let n : g.steps ≡ f.steps + k = omega arith in
    log_goes_on m end k (at_time 0 v) (at_time 0 w) (same_steps m end f.steps k (opening m) (at_time 0 v) (at_time 0 w) f.reached (rw n at g.reached))

pub upto_is_one : UptoIsOne
upto_is_one m end g v w f h =
    let few = fewer_steps m end g g v w (omega arith) f h in
    let few' = fewer_steps m end g g w v (omega arith) h f in
    let n : h.steps ≡ f.steps + 0 = omega arith in
    let same : at_time 0 w ≡ at_time 0 v = same_steps m end f.steps 0 (opening m) (at_time 0 v) (at_time 0 w) f.reached (rw n at h.reached) in
    ap₂ at_time (f.time ∙ sym h.time) (sym same)
