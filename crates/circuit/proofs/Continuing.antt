-- The wave of a simulation that goes on from another one.
use Rattle.std.specs.List.{AllByRecursion as Every}
use Rattle.std.specs.Prelude.{◌≡◌, ◌<◌, ◌≤◌, ◌^◌, ℕ, zero, suc, List, [], ◌∷◌, ◌++◌, None}
use Rattle.std.proofs.Common.{ap, refl, subst, sym, ◌∙◌}
use Rattle.eventkey.proofs.Lists.{Every-append}
use Rattle.eventkey.specs.Message.{Message}
use Rattle.model.proofs.Steps.{Reaches_IsReached, Reaches_left, opening_IsReached}
use Rattle.model.proofs.Worlds.{step_is}
use Rattle.model.specs.Meaning.{IsLawful, Meaning}
use Rattle.model.specs.Origins.{from_world}
use Rattle.model.specs.Runner.{IsIdle, IsReached}
use Rattle.model.specs.World.{Reaches, World, at_time, opening}
use Rattle.model.proofs.Continuations.{continuation_is_lawful}
use Rattle.circuit.specs.Circuit.{Netlist, circuit_meaning}
use Rattle.circuit.specs.CircuitLaws.{circuit_lawful}
use Rattle.circuit.specs.Wave.{Change, WaveOfPart, changes_of, event_text, first_states, states_after}

-- 1. Changes

module _ (n : Netlist) where
  -- the states after these events
  abbrev states_behind : List (List ℕ) → List Message → List (List ℕ)
  states_behind states [] = states
  states_behind states (x ∷ xs) = states_behind (states_after n states x) xs

  behind_append : (states : List (List ℕ)) (xs ys : List Message) → states_behind states (xs ++ ys) ≡ states_behind (states_behind states xs) ys
  behind_append states [] ys = refl
  behind_append states (x ∷ xs) ys = behind_append (states_after n states x) xs ys

  changes_append : (states : List (List ℕ)) (xs ys : List Message) → changes_of n states (xs ++ ys) ≡ changes_of n states xs ++ changes_of n (states_behind states xs) ys
  changes_append states [] ys = refl
  changes_append states (x ∷ xs) ys =
      ap (λ cs. record { time = x.time; lines = event_text n states x } ∷ cs) (changes_append (states_after n states x) xs ys)

  -- a change has the time of its event
  changes_at : (P : ℕ → Type 0) (states : List (List ℕ)) (xs : List Message) → Every (λ (x : Message). P x.time) xs → Every (λ (c : Change). P c.time) (changes_of n states xs)
  changes_at P states [] h = tt
  changes_at P states (x ∷ xs) h = (h.0, changes_at P (states_after n states x) xs h.1)

  -- each step of a simulation changes the states as its event does
  Reaches_behind : (end k : ℕ) (a b : World) → Reaches (circuit_meaning n) end k a b → (states : List (List ℕ)) → a.states ≡ states_behind states a.log → b.states ≡ states_behind states b.log
  Reaches_behind end zero a b f states is = subst (λ (w : World). w.states ≡ states_behind states w.log) (sym f) is
  Reaches_behind end (suc k) a b f states is =
      let s = step_is (circuit_meaning n) end a f.0 f.1 in
      let made : states_after n a.states s.0 ≡ states_behind states (a.log ++ s.0 ∷ []) =
      ap (λ ss. states_after n ss s.0) is ∙ sym (behind_append states a.log (s.0 ∷ [])) in
      Reaches_behind end k f.0 b f.2 states (subst (λ (w : World). w.states ≡ states_behind states w.log) (sym s.3) made)

-- 2. No event of a simulation is before the time before which none was pending at its beginning

module _ (m : Meaning) (end : ℕ) (law : IsLawful m) (short : end ≤ 2 ^ 40) (g : ℕ) where
  Reaches_logged : (k : ℕ) (a b : World) → IsReached m.lps a → IsIdle g a → Every (λ (x : Message). g ≤ x.time) a.log → Reaches m end k a b → Every (λ (x : Message). g ≤ x.time) b.log
  Reaches_logged zero a b is left logged f = subst (λ (w : World). Every (λ (x : Message). g ≤ x.time) w.log) (sym f) logged
  Reaches_logged (suc k) a b is left logged f =
      let s = step_is m end a f.0 f.1 in
      let all : Every (λ (x : Message). g ≤ x.time) (s.0 ∷ s.1) = subst (Every (λ (x : Message). g ≤ x.time)) s.2 left in
      let next : Every (λ (x : Message). g ≤ x.time) (a.log ++ s.0 ∷ []) = Every-append (λ (x : Message). g ≤ x.time) a.log (s.0 ∷ []) logged (all.0, tt) in
      Reaches_logged k f.0 b (Reaches_IsReached m end law short 1 a f.0 is (f.0, f.1, refl)) (Reaches_left m end law short g 1 a f.0 is left (f.0, f.1, refl))
      (subst (λ (w : World). Every (λ (x : Message). g ≤ x.time) w.log) (sym s.3) next) f.2

-- 3. The law

pub wave_of_part : WaveOfPart
wave_of_part n end g0 g v w good short was on =
    let m = circuit_meaning n in
    let own = continuation_is_lawful m end g0 v (circuit_lawful n good) short was in
    let states : v.states ≡ states_behind n (first_states n None) v.log = Reaches_behind n end was.steps (opening m) (at_time 0 v) was.reached (first_states n None) refl in
    let logged : Every (λ (x : Message). g0 ≤ x.time) w.log = Reaches_logged (from_world m v) end own short g0 on.steps (opening (from_world m v)) (at_time 0 w)
    (opening_IsReached (from_world m v) own) was.left tt on.reached in
    record {
      joined = changes_append n (first_states n None) v.log w.log ∙ ap (λ ss. changes_of n (first_states n None) v.log ++ changes_of n ss w.log) (sym states);
      before = changes_at n (λ t. t < g0) (first_states n None) v.log was.logged;
      behind = changes_at n (λ t. g0 ≤ t) v.states w.log logged;
    }
