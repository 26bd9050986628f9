-- One text appended to another, and events one after another.
use Rattle.std.specs.Prelude.{◌≡◌, ◌+◌, ◌<◌, ◌≤◌, ℕ, List, [], ◌++◌, Option, Result, Ok, Err, OnOk}
use Rattle.std.specs.Prelude.{drop, get_or, length, map, nat_lt, set}
use Rattle.std.specs.List.{AllByRecursion as Every}
use Rattle.std.proofs.Common.{ap, ap₂, append_assoc, arith, lit≤, subst, sym, ◌∙◌}
use Rattle.std.proofs.lemmas.Bool.{cond-true, lt-ltb}
use Rattle.std.proofs.lemmas.List.{drop_all, drop_more, length-map, length-set, map-set, get_or-map}
use Rattle.eventkey.proofs.Lists.{Every-get_or, Every-set, Every-weaker}
use Rattle.eventkey.specs.Message.{Message}
use Rattle.model.proofs.Worlds.{opening_IsWorld}
use Rattle.model.specs.Lawful.{continued_lawful}
use Rattle.model.specs.Meaning.{CanBegin, IsWords}
use Rattle.model.specs.Origins.{continued}
use Rattle.model.specs.declared.origin.Origin.{Origin}
use Rattle.circuit.specs.Circuit.{IsNetlist, Netlist, circuit_meaning}
use Rattle.circuit.specs.CircuitLaws.{circuit_lawful}
use Rattle.circuit.specs.Wave.{changes_text, event_text, events_text, first_states, state_after, state_text, states_after, states_text, time_text}

pub more : (old a b : List ℕ) {mid new : List ℕ} → mid ≡ old ++ a → new ≡ mid ++ b → new ≡ old ++ (a ++ b)
more old a b h k = k ∙ ap (λ s. s ++ b) h ∙ append_assoc old a b

pub then_more : (old a b new : List ℕ) {mid : List ℕ} {T E : Type 0} (r : Result T E) → mid ≡ old ++ a → OnOk r (new ≡ mid ++ b) → OnOk r (new ≡ old ++ (a ++ b))
then_more old a b new (Ok x) h k = more old a b h k
then_more old a b new (Err e) h k = tt

-- 2. The states

abbrev pub IsShort : List ℕ → Type 0
IsShort state = length state ≤ 16

module _ {X : Type 0} (f : X → List ℕ) where
  pub short_at : (xs : List X) (i : ℕ) (d : X) → i < length xs → Every IsShort (map f xs) → IsShort (f (get_or xs i d))
  short_at xs i d l h = subst IsShort (get_or-map f xs i d [] l) (Every-get_or IsShort (map f xs) i [] (rw length-map l) h)

  -- each simulation begins with a state for each process, of at most 16 words
  pub begun_so : (n : Netlist) (o : Option Origin) → IsNetlist n → CanBegin (length n.gates) o → (xs : List X) → map f xs ≡ first_states n o → (length xs ≡ length n.gates) × Every IsShort (map f xs)
  begun_so n o good can xs is =
      let m = continued (circuit_meaning n) o in
      let begun = opening_IsWorld m (continued_lawful (circuit_meaning n) o (circuit_lawful n good) can) in
      (sym (length-map xs f) ∙ ap length is ∙ begun.states, subst (Every IsShort) (sym is) (Every-weaker IsWords IsShort (λ s h. h.0) (first_states n o) begun.words))

  -- one more state
  pub put_values : (xs : List X) (i : ℕ) (x : X) → i < length xs → x ≡ get_or xs i x → (before now all : List ℕ) → now ≡ before ++ state_text i (f x)
      → before ++ states_text i (drop i (map f xs)) ≡ all → now ++ states_text (i + 1) (drop (i + 1) (map f xs)) ≡ all
  put_values xs i x inside is before now all put so_far =
      let there : i < length (map f xs) = rw length-map inside in
      let next : states_text i (drop i (map f xs)) ≡ state_text i (f x) ++ states_text (i + 1) (drop (i + 1) (map f xs)) =
      ap (states_text i) (drop_more (map f xs) i [] there)
      ∙ ap (λ s. state_text i s ++ states_text (i + 1) (drop (i + 1) (map f xs))) (get_or-map f xs i x [] inside ∙ ap f (sym is)) in
      ap (λ s. s ++ states_text (i + 1) (drop (i + 1) (map f xs))) put
      ∙ append_assoc before (state_text i (f x)) (states_text (i + 1) (drop (i + 1) (map f xs)))
      ∙ ap (λ s. before ++ s) (sym next) ∙ so_far

  module _ (n : Netlist) (states : List X) (x : Message) where
    pub kept_so : (k : ℕ) (new : List X) → map f new ≡ states_after n (map f states) x → length states ≡ k → Every IsShort (map f states) → (length new ≡ k) × Every IsShort (map f new)
    kept_so k new is each short = (
      sym (length-map new f) ∙ ap length is ∙ length-set (map f states) x.to (state_after n (map f states) x) ∙ length-map states f ∙ each,
      subst (Every IsShort) (sym is) (Every-set IsShort (map f states) x.to (state_after n (map f states) x) (lit≤ tt) short),
    )

    module _ (to : ℕ) (s : X) (is : to ≡ x.to) (inside : to < length states) (here : s ≡ get_or states to s) where
      at_event : get_or (map f states) x.to [] ≡ f s
      at_event =
          let there : x.to < length states = omega (arith, is, inside) in
          get_or-map f states x.to s [] there ∙ ap f (sym (here ∙ ap (λ t. get_or states t s) is))

      after_event : (now : List ℕ) → now ≡ (circuit_meaning n).next_state to (f s) x → now ≡ state_after n (map f states) x
      after_event now now_is = now_is ∙ ap (λ t. (circuit_meaning n).next_state t (f s) x) is ∙ ap (λ state. (circuit_meaning n).next_state x.to state x) (sym at_event)

      pub found_event : (was now : List ℕ) → was ≡ f s → now ≡ (circuit_meaning n).next_state to (f s) x → changes_text to was now ≡ event_text n (map f states) x
      found_event was now was_is now_is =
          let there : x.to < length (map f states) = rw length-map (omega (arith, is, inside)) in
          ap (λ t. changes_text t was now) is ∙ ap₂ (changes_text x.to) (was_is ∙ sym at_event) (after_event now now_is)
          ∙ sym (cond-true (nat_lt x.to (length (map f states))) (changes_text x.to (get_or (map f states) x.to []) (state_after n (map f states) x)) [] (lt-ltb x.to (length (map f states)) there))

      pub made_event : (y : X) → f y ≡ (circuit_meaning n).next_state to (f s) x → map f (set states to y) ≡ states_after n (map f states) x
      made_event y now_is = map-set f states to y ∙ ap₂ (λ t state. set (map f states) t state) is (after_event (f y) now_is)

-- 3. Events

-- one more event
module _ (n : Netlist) (states : List (List ℕ)) (last end : ℕ) (log : List Message) (i : ℕ) (x : Message) (inside : i < length log) (is : x ≡ get_or log i x) where
  pub next_event : events_text n states last end (drop i log) ≡ time_text last x.time ++ event_text n states x ++ events_text n (states_after n states x) x.time end (drop (i + 1) log)
  next_event = ap (events_text n states last end) (drop_more log i x inside)
      ∙ ap (λ (y : Message). time_text last y.time ++ event_text n states y ++ events_text n (states_after n states y) y.time end (drop (i + 1) log)) (sym is)

  -- what was appended and what is to come are the whole
  pub put_so_far : (old before between now all : List ℕ) → before ++ events_text n states last end (drop i log) ≡ old ++ all
      → between ≡ before ++ time_text last x.time → now ≡ between ++ event_text n states x
      → now ++ events_text n (states_after n states x) x.time end (drop (i + 1) log) ≡ old ++ all
  put_so_far old before between now all so_far time changed =
      ap (λ s. s ++ events_text n (states_after n states x) x.time end (drop (i + 1) log)) (more before (time_text last x.time) (event_text n states x) time changed)
      ∙ append_assoc before (time_text last x.time ++ event_text n states x) (events_text n (states_after n states x) x.time end (drop (i + 1) log))
      ∙ ap (λ s. before ++ s) (sym next_event) ∙ so_far

-- no event is left
pub all_put : {T E : Type 0} (r : Result T E) (n : Netlist) (states : List (List ℕ)) (last end : ℕ) (log : List Message) (i : ℕ) (old before now all : List ℕ) → length log ≤ i
    → before ++ events_text n states last end (drop i log) ≡ old ++ all → OnOk r (now ≡ before ++ time_text last end) → OnOk r (now ≡ old ++ all)
all_put (Ok x) n states last end log i old before now all late so_far is = is ∙ ap (λ s. before ++ s) (sym (ap (events_text n states last end) (drop_all i log late))) ∙ so_far
all_put (Err e) n states last end log i old before now all late so_far is = tt
