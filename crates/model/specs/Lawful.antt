-- A continued model keeps the laws of a model.
use Rattle.std.specs.Prelude.{ℕ, ◌≤◌, ◌<◌, ◌^◌, List, [], ◌∷◌, Option, Some, None}
use Rattle.std.specs.List.{AllByRecursion as Every}
use Rattle.std.proofs.Props.{props}
use Rattle.std.specs.Coded.{×_prop, Unit-prop, le_prop}
use Rattle.eventkey.specs.Bag.{IsAscending}
use Rattle.eventkey.specs.Message.{IsAtMost, Message}
use Rattle.model.specs.Meaning.{CanBegin, IsAddressed, IsLawful, IsOrigin, IsWords, Meaning}
use Rattle.model.specs.Origins.{continued, or_own}
use Rattle.model.specs.declared.origin.Origin.{Origin}

-- an origin that the model can begin with, or else its own
begins_so : (lps : ℕ) (o own : Option Origin) → CanBegin lps o → CanBegin lps own →
    CanBegin lps (or_own o own)
begins_so lps None own given kept = kept
begins_so lps (Some o) own given kept = given

pub continued_lawful : (m : Meaning) (o : Option Origin) → IsLawful m → CanBegin m.lps o →
    IsLawful (continued m o)
continued_lawful m o law given = record {
  some = law.some;
  few_lps = law.few_lps;
  identity_few = law.identity_few;
  identity_words = law.identity_words;
  begins = begins_so m.lps o m.origin given law.begins;
  start_words = law.start_words;
  start_few = law.start_few;
  start = law.start;
  words = law.words;
  few = law.few;
  each = law.each;
}

-- That a simulation can begin so has at most one proof, so that a struct can keep it.
Every_prop : {X : Type 0} (P : X → Type 0) → ((x : X) → IsProp (P x)) → (xs : List X) →
    IsProp (Every P xs)
Every_prop P each [] = Unit-prop
Every_prop P each (x ∷ xs) = ×_prop (each x) (Every_prop P each xs)

words_prop : (state : List ℕ) → IsProp (IsWords state)
words_prop state = ×_prop le_prop (Every_prop (λ (word : ℕ). word < 2 ^ 64) (λ word. hlevel props) state)

ascending_prop : (xs : List Message) → IsProp (IsAscending xs)
ascending_prop [] = Unit-prop
ascending_prop (x ∷ xs) = ×_prop (Every_prop (IsAtMost x) (λ y. hlevel props) xs) (ascending_prop xs)

origin_prop : (lps : ℕ) (o : Origin) → IsProp (IsOrigin lps o)
origin_prop lps o =
    let states = Every_prop IsWords words_prop o.states in
    let limits = Every_prop (λ (number : ℕ). number ≤ 2 ^ 63) (λ number. hlevel props) o.numbers in
    let addressed = Every_prop (IsAddressed lps) (λ x. hlevel props) o.pending in
    hlevel (props, states, limits, ascending_prop o.pending, addressed)

pub begin_prop : (lps : ℕ) (o : Option Origin) → IsProp (CanBegin lps o)
begin_prop lps None = Unit-prop
begin_prop lps (Some o) = origin_prop lps o
