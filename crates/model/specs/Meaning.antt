-- The meaning of a model: functions of their arguments alone, and the laws that they obey.
use Rattle.std.specs.List.{AllByRecursion as Every}
use Rattle.std.specs.Prelude.{ℕ, List, ◌+◌, [], ◌∷◌, ◌≤◌, ◌<◌, ◌≡◌, ◌^◌, length, Option, Some, None}
use Rattle.eventkey.specs.Bag.{IsAscending}
use Rattle.eventkey.specs.Message.{IsRanged, Message}
use Rattle.model.specs.declared.Outgoing.{Outgoing}
use Rattle.model.specs.declared.origin.Origin.{Origin}

pub record Meaning : Type 0 where
  pub lps : ℕ  -- the number of logical processes
  pub identity : List ℕ  -- the words that distinguish this model from others
  -- where its simulation begins, if not with what its processes do at their start
  pub origin : Option Origin
  pub start_state : ℕ → List ℕ
  pub start_sends : ℕ → List Outgoing
  pub next_state : ℕ → List ℕ → Message → List ℕ
  pub sends : ℕ → List ℕ → Message → List Outgoing

-- the message that a handling by process lp at this time makes of one send
abbrev pub stamped : ℕ → ℕ → ℕ → Outgoing → Message
stamped lp time number o = record {
  time = time + o.delay;
  from = lp;
  number = number;
  to = o.to;
  a = o.a;
  b = o.b;
  c = o.c;
  d = o.d;
}

-- the messages that it makes of all its sends, numbered from number on
abbrev pub stamp : ℕ → ℕ → ℕ → List Outgoing → List Message
stamp lp time number [] = []
stamp lp time number (o ∷ os) = stamped lp time number o ∷ stamp lp time (number + 1) os

-- at most 16 words of 64 bits
abbrev pub IsWords : List ℕ → Type 0
IsWords words = (length words ≤ 16) × Every (λ word. word < 2 ^ 64) words

-- a message to an existing process, with all numbers in their ranges
pub record IsAddressed (lps : ℕ) (x : Message) : Type 0 where
  pub to : x.to < lps
  pub ranged : IsRanged x

-- each send goes to an existing process, at least one tick later, with all numbers in their ranges
pub record IsSend (lps : ℕ) (o : Outgoing) : Type 0 where
  pub delay : 1 ≤ o.delay
  pub delay_fits : o.delay < 2 ^ 32
  pub to : o.to < lps
  pub a : o.a < 2 ^ 64
  pub b : o.b < 2 ^ 64
  pub c : o.c < 2 ^ 64
  pub d : o.d < 2 ^ 64

-- the most processes that a model has
abbrev pub most_lps : ℕ
most_lps = 2 ^ 16

-- An origin of a simulation of `lps` processes: a state and a send number for each, and the pending
-- messages, a bag.
pub record IsOrigin (lps : ℕ) (o : Origin) : Type 0 where
  pub states : length o.states ≡ lps
  pub words : Every IsWords o.states
  pub numbers : length o.numbers ≡ lps
  pub limits : Every (λ (number : ℕ). number ≤ 2 ^ 63) o.numbers
  pub ascending : IsAscending o.pending
  pub addressed : Every (IsAddressed lps) o.pending

-- a simulation can begin so
abbrev pub CanBegin : ℕ → Option Origin → Type 0
CanBegin lps None = Unit {0}
CanBegin lps (Some o) = IsOrigin lps o

-- the laws of a model, for states and messages whose numbers are in their ranges
pub record IsLawful (m : Meaning) : Type 0 where
  pub some : 1 ≤ m.lps
  pub few_lps : m.lps ≤ most_lps
  pub identity_few : length m.identity ≤ 8
  pub identity_words : Every (λ (word : ℕ). word < 2 ^ 64) m.identity
  pub begins : CanBegin m.lps m.origin
  pub start_words : (lp : ℕ) → lp < m.lps → IsWords (m.start_state lp)
  pub start_few : (lp : ℕ) → lp < m.lps → length (m.start_sends lp) ≤ 8
  pub start : (lp : ℕ) → lp < m.lps → Every (IsSend m.lps) (m.start_sends lp)
  pub words : (lp : ℕ) (state : List ℕ) (x : Message) →
      lp < m.lps → IsWords state → IsRanged x → IsWords (m.next_state lp state x)
  pub few : (lp : ℕ) (state : List ℕ) (x : Message) →
      lp < m.lps → IsWords state → IsRanged x → length (m.sends lp state x) ≤ 8
  pub each : (lp : ℕ) (state : List ℕ) (x : Message) →
      lp < m.lps → IsWords state → IsRanged x → Every (IsSend m.lps) (m.sends lp state x)
