-- Records of handled messages, and lists of them: the state queue and the output queue of a process
-- in one (Jefferson 1985).
use Rattle.std.specs.List.{filter}
use Rattle.std.specs.Prelude.{ℕ, List, [], ◌∷◌, if◌then◌else◌, nat_le, nat_lt, flat_map, map}
use Rattle.std.specs.Prelude.{◌≡◌, Option, Some, None}
use Rattle.eventkey.specs.Bag.{IsAscending}
use Rattle.eventkey.specs.Message.{Message}

-- one handled message: what the process was before it, and what the handling sent
pub record Record : Type 0 where
  pub message : Message
  pub before : List ℕ  -- the state words
  pub number_before : ℕ
  pub sent : List Message  -- in the order of sending

-- the leading records before the time
abbrev pub handled_before : ℕ → List Record → List Record
handled_before c [] = []
handled_before c (h ∷ hs) = if nat_lt h.message.time c then h ∷ handled_before c hs else []

-- the records after these
abbrev pub handled_from : ℕ → List Record → List Record
handled_from c [] = []
handled_from c (h ∷ hs) = if nat_lt h.message.time c then handled_from c hs else h ∷ hs

-- the state before the first of these handlings, or the given state if there are none
abbrev pub state_before : List Record → List ℕ → List ℕ
state_before [] state = state
state_before (h ∷ hs) state = h.before

abbrev pub number_before : List Record → ℕ → ℕ
number_before [] number = number
number_before (h ∷ hs) number = h.number_before

-- the time of the first of these handlings, if there are any
abbrev pub first_handled : List Record → Option ℕ
first_handled [] = None
first_handled (h ∷ hs) = Some h.message.time

abbrev pub sent_in : List Record → List Message
sent_in hs = flat_map (λ (h : Record). h.sent) hs

abbrev pub messages : List Record → List Message
messages hs = map (λ (h : Record). h.message) hs

-- If the messages ascend, the leading records before a time are all records before it, and the
-- others are all records from it on.
abbrev pub RecordsPart : Type 0
RecordsPart = (c : ℕ) (hs : List Record) → IsAscending (messages hs) →
    (handled_before c hs ≡ filter (λ (h : Record). nat_lt h.message.time c) hs)
    × (handled_from c hs ≡ filter (λ (h : Record). nat_le c h.message.time) hs)
