-- The pass over the gathered reports that a judged commit makes: what is known of a process, and
-- which report comes next.
use Rattle.std.specs.List.{AllByRecursion as Every}
use Rattle.std.specs.Prelude.{List, None, Option, Some, [], get_or, if◌then◌else◌, length, nat_lt}
use Rattle.std.specs.Prelude.{set, true, ℕ, ◌+◌, ◌<◌, ◌^◌, ◌≡◌, ◌≤◌, ◌∷◌}
use Rattle.std.specs.Borrow.{Bor}
use Rattle.eventkey.specs.Bag.{IsAscending}
use Rattle.eventkey.specs.Message.{IsAtMost, Message}
use Rattle.model.specs.Meaning.{Meaning, stamp}
use Rattle.model.specs.declared.Outgoing.{Outgoing}
use Rattle.model.specs.World.{World, number_of, state_of}
use Rattle.process.specs.declared.Done.{Done}
use Rattle.coordinator.specs.declared.session.FrontView.{FrontView}
use Rattle.process.specs.Consistent.{AreConsistent}
use Rattle.gvt.specs.Moves.{reported_before}
use Rattle.gvt.specs.System.{reported_by, reported_messages}

-- the front that a view shows
abbrev pub shown : FrontView → World
shown view = record {
  time = view.time;
  states = view.states.now;
  numbers = view.numbers.now;
  pending = view.pending.now;
  log = view.log.now;
}

-- the message of a report, if there is one
abbrev pub last_of : Option (Bor Done) → List Message
last_of None = []
last_of (Some d) = d.now.message ∷ []

-- what is known of a process: its state, its send number and its last message after its latest
-- report, or those of the front, which has no last message
pub record Standing : Type 0 where
  pub state : List ℕ
  pub number : ℕ
  pub last : List Message

abbrev pub standing : World → Option (Bor Done) → ℕ → Standing
standing w None lp = record { state = state_of w lp; number = number_of w lp; last = last_of None }
standing w (Some d) lp = record {
  state = d.now.after;
  number = d.now.number_after;
  last = last_of (Some d);
}

-- A report is what the model does next in this standing, not before its last message and not before
-- this time.
pub record IsNext (m : Meaning) (time : ℕ) (s : Standing) (d : Done) : Type 0 where
  pub consistent : AreConsistent m d.message.to s.state s.number (d ∷ [])
  pub ascending : Every (λ (x : Message). IsAtMost x d.message) s.last
  pub from : time ≤ d.message.time

-- the reports before c follow the front: the conditions of `AreOfFront` on each process
pub record Follow (m : Meaning) (c : ℕ) (ds : List Done) (w : World) : Type 0 where
  pub consistent : (lp : ℕ) → lp < m.lps →
      AreConsistent m lp (state_of w lp) (number_of w lp) (reported_by lp (reported_before c ds))
  pub ascending : (lp : ℕ) → lp < m.lps →
      IsAscending (reported_messages (reported_by lp (reported_before c ds)))
  pub from : Every (λ (d : Done). w.time ≤ d.message.time) (reported_before c ds)

-- this state has at most 16 words, and the report is the next one
abbrev pub IsNextInWords : Meaning → ℕ → Standing → Done → Type 0
IsNextInWords m time s d = (length s.state ≤ 16) × IsNext m time s d

-- a report says what a handling does that leaves this state and makes these sends, numbered from
-- this number on
abbrev pub Reports : List ℕ → List Outgoing → ℕ → Done → Type 0
Reports next sends number d =
    (d.sent ≡ stamp d.message.to d.message.time number sends) × (d.after ≡ next)
    × (d.number_after ≡ number + length sends) × (d.number_after ≤ 2 ^ 63)

-- a report before the time c is accepted if it is the next one of its process, where `latest` has
-- the latest report of each; any other is accepted
abbrev pub IsAccepted : Meaning → ℕ → World → List (Option (Bor Done)) → Done → Type 0
IsAccepted m c w latest d = nat_lt d.message.time c ≡ true →
    IsNextInWords m w.time (standing w (get_or latest d.message.to None) d.message.to) d

-- the latest report of each process after this one is accepted
abbrev pub after_report : ℕ → Bor Done → List (Option (Bor Done)) → List (Option (Bor Done))
after_report c b latest =
    if nat_lt b.now.message.time c then set latest b.now.message.to (Some b) else latest
