-- The process that callers see, and what its calls return and change.
use Rattle.std.specs.List.{AllByRecursion as Every, list_any}
use Rattle.std.specs.Prelude.{not, nat_lt, ◌==◌, ℕ, Bool, false, true, List, [], ◌++◌, map, Some}
use Rattle.std.specs.Prelude.{length, ◌≡◌, ◌≢◌, ◌≤◌, ◌<◌, ◌^◌, ◌↔◌, ◌⊎◌, Err, IfErr, Result}
use Rattle.eventkey.specs.Bag.{add_all}
use Rattle.eventkey.specs.Message.{Message}
use Rattle.eventkey.specs.Signed.{plus}
use Rattle.eventkey.specs.declared.Signed.{Signed}
use Rattle.model.specs.Meaning.{Meaning}
use Rattle.queues.specs.Queue.{IsInOrder, first_before}
use Rattle.queues.specs.Record.{Record, messages}
use Rattle.process.specs.Process.{Process, arrive, cancelled_sends, fossils_of, handle}
use Rattle.process.specs.Process.{handling_of, has_room, number_after, queue_of, release}
use Rattle.process.specs.Process.{state_after}
use Rattle.process.specs.Consistent.{AreConsistent, IsFold, IsHistory}
use Rattle.process.specs.declared.Done.{Done}
use Rattle.process.specs.declared.ProcessFault.{ProcessFault}
use Rattle.process.specs.declared.ProcessFault.TheVariants.{BelowFloor, NoMemory, NotMine}
use Rattle.process.specs.declared.ProcessFault.TheVariants.{NumberLimit, Spent}

-- a process, its number, the floor below which it accepts nothing, and whether an allocation
-- failure or the number limit has poisoned it
pub record ProcessView : Type 0 where
  pub lp : ℕ
  pub floor : ℕ
  pub spent : Bool
  pub process : Process

-- the invariant of every process that is not spent
pub record IsSound (v : ProcessView) : Type 0 where
  pub in_order : IsInOrder (queue_of v.process)
  pub own_done : Every (λ (x : Message). x.to ≡ v.lp) (messages v.process.done)
  pub own_waiting : Every (λ (x : Message). x.to ≡ v.lp) v.process.waiting
  pub own_antis : Every (λ (x : Message). x.to ≡ v.lp) v.process.antis
  pub few : length v.process.state ≤ 16
  pub few_before : Every (λ (h : Record). length h.before ≤ 16) v.process.done
  pub number : v.process.number ≤ 2 ^ 63
  pub number_before : Every (λ (h : Record). h.number_before ≤ 2 ^ 63) v.process.done
  pub few_sent : Every (λ (h : Record). length h.sent ≤ 8) v.process.done

-- The handlings of the process are what the model does, from this state and send number to those
-- that it has now.
abbrev pub HasDone : Meaning → ProcessView → List ℕ → ℕ → Type 0
HasDone m v state number = IsFold m v.lp state number v.process.done v.process.state
    v.process.number

-- the ranges of a reported handling
pub record IsDoneInRange (d : Done) : Type 0 where
  pub after : length d.after ≤ 16
  pub number_after : d.number_after ≤ 2 ^ 63
  pub sent : length d.sent ≤ 8

-- the process in this state, with this send number, for which these messages wait
abbrev pub loaded : List ℕ → ℕ → List Message → Process
loaded state number pending = record {
  done = [];
  waiting = add_all pending [];
  antis = [];
  state = state;
  number = number;
}

-- The history of a process that has just been loaded is what the model does: it is empty.
abbrev pub HistoriesBegin : Type 0
HistoriesBegin = (m : Meaning) (lp : ℕ) (state : List ℕ) (number : ℕ) (pending : List Message) →
    IsHistory m lp (loaded state number pending)

-- one of these messages is for another process; the time of one is below the floor
abbrev pub has_foreign : ℕ → List Message → Bool
has_foreign lp xs = list_any (λ (x : Message). not (x.to == lp)) xs

abbrev pub has_early : ℕ → List Message → Bool
has_early floor xs = list_any (λ (x : Message). nat_lt x.time floor) xs

-- unless the process is spent, its handlings are what the model does
abbrev pub HasHistory : Meaning → ProcessView → Type 0
HasHistory m v = v.spent ≡ false → IsHistory m v.lp v.process

-- What stays at every exit of a call: the number of the process, and that its handlings are what
-- the model does.
pub record IsProcessKept (m : Meaning) (old new : ProcessView) : Type 0 where
  pub lp : new.lp ≡ old.lp
  pub history : HasHistory m old → HasHistory m new

-- A refused call only appends to its output, and either the process is spent or nothing changes
abbrev pub IsRefused : ProcessFault → ProcessView → ProcessView → List Signed → List Signed → Type 0
IsRefused NotMine old new before after = (new ≡ old) × (after ≡ before)
IsRefused BelowFloor old new before after = (new ≡ old) × (after ≡ before)
IsRefused NoMemory old new before after = (new.spent ≡ true) × (more : List Signed)
    × (after ≡ before ++ more)
IsRefused NumberLimit old new before after = (new.spent ≡ true) × (more : List Signed)
    × (after ≡ before ++ more)
IsRefused Spent old new before after = (new ≡ old) × (after ≡ before)

-- Deliveries

-- The message arrived, and the antimessages of the sends that it undoes were appended. The
-- handlings that are left are what the model does, if those before were.
pub record IsDelivered (s : Signed) (old new : ProcessView) (before after : List Signed) :
    Type 0 where
  pub process : new ≡ record old { process = arrive s old.process }
  pub out : after ≡ before ++ cancelled_sends s old.process
  pub done : (m : Meaning) (state : List ℕ) (number : ℕ) → HasDone m old state number →
      HasDone m new state number

-- Which fault a delivery returns: `Spent` for a process that is spent, else `NotMine` for a message
-- to another process, else `BelowFloor` for one below the floor, each exactly then; and never
-- `NumberLimit`.
pub record DeliveryHasCause (s : Signed) (v : ProcessView) (result : Result (Unit {0}) ProcessFault) :
    Type 0 where
  pub spent : (result ≡ Err Spent) ↔ (v.spent ≡ true)
  pub not_mine : (result ≡ Err NotMine) ↔ ((v.spent ≡ false) × (s.message.to ≢ v.lp))
  pub below_floor : (result ≡ Err BelowFloor) ↔ ((v.spent ≡ false) × (s.message.to ≡ v.lp)
      × (s.message.time < v.floor))
  pub unlimited : result ≢ Err NumberLimit

-- Handlings

-- The least waiting message below the end was handled, and its sends were appended. The handlings
-- are what the model does, if those before were.
pub record HasRun (m : Meaning) (end : ℕ) (old new : ProcessView) (before after : List Signed) :
    Type 0 where
  pub message : Message
  pub next : first_before end old.process.waiting ≡ Some message
  pub process : new ≡ record old { process = handle m old.lp message old.process }
  pub out : after ≡ before ++ map plus (handling_of m old.lp message old.process).sent
  pub done : (state : List ℕ) (number : ℕ) → HasDone m old state number →
      HasDone m new state number

-- the least waiting message below the end cannot be handled, since the send number would pass its
-- limit
pub record LacksRoom (m : Meaning) (end : ℕ) (q : Process) : Type 0 where
  pub message : Message
  pub next : first_before end q.waiting ≡ Some message
  pub room : has_room m message q ≡ false

-- Which fault a handling returns: `Spent` for a process that is spent, else `NumberLimit` if the
-- send number has no room, each exactly then; and never one of those of a delivery.
pub record RunHasCause (m : Meaning) (end : ℕ) (v : ProcessView) (result : Result Bool ProcessFault) :
    Type 0 where
  pub spent : (result ≡ Err Spent) ↔ (v.spent ≡ true)
  pub limit : (result ≡ Err NumberLimit) ↔ ((v.spent ≡ false) × LacksRoom m end v.process)
  pub mine : result ≢ Err NotMine
  pub from_floor : result ≢ Err BelowFloor

-- Fossil collections

-- The handlings below the floor were appended in order, each in its range, and the process no
-- longer has them. They and those that are left are what the model does, if those before were.
pub record IsCollected (floor : ℕ) (old new : ProcessView) (before after : List Done) : Type 0 where
  pub fossils : after ≡ before ++ fossils_of floor old.process
  pub process : new ≡ record old { floor = floor; process = release floor old.process }
  pub range : Every IsDoneInRange (fossils_of floor old.process)
  pub done : (m : Meaning) (state : List ℕ) (number : ℕ) → HasDone m old state number →
      AreConsistent m old.lp state number (fossils_of floor old.process)
      × HasDone m new (state_after (fossils_of floor old.process) state)
      (number_after (fossils_of floor old.process) number)

-- Which fault a collection returns: `Spent` exactly for a process that is spent, else only
-- `NoMemory`.
pub record CollectionHasCause {T : Type 0} (v : ProcessView) (result : Result T ProcessFault) :
    Type 0 where
  pub spent : (result ≡ Err Spent) ↔ (v.spent ≡ true)
  pub only : IfErr result (λ fault. (fault ≡ Spent) ⊎ (fault ≡ NoMemory))
