-- When each process of a run sent those of its messages that are still on their way.
use Rattle.std.specs.BTreeMap.{get}
use Rattle.std.specs.Ordering.{nat_cmp}
use Rattle.std.specs.Prelude.{ℕ, ◌≡◌, ◌≤◌, ◌<◌, ◌-◌, ◌++◌, ◌⊎◌, List, [], get_or, length, unwrap_or}
use Rattle.eventkey.specs.Message.{Message}
use Rattle.pictures.specs.Run.{Run, sending_times}
use Rattle.pictures.specs.declared.senders.Sender.{Sender}

-- how many messages a sender sent before those whose times it has in order
abbrev pub base_of : Sender → ℕ
base_of s = s.sent - length s.times.items

-- the sender of messages 0, 1, .. at these times has the last of them
pub record IsSender (times : List ℕ) (s : Sender) : Type 0 where
  pub before : List ℕ
  pub all : times ≡ before ++ s.times.items
  pub sent : s.sent ≡ length times

-- it has the time of its message of this number, or will have it
abbrev pub IsFound : List ℕ → Sender → ℕ → Type 0
IsFound times s number = (base_of s ≤ number) ⊎ ((number < length times)
    × (unwrap_or (get nat_cmp s.earlier number) 0 ≡ get_or times number 0))

-- the senders of a run, one for each process
pub record AreSenders (r : Run) (senders : List Sender) : Type 0 where
  pub long : length senders ≡ length r.first
  pub each : (lp : ℕ) (d : Sender) → lp < length r.first →
      IsSender (sending_times r lp) (get_or senders lp d)
  pub others : (lp : ℕ) → length r.first ≤ lp → sending_times r lp ≡ []

-- they have the time at which a message was sent
abbrev pub HaveTime : Run → List Sender → Message → Type 0
HaveTime r senders x = (d : Sender) → x.from < length senders →
    IsFound (sending_times r x.from) (get_or senders x.from d) x.number

-- the senders of a run after further events have the times that those of a run had
pub record HaveTimes (r next : Run) (old new : List Sender) : Type 0 where
  pub senders : AreSenders next new
  pub found : (x : Message) → HaveTime r old x → HaveTime next new x
