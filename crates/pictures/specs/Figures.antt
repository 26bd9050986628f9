-- Figures of a run.
use Rattle.std.specs.List.{filter}
use Rattle.std.specs.List.Sorted.{IsPermutation, IsSorted}
use Rattle.std.specs.Ordering.{nat_cmp}
use Rattle.std.specs.Prelude.{ℕ, zero, suc, ◌≡◌, ◌==◌, ◌-◌, ◌*◌, ◌/◌, ◌%◌, List, [], ◌∷◌, ◌++◌}
use Rattle.std.specs.Prelude.{if◌then◌else◌, get_or, length, map, max, nat_lt, take}
use Rattle.eventkey.specs.Message.{Message}
use Rattle.model.specs.World.{below}
use Rattle.pictures.specs.Run.{Run, sending_times, sent_at}
use Rattle.pictures.specs.declared.counted.Busy.{Busy}
use Rattle.pictures.specs.declared.counted.Figures.{Figures}
use Rattle.pictures.specs.declared.counted.Spread.{Spread}

-- how many events a process handled
abbrev pub handled_by : Run → ℕ → ℕ
handled_by r lp = length (filter (λ (x : Message). x.to == lp) r.events)

-- how many messages a process sent
abbrev pub sent_by : Run → ℕ → ℕ
sent_by r lp = length (sending_times r lp)

-- the ticks from the sending of a message to its receiving
abbrev pub delay_of : Run → Message → ℕ
delay_of r x = x.time - sent_at r x

-- the least, the lower median and the greatest of these numbers; 0 if there are none
pub record IsSpread (numbers : List ℕ) (s : Spread) : Type 0 where
  pub sorted : List ℕ
  pub ascending : IsSorted nat_cmp sorted
  pub same : IsPermutation numbers sorted
  pub least : s.least ≡ get_or sorted 0 0
  pub median : s.median ≡ get_or sorted ((length sorted - 1) / 2) 0
  pub most : s.most ≡ get_or sorted (length sorted - 1) 0

-- the work of a process
abbrev pub busy_of : Run → ℕ → Busy
busy_of r lp = record { process = lp; events = handled_by r lp; sends = sent_by r lp }

-- inserts a process after all that handled as many events or more
abbrev pub insert_busy : Busy → List Busy → List Busy
insert_busy b [] = b ∷ []
insert_busy b (first ∷ others) =
    if nat_lt first.events b.events then b ∷ first ∷ others
    else first ∷ insert_busy b others

-- the processes below n, the busiest first; those with the same number of events are in the order of
-- their numbers
abbrev pub ranked : Run → ℕ → List Busy
ranked r zero = []
ranked r (suc n) = insert_busy (busy_of r n) (ranked r n)

-- the figures of a run
pub record AreFigures (r : Run) (f : Figures) : Type 0 where
  pub time : f.time ≡ r.time
  pub processes : f.processes ≡ length r.first
  pub events : f.events ≡ length r.events
  pub pending : f.pending ≡ length r.pending
  -- per process: events handled, messages sent
  pub handled : IsSpread (map (handled_by r) (below (length r.first))) f.handled
  pub sent : IsSpread (map (sent_by r) (below (length r.first))) f.sent
  -- per message, handled or pending: ticks from sending to receiving
  pub delay : IsSpread (map (delay_of r) (r.events ++ r.pending)) f.delay
  -- events per tick, rounded down
  pub whole : f.rate.whole ≡ length r.events / max 1 r.time
  pub thousandths : f.rate.thousandths
      ≡ 1000 * (length r.events % max 1 r.time) / max 1 r.time
  pub busiest : f.busiest ≡ take 10 (ranked r (length r.first))
