-- The text of an inspection: one fact per line, numbers in decimal.
use Rattle.std.specs.Prelude.{ℕ, ◌+◌, ◌-◌, ◌*◌, ◌/◌, ◌^◌, ◌==◌, ◌||◌, nat_le, min, if◌then◌else◌}
use Rattle.std.specs.Prelude.{List, [], ◌∷◌, ◌++◌, codes, decimal, Option, Some, None}
use Rattle.upkeep.specs.declared.inspection.inspecting.Inspection.{Inspection}
use Rattle.disk.specs.Disk.{sector_bytes}

-- 1. Numbers

-- the maximum that is written
abbrev pub most : ℕ
most = 2 ^ 64 - 1

-- the percentage of the end that is reached, rounded down; 0 if the end is 0
abbrev pub percent : ℕ → ℕ → ℕ
percent time end = if end == 0 then 0 else min (time * 100 / end) most

-- the bytes of these sectors per event, rounded up; there is at least one event
abbrev pub bytes_each : ℕ → ℕ → ℕ
bytes_each sectors events = min ((sectors * sector_bytes + (events - 1)) / events) most

-- The time at which the free sectors are used up at the rate of the last commits. A disk with more
-- sectors in use than it has counts as full.
abbrev pub full_at : Inspection → ℕ
full_at i = i.time + (i.sectors - i.used) * (i.time - i.pace.from) / i.pace.sectors

-- 2. Lines

-- each number after its text, and then the end of the line
abbrev pub line : List (List ℕ × ℕ) → List ℕ → List ℕ
line [] last = last
line (fact ∷ rest) last = fact.0 ++ decimal fact.1 ++ line rest last

abbrev pub time_text : Inspection → List ℕ
time_text i =
    line ((codes "virtual time ", i.time) ∷ (codes " of ", i.end)
    ∷ (codes " ticks, ", percent i.time i.end) ∷ []) (codes " percent\n")

abbrev pub events_text : Inspection → List ℕ
events_text i =
    if i.events == 0 then line ((codes "events ", i.events) ∷ [])
    (codes ", - bytes of disk an event\n")
    else line ((codes "events ", i.events) ∷ (codes ", ", bytes_each i.used i.events) ∷ [])
    (codes " bytes of disk an event\n")

-- with the time of the last checkpoint, if there is one
abbrev pub checkpoints_text : Option ℕ → ℕ → ℕ → ℕ → List ℕ
checkpoints_text None records checkpoints ends =
    line ((codes "records ", records) ∷ (codes ", of them ", checkpoints)
    ∷ (codes " checkpoints and ", ends) ∷ []) (codes " ends\n")
checkpoints_text (Some time) records checkpoints ends =
    line ((codes "records ", records) ∷ (codes ", of them ", checkpoints)
    ∷ (codes " checkpoints (the last at ", time) ∷ (codes " ticks) and ", ends) ∷ [])
    (codes " ends\n")

abbrev pub kinds_text : Inspection → List ℕ
kinds_text i = checkpoints_text i.last_checkpoint i.records i.checkpoints i.ends

-- left out if there is no seal
abbrev pub seals_text : Inspection → List ℕ
seals_text i =
    if i.seals == 0 then []
    else line ((codes "seals ", i.seals) ∷ []) (codes ", compared with the records before them\n")

abbrev pub records_text : Inspection → List ℕ
records_text i = kinds_text i ++ seals_text i

abbrev pub sectors_text : Inspection → List ℕ
sectors_text i =
    line ((codes "sectors ", i.used) ∷ (codes " used of ", i.sectors)
    ∷ (codes ", ", i.sectors - i.used) ∷ []) (codes " free\n")

-- left out if there is no commit
abbrev pub pace_text : Inspection → List ℕ
pace_text i =
    if i.pace.commits == 0 then []
    else if i.pace.sectors == 0 || nat_le i.end (full_at i)
    then line ((codes "room to the end at the pace of the last ", i.pace.commits) ∷ [])
    (codes " commits\n")
    else line ((codes "full at about ", full_at i)
    ∷ (codes " ticks at the pace of the last ", i.pace.commits) ∷ []) (codes " commits\n")

-- left out if the run is at its end
abbrev pub rest_text : Inspection → List ℕ
rest_text i = if nat_le i.end i.time then [] else pace_text i

-- 3. The whole text

abbrev pub inspection_text : Inspection → List ℕ
inspection_text i =
    time_text i ++ events_text i ++ records_text i ++ sectors_text i ++ rest_text i
