-- Which other way to run a model would be faster, by what a run measured of itself.
use Rattle.std.specs.Prelude.{Bool, None, Option, Some, ℕ, ◌&&◌, ◌/◌, ◌==◌, if◌then◌else◌}
use Rattle.std.specs.Prelude.{nat_le, nat_lt}
use Rattle.terminal.specs.declared.hints.RunHint.{RunHint}
use Rattle.terminal.specs.declared.hints.RunHint.TheVariants as faster
use Rattle.terminal.specs.declared.hints.Way.{Way}
use Rattle.terminal.specs.declared.hints.Way.TheVariants as made
use Rattle.terminal.specs.declared.hints.Work.{Work}

-- A handling of this number of nanoseconds is dear, and the time is not that of the commits: one
-- has at least 1,024 events.
abbrev pub is_dear : ℕ → Work → Bool
is_dear each work = nat_le 10000 each && nat_le work.commits (work.handled / 1024)

-- Without nodes if there are nodes in one process; over node programs if handlings are dear and
-- there are several processors.
abbrev pub faster_than : Way → ℕ → Work → Option RunHint
faster_than made.OneProcess each work = Some (faster.Plain each)
faster_than (made.Plain processors) each work =
    if nat_lt 1 processors && is_dear each work then Some (faster.NodePrograms each processors)
    else None
faster_than made.Other each work = None

-- nothing is said of a run that has handled nothing
abbrev pub hint_of : Way → Work → Option RunHint
hint_of way work =
    if work.handled == 0 then None else faster_than way (work.nanoseconds / work.handled) work
