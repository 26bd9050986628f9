use Rattle.std.proofs.Common.{◌≡◌, ◌≤◌, ◌-◌, length}
use Rattle.std.specs.Io.KnownBytes.{Consumes}
use Rattle.frames.proofs.stream.read_bytes.Given as goal

abbrev pub invariant-loop-body : goal.invariant-loop-body
invariant-loop-body g l =
    (length l.body.items ≤ l.count) × Consumes (g.R.Read.remaining l.initial.reader) (g.R.Read.remaining l.reader) l.body.items

abbrev pub decreases-loop-body : goal.decreases-loop-body
decreases-loop-body g l = l.count - length l.body.items
