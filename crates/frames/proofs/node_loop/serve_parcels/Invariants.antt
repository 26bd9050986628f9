use Rattle.std.proofs.Common.{◌≡◌, false}
use Rattle.frames.specs.Streams.{OnBytes}
use Rattle.frames.proofs.Turns.{SoFar}
use Rattle.frames.proofs.node_loop.serve_parcels.Given as goal

abbrev pub invariant-loop-count : goal.invariant-loop-count
invariant-loop-count g l =
    OnBytes (g.R.Read.remaining l.initial.reader) (g.R.Read.remaining l.reader)
    (SoFar (g.M.Model.meaning l.model) l.count l.initial.node l.node (g.W.Write.contents l.initial.writer) (g.W.Write.contents l.writer))
    × (l.node.spent ≡ false → (g.M.Model.meaning l.model).lps ≡ l.node.lps)
