use Rattle.std.proofs.Common.{◌≡◌, ◌++◌, drop}
use Rattle.pictures.specs.Drawing.{sendings}
use Rattle.pictures.proofs.diagrams.sendings_in.Given as goal

abbrev pub invariant-loop-message : goal.invariant-loop-message
invariant-loop-message l = l.sendings.items ++ sendings l.trace (drop l.message-index l.messages) ≡ sendings l.trace l.messages
