use Rattle.std.proofs.Common.{◌≡◌, map}
use Rattle.std.specs.Prelude.{replicate}
use Rattle.wire.specs.Local.{state_of}
use Rattle.wire.specs.declared.local.Held.TheVariants.{Fresh}
use Rattle.runs.proofs.local.local_ports.Given as goal

abbrev pub invariant-ports : goal.invariant-ports
invariant-ports g l = map (λ p. state_of (g.M.Model.meaning p.model) p.held) l.ports.items ≡ replicate l.counter (state_of (g.M.Model.meaning l.model) Fresh)
