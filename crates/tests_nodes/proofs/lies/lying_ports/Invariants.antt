use Rattle.std.proofs.Common.{◌≡◌, false, map}
use Rattle.std.specs.Prelude.{replicate}
use Rattle.frames.specs.Judged.{judged_state}
use Rattle.loopback.specs.Loop.{state_of}
use Rattle.loopback.specs.declared.port.Held.TheVariants.{Fresh}
use Rattle.tests_nodes.proofs.lies.lying_ports.Given as goal

abbrev pub invariant-ports : goal.invariant-ports
invariant-ports g l = map (λ p. judged_state false (state_of (g.M.Model.meaning p.port.model) p.port.held)) l.ports.items
    ≡ replicate l.counter (judged_state false (state_of (g.M.Model.meaning l.model) Fresh))
