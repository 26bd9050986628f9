use Rattle.std.proofs.Common.{length, subst, sym, ◌≡◌}
use Rattle.circuit.specs.Circuit.{circuit_meaning, netlist_of}
use Rattle.circuit.specs.CircuitLaws.{circuit_lawful}
use Rattle.model.proofs.Worlds.{opening_IsWorld}
use Rattle.circuit_program.proofs.waves.whole_world.Goals as goal

pub run_to-requires : goal.run_to-requires
run_to-requires c =
    let n = netlist_of c.args.of.now.model.gates.items c.args.of.now.model.wires.items c.args.of.now.model.digest in
    subst (λ s. length s.world.states ≡ (circuit_meaning n).lps) (sym c.in_ok-world.ensures.ok)
    (opening_IsWorld (circuit_meaning n) (circuit_lawful n c.args.of.now.model.good)).states
