use Rattle.std.proofs.Common.{◌≡◌, ◌+◌, suc, arith, map}
use Rattle.std.specs.Prelude.{string_bytes}
use Rattle.circuit.specs.Wave.{declared_gate, declared_gates}
use Rattle.circuit.proofs.Texts.{more}
use Rattle.circuit.proofs.waves.put_declarations.Goals as goal

pub loop-lp-preserved : goal.loop-lp-preserved
loop-lp-preserved c =
    let names = map string_bytes c.args.circuit.now.names.items in
    let lp = c.loop-lp.lp in
    let one : lp + 1 ≡ suc lp = omega arith in
    rw one (more (string_bytes c.args.text.now) (declared_gates names lp) (declared_gate names lp) c.loop-lp.invariant (rw c.names.ensures at c.in_ok-put_declaration.ensures))
