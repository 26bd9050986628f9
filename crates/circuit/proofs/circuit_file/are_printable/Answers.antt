use Rattle.std.proofs.Common.{sym}
use Rattle.circuit.specs.CircuitFile.{is_printable}
use Rattle.texts.proofs.Written.{passes_on}
use Rattle.circuit.proofs.circuit_file.are_printable.Goals as goal

pub loop-byte-preserved : goal.loop-byte-preserved
loop-byte-preserved c = passes_on is_printable c.args.text.now c.loop-byte.byte-index 0 c.loop-byte-test.true (sym c.if-not-is_printable.ensures) c.loop-byte.invariant
