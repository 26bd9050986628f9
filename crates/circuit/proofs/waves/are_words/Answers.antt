use Rattle.std.proofs.Common.{sym}
use Rattle.circuit.specs.Wave.{is_word}
use Rattle.texts.proofs.Written.{passes_on}
use Rattle.circuit.proofs.waves.are_words.Goals as goal

pub loop-byte-preserved : goal.loop-byte-preserved
loop-byte-preserved c = passes_on is_word c.args.name.now c.loop-byte.byte-index 0 c.loop-byte-test.true (sym c.if-not-is_word.ensures) c.loop-byte.invariant
