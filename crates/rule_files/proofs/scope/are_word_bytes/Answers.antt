use Rattle.std.proofs.Common.{sym}
use Rattle.rule_files.specs.Names.{is_word_byte}
use Rattle.texts.proofs.Written.{passes_on}
use Rattle.rule_files.proofs.scope.are_word_bytes.Goals as goal

pub loop-byte-preserved : goal.loop-byte-preserved
loop-byte-preserved c = passes_on is_word_byte c.args.text.now c.loop-byte.byte-index 0 c.loop-byte-test.true (sym c.if-not-is_word_byte.ensures) c.loop-byte.invariant
