use Rattle.std.proofs.Common.{drop}
use Rattle.eventkey.proofs.Writers.{HasWritten}
use Rattle.pictures.specs.Filled.{filled}
use denote.Shadow.{shadow}
use denote.Text.{Utf8}
use Rattle.pictures.proofs.filled.write_filled.Given as goal

abbrev pub invariant-loop-number : goal.invariant-loop-number
invariant-loop-number g l = record {
  text : shadow (Utf8 l.rest);
  written : HasWritten (g.W.Write.contents l.initial.out) (g.W.Write.contents l.out) (filled l.text l.numbers) (filled l.rest (drop l.number-index l.numbers));
}
