use Rattle.std.proofs.Common.{◌≡◌, drop}
use Rattle.std.specs.List.{list_any}
use Rattle.views.specs.Tables.{is_special}
use Rattle.views.proofs.cells.is_special.Given as goal

abbrev pub invariant-loop-byte : goal.invariant-loop-byte
invariant-loop-byte l = list_any is_special (drop l.byte-index l.text) ≡ list_any is_special l.text
