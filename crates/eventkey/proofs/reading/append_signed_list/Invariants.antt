use Rattle.std.proofs.Common.{◌≡◌, ◌++◌, take}
use Rattle.std.specs.List.{flat_map}
use Rattle.eventkey.specs.Encoding.{signed_bytes}
use Rattle.eventkey.proofs.reading.append_signed_list.Given as goal

abbrev pub invariant-loop-signed : goal.invariant-loop-signed
invariant-loop-signed l = l.out.items ≡ l.fn.out.items ++ flat_map signed_bytes (take l.signed-index l.list)
