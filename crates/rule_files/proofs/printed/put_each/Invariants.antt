use Rattle.std.proofs.Common.{◌≡◌, drop}
use Rattle.std.specs.Prelude.{string_bytes}
use Rattle.rule_files.specs.Printed.{with_each}
use Rattle.rule_files.proofs.printed.put_each.Given as goal

abbrev pub invariant-kinds : goal.invariant-kinds
invariant-kinds l = with_each (drop l.kind-index l.kinds) l.start l.handle (string_bytes l.text) ≡ with_each l.kinds l.initial.start l.initial.handle (string_bytes l.initial.text)
