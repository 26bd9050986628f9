use Rattle.std.proofs.Common.{◌≡◌, drop}
use Rattle.rule_files.specs.Kinds.{is_keyed}
use Rattle.rule_files.specs.KindViews.{kinds_view}
use Rattle.rule_files.proofs.kinds.is_keyed.Given as goal

abbrev pub invariant-kinds : goal.invariant-kinds
invariant-kinds l = is_keyed (kinds_view (drop l.kind-index l.kinds)) ≡ is_keyed (kinds_view l.kinds)
