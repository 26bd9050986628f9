use Rattle.std.proofs.Common.{◌≡◌, drop, map}
use Rattle.rule_files.specs.Kinds.{widest}
use Rattle.rule_files.specs.KindViews.{rules_view}
use Rattle.rule_files.proofs.kind_rules.widest.Given as goal

abbrev pub invariant-kinds : goal.invariant-kinds
invariant-kinds l = widest l.most (map rules_view (drop l.kind-index l.kinds)) ≡ widest 0 (map rules_view l.kinds)
