use Rattle.std.proofs.Common.{◌≡◌, ◌++◌, List, length, map}
use Rattle.rule_files.specs.Kinds.{IsByKind, KindRules}
use Rattle.rule_files.specs.KindViews.{rules_view}
use Rattle.rule_files.proofs.chosen.by_kind.Given as goal

abbrev pub decreases-kinds : goal.decreases-kinds
decreases-kinds l = length l.kinds.items

abbrev pub invariant-kinds : goal.invariant-kinds
invariant-kinds l = record {
  rest : List KindRules;
  all : map rules_view l.kinds.items ++ rest ≡ map rules_view l.initial.kinds.items;
  start : IsByKind (λ r. r.start) rest l.start.items;
  handle : IsByKind (λ r. r.handle) rest l.handle.items;
}
