use Rattle.std.proofs.Common.{◌≡◌, ap, arith, map, sym, ◌∙◌}
use Rattle.std.proofs.lemmas.List.{drop_all}
use Rattle.rule_files.specs.KindViews.{rules_view}
use Rattle.rule_files.specs.Kinds.{widest}
use Rattle.rule_files.proofs.KindLists.{widest_few}
use Rattle.rule_files.proofs.kind_rules.widest.Goals as goal

pub returns-clause-few : goal.returns-clause-few
returns-clause-few c = λ h.
    let value : c.kinds.most ≡ widest 0 (map rules_view c.args.kinds.now)
    = ap (λ ks. widest c.kinds.most (map rules_view ks)) (sym (drop_all c.kinds.kind-index c.args.kinds.now c.kinds-test.false)) ∙ c.kinds.invariant in
    let few = widest_few 0 (map rules_view c.args.kinds.now) (omega arith) h in
    omega (arith, value, few)
