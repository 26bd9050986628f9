use Rattle.std.proofs.Common.{◌≡◌, ◌++◌, Some, [], ◌∷◌, true, ap, drop, map, subst, sym, ◌+◌, ◌∙◌}
use Rattle.std.proofs.lemmas.List.{drop_all, map-append}
use Rattle.eventkey.proofs.Lists.{drop_here}
use Rattle.toml.specs.View.{table_view}
use Rattle.rule_files.specs.KindViews.{kinds_view, pair_view, rules_view}
use Rattle.rule_files.specs.Kinds.{AreWithin, IsKind, kind_fits, setting}
use Rattle.rule_files.specs.RuleFile.{parts_in, parts_view}
use Rattle.rule_files.proofs.KindLists.{are_all, are_more, fit, within_more}
use Rattle.rule_files.proofs.KindsRight.{kind_right}
use Rattle.rule_files.proofs.kind_rules.read_kinds.Goals as goal

pub kinds-preserved : goal.kinds-preserved
kinds-preserved c =
    let file = table_view c.args.file.now in
    let all = kinds_view c.args.kinds.now in
    let k = pair_view c.kind-item.result in
    let r = rules_view c.in-Ok-2.read in
    let i = c.kinds.kind-index in
    let was = map rules_view c.kinds.all.items in
    let split : kinds_view (drop i c.args.kinds.now) ≡ k ∷ kinds_view (drop (i + 1) c.args.kinds.now)
    = ap kinds_view (drop_here c.args.kinds.now i c.kind-item.result c.kinds-test.true c.kind-item.is) in
    let parts : parts_in (setting all k.0) file k.1 ≡ Some (parts_view c.in-Ok.scope) = rw c.in-Ok.is at c.in_ok-scope.ensures.ok in
    let read : IsKind file all k r = (rw c.in-Ok-2.is at c.in_ok-read.ensures.ok) file all parts in
    let within = rw c.in-Ok-2.is at c.in_ok-read.ensures.within in
    let added : map rules_view c.push.new.self.items ≡ was ++ r ∷ [] = ap (map rules_view) c.in_ok-push-in-Ok-2.ensures.items ∙ map-append rules_view c.kinds.all.items _ in
    let there : kind_fits file all k ≡ true = kind_right file all k r read within.0 within.1 in
    record {
      are = are_more file all all (kinds_view (drop i c.args.kinds.now)) (kinds_view (drop (i + 1) c.args.kinds.now)) k was (map rules_view c.push.new.self.items) r split added read c.kinds.invariant.are;
      within = subst AreWithin (sym added) (within_more was r c.kinds.invariant.within within.0 within.1 within.2);
      rest = sym (fit file all (kinds_view (drop i c.args.kinds.now)) (kinds_view (drop (i + 1) c.args.kinds.now)) k split there) ∙ c.kinds.invariant.rest;
    }

pub returns-clause-ok : goal.returns-clause-ok
returns-clause-ok c =
    let file = table_view c.args.file.now in
    let all = kinds_view c.args.kinds.now in
    let none : kinds_view (drop c.kinds.kind-index c.args.kinds.now) ≡ [] = ap kinds_view (drop_all c.kinds.kind-index c.args.kinds.now c.kinds-test.false) in
    are_all file all all (kinds_view (drop c.kinds.kind-index c.args.kinds.now)) (map rules_view c.kinds.all.items) none c.kinds.invariant.are
