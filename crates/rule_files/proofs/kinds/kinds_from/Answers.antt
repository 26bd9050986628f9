use Rattle.std.proofs.Common.{◌≡◌, ◌++◌, Some, [], ◌∷◌, ap, arith, drop, map, refl, sym, ◌+◌, ◌∙◌}
use Rattle.std.proofs.lemmas.List.{map-append}
use Rattle.eventkey.proofs.Lists.{drop_here}
use Rattle.toml.specs.View.{table_view}
use Rattle.rule_files.specs.KindViews.{kinds_view, pair_view}
use Rattle.rule_files.specs.Kinds.{kind_in, processes_from}
use Rattle.rule_files.specs.RuleFile.{kind_view}
use Rattle.rule_files.proofs.KindLists.{kind_more, processes-more}
use Rattle.rule_files.proofs.kinds.kinds_from.Goals as goal

pub tables-preserved : goal.tables-preserved
tables-preserved c =
    let i = c.tables.table-index in
    let t = table_view c.table-item.result.now in
    let k = kind_view c.in-Some.head in
    let was = kinds_view c.tables.all.items in
    let within = rw c.in-Some.is at c.in_ok-head.ensures.within in
    let is : kind_in c.tables.lps t ≡ Some k = sym (rw c.in-Some.is at c.in_ok-head.ensures.kind) in
    let split : map (λ x. table_view x.now) (drop i c.args.tables.now) ≡ t ∷ map (λ x. table_view x.now) (drop (i + 1) c.args.tables.now)
    = ap (map (λ x. table_view x.now)) (drop_here c.args.tables.now i c.table-item.result c.tables-test.true c.table-item.is) in
    let added : kinds_view c.push.new.self.items ≡ was ++ (k, t) ∷ [] = ap kinds_view c.in_ok-push.ensures.items ∙ map-append pair_view c.tables.all.items _ in
    record {
      rest = kind_more c.tables.lps _ _ t split was _ c.tables.invariant.rest k (kinds_view c.push.new.self.items) _ is added refl;
      lps = ap (λ n. n + k.count) c.tables.invariant.lps ∙ sym (processes-more 0 was (k, t)) ∙ ap (processes_from 0) (sym added);
      few = within.1;
      some = omega (arith, c.tables.invariant.some, within.0);
    }
