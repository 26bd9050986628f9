use Rattle.std.proofs.Common.{◌≡◌, ◌++◌, [], ◌∷◌, ap, append_assoc, map, refl, sym, ◌∙◌}
use Rattle.std.proofs.lemmas.List.{map-append}
use Rattle.rule_files.specs.KindViews.{rules_view}
use Rattle.rule_files.proofs.chosen.by_kind.Goals as goal

pub kinds-preserved : goal.kinds-preserved
kinds-preserved c =
    let r = rules_view c.in-Some.kind in
    let left = map rules_view c.pop.new.self.items in
    let split : map rules_view c.kinds.kinds.items ≡ left ++ r ∷ [] = ap (map rules_view) c.in-Some.ensures.items ∙ map-append rules_view c.pop.new.self.items _ in
    let (x, x_is, x_below) = c.in_ok-start.ensures in
    let (y, y_is, y_below) = c.in_ok-handle.ensures in
    record {
      rest = r ∷ c.kinds.invariant.rest;
      all = sym (append_assoc left (r ∷ []) c.kinds.invariant.rest) ∙ ap (λ l. l ++ c.kinds.invariant.rest) (sym split) ∙ c.kinds.invariant.all;
      start = (x, c.in-Some.kind.start, c.kinds.start, x_is, x_below, refl, c.kinds.invariant.start);
      handle = (y, c.in-Some.kind.handle, c.kinds.handle, y_is, y_below, refl, c.kinds.invariant.handle);
    }
