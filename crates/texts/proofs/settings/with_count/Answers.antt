use Rattle.std.proofs.Common.{◌≡◌, ◌∷◌, ◌+◌, ◌∙◌, ap, codes, drop, false, map, rules, set, sym, true}
use Rattle.std.proofs.lemmas.List.{drop_more}
use Rattle.toml.specs.View.{items_of, items_view, view}
use Rattle.texts.specs.Settings.{IsTableReplaced, is_kind}
use Rattle.texts.proofs.Counting.{behind_more, in_copy, is_set}
use Rattle.texts.proofs.settings.with_count.Goals as goal

pub returns-then-is_kind-clause-ok : goal.returns-then-is_kind-clause-ok
returns-then-is_kind-clause-ok c =
    let kinds = c.args.kinds.now in
    let kind = c.index-kinds-place.result in
    let split : drop c.kinds.place kinds ≡ kind ∷ drop (c.kinds.place + 1) kinds =
    drop_more kinds c.kinds.place kind c.kinds-test.true ∙ ap (λ k. k ∷ drop (c.kinds.place + 1) kinds) (sym c.index-kinds-place.is) in
    let named : is_kind c.args.name.now (view kind) ≡ true = search rules in
    let replaced : IsTableReplaced (codes "count") c.args.text.now (view kind) (view c.in_ok-changed.changed) = search rules in
    in_copy c.args.name.now c.args.text.now (items_view kinds) (items_of (set (map view kinds) c.kinds.place (view c.in_ok-changed.changed)))
    c.with_item.result
    (is_set c.args.name.now c.args.text.now c.kinds.place kinds kind (view c.in_ok-changed.changed) split named replaced c.kinds.invariant.set)
    c.with_item.ensures.ok

pub kinds-preserved : goal.kinds-preserved
kinds-preserved c =
    let kinds = c.args.kinds.now in
    let kind = c.index-kinds-place.result in
    let split : drop c.kinds.place kinds ≡ kind ∷ drop (c.kinds.place + 1) kinds =
    drop_more kinds c.kinds.place kind c.kinds-test.true ∙ ap (λ k. k ∷ drop (c.kinds.place + 1) kinds) (sym c.index-kinds-place.is) in
    let other : is_kind c.args.name.now (view kind) ≡ false = search rules in
    record {
      count = search rules;
      set = behind_more c.args.name.now c.args.text.now c.kinds.place kinds kind split other c.kinds.invariant.set;
    }
