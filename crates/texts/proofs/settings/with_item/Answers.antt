use Rattle.std.proofs.Common.{◌≡◌, ap, map, rules, set, ◌∙◌}
use Rattle.std.proofs.lemmas.List.{map-set}
use Rattle.toml.specs.View.{items_of, view}
use Rattle.texts.proofs.settings.with_item.Goals as goal

pub returns-clause-ok : goal.returns-clause-ok
returns-clause-ok c =
    let same : map view c.in_ok-all.all.items ≡ map view c.args.values.now = search rules in
    ap items_of (map-set view c.in_ok-all.all.items c.args.place c.args.new ∙ ap (λ vs. set vs c.args.place (view c.args.new)) same)
