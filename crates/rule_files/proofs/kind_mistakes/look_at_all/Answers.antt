use Rattle.std.proofs.Common.{◌≡◌, ◌++◌, ap, codes, is_some, ◌∙◌}
use Rattle.toml.specs.View.{table_view}
use Rattle.texts.specs.ModelFile.{words_wrong}
use Rattle.rule_files.specs.FileTable.{seed_of}
use Rattle.rule_files.specs.KindViews.{kinds_view}
use Rattle.rule_files.specs.Kinds.{is_keyed, key_place}
use Rattle.rule_files.proofs.Right.{on_ok, put2}
use Rattle.rule_files.proofs.kind_mistakes.look_at_all.Goals as goal

pub returns : goal.returns
returns c =
    let t = table_view c.args.table.now in
    let seed : c.is_some.result ≡ is_some (seed_of (key_place (is_keyed (kinds_view c.args.kinds.now))) t)
    = c.is_some.ensures ∙ ap is_some (c.seed_of-seed.ensures.seed ∙ ap (λ k. seed_of k t) (c.key_place.ensures ∙ ap key_place c.in_ok-keyed.ensures)) in
    on_ok c.look_at_rules.result _ _ c.look_at_rules.ensures (λ last.
    put2 c.args.found.now c.words_at.new.self c.look_at_rules.new.found _ _
    (c.in_ok-words_at.ensures
    ∙ ap (λ r. c.args.found.now ++ words_wrong r (codes "seed") (codes "a whole number from 0 to 9223372036854775807 if the state has key, otherwise nothing") t) seed)
    last)
