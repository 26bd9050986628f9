use Rattle.std.proofs.Common.{◌≡◌, ◌++◌, ap, codes, is_some, ◌∙◌}
use Rattle.toml.specs.View.{table_view}
use Rattle.texts.specs.ModelFile.{words_wrong}
use Rattle.rule_files.specs.Kinds.{count_of, name_of}
use Rattle.rule_files.proofs.Right.{on_ok, put5, some-map}
use Rattle.rule_files.proofs.kind_mistakes.look_at_kind.Goals as goal

pub returns : goal.returns
returns c =
    let t = table_view c.args.table.now in
    let named : c.is_some.result ≡ is_some (name_of t) = c.is_some.ensures ∙ some-map _ c.name_of.result ∙ ap is_some c.name_of.ensures in
    let counted : c.is_some-2.result ≡ is_some (count_of t) = c.is_some-2.ensures ∙ ap is_some c.count_of.ensures.count in
    on_ok c.others.result _ _ c.others.ensures (λ last.
    put5 c.args.found.now c.words_at.new.self c.words_at-2.new.self c.look_at_list.new.found c.look_at_list-2.new.found c.others.new.self _ _ _ _ _
    (c.in_ok-words_at.ensures ∙ ap (λ r. c.args.found.now ++ words_wrong r (codes "name") (codes "a name") t) named)
    (c.in_ok-words_at-2.ensures ∙ ap (λ r. c.words_at.new.self ++ words_wrong r (codes "count") (codes "a whole number from 1 to 65536") t) counted)
    (c.in_ok-look_at_list.ensures ∙ ap (λ r. c.words_at-2.new.self ++ words_wrong r (codes "state") (codes "a list of names and arrays, at most 16 words") t) c.in_ok-words.ensures)
    (c.in_ok-look_at_list-2.ensures ∙ ap (λ r. c.look_at_list.new.found ++ words_wrong r (codes "message") (codes "a list of at most 4 names") t) c.in_ok-content.ensures)
    last)
