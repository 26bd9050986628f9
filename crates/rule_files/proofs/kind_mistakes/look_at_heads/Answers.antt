use Rattle.std.proofs.Common.{◌++◌, ap, codes, ◌∙◌}
use Rattle.toml.specs.View.{table_view}
use Rattle.texts.specs.ModelFile.{words_wrong}
use Rattle.rule_files.proofs.Right.{on_ok, put6}
use Rattle.rule_files.proofs.kind_mistakes.look_at_heads.Goals as goal

pub returns : goal.returns
returns c =
    let t = table_view c.args.table.now in
    on_ok c.others.result _ _ c.others.ensures (λ last.
    put6 c.args.found.now c.number_at.new.self c.look_at_list.new.found c.look_at_list-2.new.found c.look_at_list-3.new.found c.look_at_tables.new.found c.others.new.self _ _ _ _ _ _
    c.in_ok-number_at.ensures.reported
    (c.in_ok-look_at_list.ensures ∙ ap (λ r. c.number_at.new.self ++ words_wrong r (codes "messages") (codes "at most 1024 names with lists of at most 3 names, each at one place") t) c.in_ok-sorts.ensures)
    (c.in_ok-look_at_list-2.ensures ∙ ap (λ r. c.look_at_list.new.found ++ words_wrong r (codes "numbers") (codes "at most 1024 names with numbers from 0 to 9223372036854775807") t) c.in_ok-numbers.ensures)
    (c.in_ok-look_at_list-3.ensures ∙ ap (λ r. c.look_at_list-2.new.found ++ words_wrong r (codes "tables") (codes "at most 1024 names with lists of one or more numbers, at most 1048576 in all") t) c.in_ok-tables.ensures)
    c.in_ok-look_at_tables.ensures
    last)
