use Rattle.std.proofs.Common.{◌≡◌, ◌++◌, ap, codes, is_some, ◌∙◌}
use Rattle.toml.specs.View.{table_view}
use Rattle.texts.specs.ModelFile.{words_wrong}
use Rattle.rule_files.specs.FileTable.{names_fit, twice_wrong}
use Rattle.rule_files.specs.RuleFile.{content_of}
use Rattle.rule_files.proofs.Right.{fit_is, on_ok, put6}
use Rattle.rule_files.proofs.described.look_at_names.Goals as goal

pub returns : goal.returns
returns c =
    let t = table_view c.args.table.now in
    let fit : c.fits_names-fit.result ≡ names_fit t
    = c.fits_names-fit.ensures ∙ fit_is _ _ _ _ _ _ _ _ _ _ _ _ c.in_ok-scope.ensures c.in_ok-words.ensures (c.in_ok-content.ensures ∙ ap (λ b. is_some (content_of b t)) c.has_sorts.ensures) c.in_ok-sorts.ensures c.in_ok-numbers.ensures c.in_ok-tables.ensures in
    let content = c.in_ok-content.ensures ∙ ap (λ b. is_some (content_of b t)) c.has_sorts.ensures in
    on_ok c.look_for_twice.result _ _ c.look_for_twice.ensures (λ last.
    put6 c.args.found.now c.look_at_list.new.found c.look_at_list-2.new.found c.look_at_list-3.new.found c.look_at_list-4.new.found c.look_at_list-5.new.found c.look_for_twice.new.found _ _ _ _ _ _
    (c.in_ok-look_at_list.ensures ∙ ap (λ r. c.args.found.now ++ words_wrong r (codes "state") (codes "a list of names and arrays, at most 16 words") t) c.in_ok-words.ensures)
    (c.in_ok-look_at_list-2.ensures ∙ ap (λ r. c.look_at_list.new.found ++ words_wrong r (codes "message") (codes "a list of at most 4 names") t) content)
    (c.in_ok-look_at_list-3.ensures ∙ ap (λ r. c.look_at_list-2.new.found ++ words_wrong r (codes "messages") (codes "at most 1024 names with lists of at most 3 names, each at one place") t) c.in_ok-sorts.ensures)
    (c.in_ok-look_at_list-4.ensures ∙ ap (λ r. c.look_at_list-3.new.found ++ words_wrong r (codes "numbers") (codes "at most 1024 names with numbers from 0 to 9223372036854775807") t) c.in_ok-numbers.ensures)
    (c.in_ok-look_at_list-5.ensures ∙ ap (λ r. c.look_at_list-4.new.found ++ words_wrong r (codes "tables") (codes "at most 1024 names with lists of one or more numbers, at most 1048576 in all") t) c.in_ok-tables.ensures)
    (last ∙ ap (λ r. c.look_at_list-5.new.found ++ twice_wrong r t) fit))
