use Rattle.std.proofs.Common.{◌≡◌, ◌++◌, ap, codes, is_some, map, string_bytes, ◌∙◌}
use Rattle.toml.specs.View.{table_view}
use Rattle.texts.specs.ModelFile.{words_wrong}
use Rattle.rule_files.specs.Arrays.{key_from}
use Rattle.rule_files.specs.FileTable.{key_of, seed_of}
use Rattle.rule_files.specs.RuleFile.{parts_view}
use Rattle.rule_files.proofs.Right.{both_none, both_some, on_ok}
use Rattle.rule_files.proofs.described.look_at_both.Goals as goal

pub returns-in_ok-look_at_rule-in-Some : goal.returns-in_ok-look_at_rule-in-Some
returns-in_ok-look_at_rule-in-Some c =
    let t = table_view c.args.table.now in
    let p = parts_view c.args.scope.now in
    let seed : c.is_some.result ≡ is_some (seed_of (key_of p) t)
    = c.is_some.ensures ∙ ap is_some (c.seed_of-seed.ensures.seed ∙ ap (λ k. seed_of k t) (c.key_of.ensures ∙ ap (λ ws. key_from 0 (map string_bytes ws)) c.as_slice.ensures.value)) in
    let first = c.in_ok-words_at.ensures
    ∙ ap (λ r. c.args.found.now ++ words_wrong r (codes "seed") (codes "a whole number from 0 to 9223372036854775807 if the state has key, otherwise nothing") t) seed in
    on_ok c.look_at_rule-in-Some.result _ _ c.look_at_rule-in-Some.ensures
    (both_some t p c.args.found.now c.words_at.new.self c.words_at-in-Some.new.self first (table_view c.in-Some.rules.now) c.in-Some.ensures
    c.look_at_rule.new.found c.look_at_rule-in-Some.new.found c.in_ok-words_at-in-Some.ensures c.in_ok-look_at_rule-in-Some.ensures)

pub returns-in-None : goal.returns-in-None
returns-in-None c =
    let t = table_view c.args.table.now in
    let p = parts_view c.args.scope.now in
    let seed : c.is_some.result ≡ is_some (seed_of (key_of p) t)
    = c.is_some.ensures ∙ ap is_some (c.seed_of-seed.ensures.seed ∙ ap (λ k. seed_of k t) (c.key_of.ensures ∙ ap (λ ws. key_from 0 (map string_bytes ws)) c.as_slice.ensures.value)) in
    let first = c.in_ok-words_at.ensures
    ∙ ap (λ r. c.args.found.now ++ words_wrong r (codes "seed") (codes "a whole number from 0 to 9223372036854775807 if the state has key, otherwise nothing") t) seed in
    on_ok c.words_at-in-None.result _ _ c.words_at-in-None.ensures
    (both_none t p c.args.found.now c.words_at.new.self c.words_at-in-None.new.self first c.in-None.ensures)
