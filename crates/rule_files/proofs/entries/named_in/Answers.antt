use Rattle.std.proofs.Common.{rules, ◌≡◌, ◌++◌, [], ◌∷◌, ap, sym, ◌∙◌, map, Some, string_bytes}
use Rattle.std.proofs.lemmas.List.{map-append}
use Rattle.rule_files.specs.RuleFile.{named_in, named_view, numbers_in}
use Rattle.rule_files.proofs.Lists.{named_more}
use Rattle.toml.specs.View.{members_view, view}
use Rattle.rule_files.proofs.entries.named_in.Goals as goal

pub names-preserved : goal.names-preserved
names-preserved c =
    let bytes : string_bytes c.in_ok-name.name ≡ c.as_str-text.result.now = search rules in
    let some : numbers_in c.args.is_table (view c.in-Some.value.now) ≡ Some c.in-Some-2.numbers.items = sym (rw c.in-Some-2.is at c.in_ok-numbers.ensures) in
    named_more (numbers_in c.args.is_table) c.names.key-iterator c.next.new.self c.in-Some.key.now c.in-Some.value.now c.as_str-text.result.now
    c.in-Some.ensures.steps c.as_str-text.ensures.value c.is_name.result c.is_name.ensures c.if-not-is_name.false
    c.in-Some-2.numbers.items some (map named_view c.names.all.items) (map named_view c.push.new.self.items) (named_in (numbers_in c.args.is_table) (members_view c.args.table.now.entries))
    (ap (map named_view) c.in_ok-push.ensures.items ∙ map-append named_view c.names.all.items _
    ∙ ap (λ text. map named_view c.names.all.items ++ (text, c.in-Some-2.numbers.items) ∷ []) bytes)
    c.names.invariant
