use Rattle.std.proofs.Common.{rules, ◌≡◌, ◌++◌, [], ◌∷◌, ap, sym, ◌∙◌, map, Some, string_bytes}
use Rattle.std.proofs.lemmas.List.{map-append}
use Rattle.rule_files.specs.RuleFile.{fields_in, named_in, sort_view}
use Rattle.rule_files.proofs.Lists.{named_more}
use Rattle.toml.specs.View.{members_view, view}
use Rattle.rule_files.proofs.entries.sorts_in.Goals as goal

pub names-preserved : goal.names-preserved
names-preserved c =
    let bytes : string_bytes c.in_ok-name.name ≡ c.as_str-text.result.now = search rules in
    let some : fields_in (view c.in-Some.value.now) ≡ Some (map string_bytes c.in-Some-2.fields.items) = sym (rw c.in-Some-2.is at c.in_ok-fields.ensures) in
    named_more fields_in c.names.key-iterator c.next.new.self c.in-Some.key.now c.in-Some.value.now c.as_str-text.result.now
    c.in-Some.ensures.steps c.as_str-text.ensures.value c.is_name.result c.is_name.ensures c.if-not-is_name.false
    (map string_bytes c.in-Some-2.fields.items) some (map sort_view c.names.all.items) (map sort_view c.push.new.self.items) (named_in fields_in (members_view c.args.table.now.entries))
    (ap (map sort_view) c.in_ok-push.ensures.items ∙ map-append sort_view c.names.all.items _
    ∙ ap (λ text. map sort_view c.names.all.items ++ (text, (map string_bytes c.in-Some-2.fields.items)) ∷ []) bytes)
    c.names.invariant
