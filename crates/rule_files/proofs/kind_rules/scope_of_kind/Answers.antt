use Rattle.std.proofs.Common.{◌≡◌, IfOk, None, Some, subst}
use Rattle.std.specs.Prelude.{IsErr}
use Rattle.toml.specs.View.{table_view}
use Rattle.rule_files.specs.RuleFile.{kind_view, parts_in, parts_view}
use Rattle.rule_files.proofs.KindLists.{setting_is}
use Rattle.rule_files.proofs.kind_rules.scope_of_kind.Goals as goal

pub returns-clause-ok : goal.returns-clause-ok
returns-clause-ok c =
    subst (λ s. IfOk c.scope_in.result (λ read. IfOk read (λ scope. parts_in s (table_view c.args.file.now) (table_view c.args.kind.now.table.now) ≡ Some (parts_view scope))))
    (setting_is c.args.keyed c.args.kinds.now (kind_view c.args.kind.now.head) c.requires.keyed) c.scope_in.ensures.ok

pub returns-clause-bad : goal.returns-clause-bad
returns-clause-bad c =
    subst (λ s. IfOk c.scope_in.result (λ read. IsErr read → parts_in s (table_view c.args.file.now) (table_view c.args.kind.now.table.now) ≡ None))
    (setting_is c.args.keyed c.args.kinds.now (kind_view c.args.kind.now.head) c.requires.keyed) c.scope_in.ensures.bad
