use Rattle.std.proofs.Common.{◌≡◌, ◌++◌, map}
use Rattle.std.specs.Prelude.{option_map}
use Rattle.rule_files.specs.RuleFile.{fields_in, named_in, sort_view}
use Rattle.toml.specs.View.{members_view}
use Rattle.rule_files.proofs.entries.sorts_in.Given as goal

abbrev pub invariant-names : goal.invariant-names
invariant-names l = option_map (λ ys. map sort_view l.all.items ++ ys) (named_in fields_in (members_view l.key-iterator)) ≡ named_in fields_in (members_view l.table.entries)
