use Rattle.std.proofs.Common.{◌≡◌, ◌++◌, map}
use Rattle.std.specs.Prelude.{option_map}
use Rattle.rule_files.specs.RuleFile.{named_in, named_view, numbers_in}
use Rattle.toml.specs.View.{members_view}
use Rattle.rule_files.proofs.entries.named_in.Given as goal

abbrev pub invariant-names : goal.invariant-names
invariant-names l = option_map (λ ys. map named_view l.all.items ++ ys) (named_in (numbers_in l.is_table) (members_view l.key-iterator)) ≡ named_in (numbers_in l.is_table) (members_view l.table.entries)
