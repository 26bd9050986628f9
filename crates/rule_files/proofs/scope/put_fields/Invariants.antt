use Rattle.std.proofs.Common.{◌≡◌, ◌++◌, drop, map}
use Rattle.rule_files.specs.RuleFile.{field_view}
use Rattle.rule_files.proofs.scope.put_fields.Given as goal

abbrev pub invariant-loop-field : goal.invariant-loop-field
invariant-loop-field l = map (λ n. n.now) l.names.items ++ map (λ f. f.0) (map field_view (drop l.field-index l.more)) ≡ map (λ n. n.now) l.initial.names.items ++ map (λ f. f.0) (map field_view l.more)
