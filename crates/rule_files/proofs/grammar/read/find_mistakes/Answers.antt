use Rattle.std.proofs.Common.{◌≡◌, None, Some, rules}
use Rattle.rule_files.specs.Statements.{acts_of}
use Rattle.rule_files.specs.Texts.{read_at}
use Rattle.rule_files.proofs.Whole.{read_only, refused_is, some_found}
use Rattle.rule_files.proofs.grammar.read.find_mistakes.Goals as goal

pub returns-in-Ok-clause-some : goal.returns-in-Ok-clause-some
returns-in-Ok-clause-some c =
    let e : read_at c.args.scope.now c.args.text.now ≡ Some (acts_of c.in-Ok._statements.items) = search rules in
    λ empty. record { acts = acts_of c.in-Ok._statements.items; rule = read_only c.args.scope.now c.args.text.now _ e }

pub returns-in-Err-Refused-clause-none : goal.returns-in-Err-Refused-clause-none
returns-in-Err-Refused-clause-none c = λ acts rule.
    let e : read_at c.args.scope.now c.args.text.now ≡ None = search rules in
    refused_is c.args.scope.now c.args.text.now acts e rule

pub returns-in-Err-Refused-clause-some : goal.returns-in-Err-Refused-clause-some
returns-in-Err-Refused-clause-some c = some_found _ c.all_mistakes.result c.all_mistakes.ensures
