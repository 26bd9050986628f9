use Rattle.std.proofs.Common.{◌≡◌, None, Some, rules}
use Rattle.rule_files.specs.Statements.{acts_of}
use Rattle.rule_files.specs.Texts.{read_at}
use Rattle.rule_files.proofs.Whole.{read_only, refused_is, same_acts}
use Rattle.rule_files.proofs.grammar.read.read_rule.Goals as goal

pub returns-in-Ok-clause-found : goal.returns-in-Ok-clause-found
returns-in-Ok-clause-found c =
    let e : read_at c.args.scope.now c.args.text.now ≡ Some (acts_of c.in-Ok.statements.items) = search rules in
    read_only c.args.scope.now c.args.text.now _ e

pub returns-in-Ok-clause-only : goal.returns-in-Ok-clause-only
returns-in-Ok-clause-only c = λ acts rule.
    let e : read_at c.args.scope.now c.args.text.now ≡ Some (acts_of c.in-Ok.statements.items) = search rules in
    same_acts c.args.scope.now c.args.text.now _ acts e rule

pub returns-in-Err-Refused-clause-only : goal.returns-in-Err-Refused-clause-only
returns-in-Err-Refused-clause-only c = λ acts rule.
    let e : read_at c.args.scope.now c.args.text.now ≡ None = search rules in
    refused_is c.args.scope.now c.args.text.now acts e rule
