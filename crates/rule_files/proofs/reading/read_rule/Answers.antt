use Rattle.std.proofs.Common.{◌≡◌, rules}
use Rattle.rule_files.specs.RuleFile.{parts_view}
use Rattle.rules.specs.Limits.{Exceeds, IsWithin}
use Rattle.rule_files.specs.declared.grammar.read.ReadError.TheVariants.{Mistaken}
use Rattle.rule_files.proofs.Seam.{no_rule, rule_exceeds, rule_is}
use Rattle.rule_files.proofs.reading.read_rule.Goals as goal

pub returns-in-None-clause-is : goal.returns-in-None-clause-is
returns-in-None-clause-is c =
    let within : IsWithin c.in-Ok.rule.items = search rules in
    rule_is (parts_view c.args.scope.now) c.args.text.now c.in_ok-names.names c.in_ok-names.ensures c.in-Ok.rule.items c.in-Ok.ensures.found within

pub returns-in-Ok-clause-bad : goal.returns-in-Ok-clause-bad
returns-in-Ok-clause-bad c =
    let exceeds : Exceeds c.in-Some.limit c.in-Ok.rule.items = search rules in
    rule_exceeds (parts_view c.args.scope.now) c.args.text.now c.in_ok-names.names c.in_ok-names.ensures c.in-Ok.rule.items c.in-Some.limit c.in-Ok.ensures.found exceeds

pub returns-in-Err-Mistaken-clause-bad : goal.returns-in-Err-Mistaken-clause-bad
returns-in-Err-Mistaken-clause-bad c =
    let is : c.in-Err-Mistaken.field-0 ≡ Mistaken c.in-Err-Mistaken.mistake = search rules in
    no_rule (parts_view c.args.scope.now) c.args.text.now c.in_ok-names.names c.in_ok-names.ensures c.in-Err-Mistaken.field-0 c.in-Err-Mistaken.mistake is c.in-Err-Mistaken.ensures.only
