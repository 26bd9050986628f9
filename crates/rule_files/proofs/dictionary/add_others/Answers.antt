use Rattle.std.proofs.Common.{ap, drop, ◌+◌, ◌∙◌}
use Rattle.rule_files.specs.RuleFile.{other_names}
use Rattle.rule_files.proofs.Names.{one_more}
use Rattle.rule_files.proofs.dictionary.add_others.Goals as goal

pub others-preserved : goal.others-preserved
others-preserved c = (
  ap (λ d. d.draws) c.in_ok-add.ensures ∙ c.others.invariant.0,
  ap (λ d. d.own) c.in_ok-add.ensures ∙ c.others.invariant.1,
  one_more c.others.place c.other_name.result.now (drop c.others.place other_names) (drop (c.others.place + 1) other_names) c.others.names.entries c.add.new.names.entries _
      c.other_name.ensures (ap (λ d. d.entries) c.in_ok-add.ensures) c.others.invariant.2,
)
