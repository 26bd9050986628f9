use Rattle.cli.proofs.Lines.{option_added}
use Rattle.cli.proofs.grammar.run_kept.Goals as goal

pub returns : goal.returns
returns c =
    option_added _ _ _ _ _ c.with_option-2.ensures
    (option_added _ _ _ _ _ c.with_option.ensures
    (option_added _ _ _ _ _ c.with_option-command.ensures
    c.run_apart.ensures c.optional_number-commit.ensures.rule)
    c.optional_number-checkpoint.ensures.rule)
    c.flag-seal.ensures.rule
