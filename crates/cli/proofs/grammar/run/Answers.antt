use Rattle.cli.proofs.Lines.{argument_added, option_added}
use Rattle.cli.proofs.grammar.run.Goals as goal

pub returns : goal.returns
returns c =
    argument_added _ _ _ _ _ c.with_argument.ensures
    (option_added _ _ _ _ _ c.with_option-command-3.ensures
    (option_added _ _ _ _ _ c.with_option-2.ensures
    (option_added _ _ _ _ _ c.with_option-command-2.ensures
    (option_added _ _ _ _ _ c.with_option.ensures
    (option_added _ _ _ _ _ c.with_option-command.ensures
    c.run_stored.ensures c.text_option-rounds.ensures.rule)
    c.optional_number-retries.ensures.rule)
    c.optional_text-stop.ensures.rule)
    c.optional_number-progress.ensures.rule)
    c.optional_text-trace.ensures.rule)
    c.large_option.ensures.rule c.large_option.ensures.local
