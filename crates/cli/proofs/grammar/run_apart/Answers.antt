use Rattle.cli.proofs.Lines.{option_added}
use Rattle.cli.proofs.grammar.run_apart.Goals as goal

pub returns : goal.returns
returns c =
    option_added _ _ _ _ _ c.with_option-2.ensures
    (option_added _ _ _ _ _ c.with_option-command-4.ensures
    (option_added _ _ _ _ _ c.with_option.ensures
    (option_added _ _ _ _ _ c.with_option-command-3.ensures
    (option_added _ _ _ _ _ c.with_option-command-2.ensures
    (option_added _ _ _ _ _ c.with_option-command.ensures
    c.run_made.ensures c.optional_text-sockets.ensures.rule)
    c.flag.ensures.rule)
    c.flag-2.ensures.rule)
    c.any_text-judge.ensures.rule)
    c.optional_number-silence.ensures.rule)
    c.optional_number-cut.ensures.rule
