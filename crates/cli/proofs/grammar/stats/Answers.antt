use Rattle.cli.proofs.Lines.{argument_added}
use Rattle.cli.proofs.grammar.stats.Goals as goal

pub returns : goal.returns
returns c =
    argument_added _ _ _ _ _ c.with_argument.ensures
    (argument_added _ _ _ _ _ c.with_argument-command-5.ensures
    (argument_added _ _ _ _ _ c.with_argument-command-4.ensures
    (argument_added _ _ _ _ _ c.with_argument-command-3.ensures
    (argument_added _ _ _ _ _ c.with_argument-command-2.ensures
    (argument_added _ _ _ _ _ c.with_argument-command.ensures
    c.on_model-command.ensures c.optional_argument.ensures.rule c.optional_argument.ensures.local)
    c.format_option.ensures.rule c.format_option.ensures.local)
    c.flag.ensures.rule c.flag.ensures.local)
    c.optional_text-table.ensures.rule c.optional_text-table.ensures.local)
    c.time_option.ensures.rule c.time_option.ensures.local)
    c.large_option.ensures.rule c.large_option.ensures.local
