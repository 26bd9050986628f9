use Rattle.cli.proofs.Lines.{argument_added}
use Rattle.cli.proofs.grammar.draw.Goals as goal

pub returns : goal.returns
returns c =
    argument_added _ _ _ _ _ c.with_argument.ensures
    (argument_added _ _ _ _ _ c.with_argument-command-8.ensures
    (argument_added _ _ _ _ _ c.with_argument-command-7.ensures
    (argument_added _ _ _ _ _ c.with_argument-command-6.ensures
    (argument_added _ _ _ _ _ c.with_argument-command-5.ensures
    (argument_added _ _ _ _ _ c.with_argument-command-4.ensures
    (argument_added _ _ _ _ _ c.with_argument-command-3.ensures
    (argument_added _ _ _ _ _ c.with_argument-command-2.ensures
    (argument_added _ _ _ _ _ c.with_argument-command.ensures
    c.on_model-command.ensures c.optional_argument.ensures.rule c.optional_argument.ensures.local) c.time_option.ensures.rule c.time_option.ensures.local) c.time_option-2.ensures.rule c.time_option-2.ensures.local) c.optional_text-processes.ensures.rule c.optional_text-processes.ensures.local) c.flag.ensures.rule c.flag.ensures.local) c.optional_text-trace.ensures.rule c.optional_text-trace.ensures.local) c.optional_text-histogram.ensures.rule c.optional_text-histogram.ensures.local)
    c.picture_option.ensures.rule c.picture_option.ensures.local)
    c.large_option.ensures.rule c.large_option.ensures.local
