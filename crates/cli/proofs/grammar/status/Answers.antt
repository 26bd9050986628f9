use Rattle.cli.proofs.Lines.{argument_added}
use Rattle.cli.proofs.grammar.status.Goals as goal

pub returns : goal.returns
returns c =
    argument_added _ _ _ _ _ c.with_argument.ensures
    (argument_added _ _ _ _ _ c.with_argument-command.ensures
    c.on_disk-command.ensures c.format_option.ensures.rule c.format_option.ensures.local)
    c.large_option.ensures.rule c.large_option.ensures.local
