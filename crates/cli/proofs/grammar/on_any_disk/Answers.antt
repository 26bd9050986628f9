use Rattle.cli.proofs.Lines.{argument_added}
use Rattle.cli.proofs.grammar.on_any_disk.Goals as goal

pub returns : goal.returns
returns c =
    argument_added _ _ _ _ _ c.with_argument.ensures c.on_disk-command.ensures c.large_option.ensures.rule c.large_option.ensures.local
