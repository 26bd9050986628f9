use Rattle.cli.proofs.Lines.{argument_added}
use Rattle.cli.proofs.grammar.verify.Goals as goal

pub returns : goal.returns
returns c =
    argument_added _ _ _ _ _ c.with_argument.ensures
    (argument_added _ _ _ _ _ c.with_argument-command.ensures
    c.on_disk-command.ensures c.optional_text.ensures.rule c.optional_text.ensures.local)
    c.large_option.ensures.rule c.large_option.ensures.local
