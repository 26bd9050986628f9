use Rattle.cli.proofs.Lines.{argument_added}
use Rattle.cli.proofs.grammar.recover.Goals as goal

pub returns : goal.returns
returns c =
    argument_added _ _ _ _ _ c.with_argument.ensures
    (argument_added _ _ _ _ _ c.with_argument-command-3.ensures
    (argument_added _ _ _ _ _ c.with_argument-command-2.ensures
    (argument_added _ _ _ _ _ c.with_argument-command.ensures
    c.on_disk-command.ensures c.path.ensures.rule c.path.ensures.local)
    c.text_option-sectors.ensures.rule c.text_option-sectors.ensures.local)
    c.reserve_option.ensures.rule c.reserve_option.ensures.local)
    c.large_option.ensures.rule c.large_option.ensures.local
