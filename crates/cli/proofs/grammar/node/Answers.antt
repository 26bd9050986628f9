use Rattle.cli.proofs.Lines.{argument_added}
use Rattle.cli.proofs.grammar.node.Goals as goal

pub returns : goal.returns
returns c =
    argument_added _ _ _ _ _ c.with_argument.ensures
    (argument_added _ _ _ _ _ c.with_argument-command.ensures c.on_model-command.ensures c.path.ensures.rule c.path.ensures.local)
    c.number_option.ensures.rule c.number_option.ensures.local
