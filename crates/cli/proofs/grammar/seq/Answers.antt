use Rattle.cli.proofs.Lines.{argument_added}
use Rattle.cli.proofs.grammar.seq.Goals as goal

pub returns : goal.returns
returns c = argument_added _ _ _ _ _ c.with_argument.ensures c.on_model-command.ensures c.format_option.ensures.rule c.format_option.ensures.local
