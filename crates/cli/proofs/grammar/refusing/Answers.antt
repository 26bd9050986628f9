use Rattle.std.proofs.Common.{Ok}
use Rattle.clap.specs.Words.{new_app}
use Rattle.cli.proofs.Lines.{argument_added}
use Rattle.cli.proofs.grammar.refusing.Goals as goal

pub returns : goal.returns
returns c =
    argument_added (Ok c.new-program.result) _ _ (new_app c.args.option.now) _ c.with_argument.ensures
    (c.new-program.ensures.app, c.new-program.ensures.local) c.choice_option-argument.ensures.rule c.choice_option-argument.ensures.local
