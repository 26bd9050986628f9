use Rattle.std.proofs.Common.{ap, Bool, Ok, ◌∙◌}
use Rattle.clap.specs.Simple.{app_of_fields}
use Rattle.clap.specs.Words.{new_app}
use Rattle.clap.specs.declared.builder.command.Command.{Command as ClapCommand}
use Rattle.clap.specs.declared.builder.command.Command.TheOpen.{Command-F}
use Rattle.cli.proofs.Lines.{argument_added}
use Rattle.cli.proofs.grammar.on_model.Goals as goal

abbrev has_globals : Command-F ClapCommand → Bool
has_globals f = f.has_globals

pub returns : goal.returns
returns c =
    argument_added _ _ _ _ _ c.with_argument.ensures
    (argument_added _ _ _ _ _ c.with_argument-command-4.ensures
    (argument_added _ _ _ _ _ c.with_argument-command-3.ensures
    (argument_added _ _ _ _ _ c.with_argument-command-2.ensures
    (argument_added (Ok c.after_help-command.result) _ _ (new_app c.args.name.now) _ c.with_argument-command.ensures (
      ap app_of_fields c.after_help-command.ensures ∙ ap app_of_fields c.about.ensures ∙ c.new.ensures.app,
      ap has_globals c.after_help-command.ensures ∙ ap has_globals c.about.ensures ∙ c.new.ensures.local,
    )
    c.path.ensures.rule c.path.ensures.local)
    c.set_option.ensures.rule c.set_option.ensures.local)
    c.seed_option.ensures.rule c.seed_option.ensures.local)
    c.advice_option.ensures.rule c.advice_option.ensures.local)
    c.quiet_option.ensures.rule c.quiet_option.ensures.local
