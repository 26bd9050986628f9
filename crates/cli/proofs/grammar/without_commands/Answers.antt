use Rattle.std.proofs.Common.{ap, true, Bool, ◌∙◌}
use Rattle.clap.specs.Simple.{Shape, app_of_fields, on_top}
use Rattle.clap.specs.declared.builder.command.Command.{Command as ClapCommand}
use Rattle.clap.specs.declared.builder.command.Command.TheOpen.{Command-F}
use Rattle.cli.proofs.grammar.without_commands.Goals as goal

abbrev has_globals : Command-F ClapCommand → Bool
has_globals f = f.has_globals

pub returns : goal.returns
returns c = (
  ap app_of_fields c.disable_help_subcommand.ensures ∙ ap (on_top (λ (s : Shape). record s { disable_help_subcommand = true }))
      (ap app_of_fields c.arg_required_else_help.ensures ∙ ap (on_top (λ (s : Shape). record s { arg_required_else_help = true }))
      (ap app_of_fields c.subcommand_required.ensures ∙ ap (on_top (λ (s : Shape). record s { subcommand_required = true }))
      (ap app_of_fields c.after_help.ensures ∙ ap app_of_fields c.version.ensures ∙ ap (on_top (λ (s : Shape). record s { has_version = true }))
      (ap app_of_fields c.about.ensures ∙ c.new.ensures.app)))),
  ap has_globals c.disable_help_subcommand.ensures ∙ ap has_globals c.arg_required_else_help.ensures ∙ ap has_globals c.subcommand_required.ensures
      ∙ ap has_globals c.after_help.ensures ∙ ap has_globals c.version.ensures ∙ ap has_globals c.about.ensures ∙ c.new.ensures.local,
)
