use Rattle.std.proofs.Common.{ap, Ok}
use Rattle.std.proofs.lemmas.Result.{IfOk-weaker}
use Rattle.clap.specs.Words.{App}
use Rattle.cli.specs.Command.{program_of, without_commands}
use Rattle.cli.proofs.Lines.{command_added}
use Rattle.cli.proofs.grammar.program.Goals as goal

pub returns-clause-is : goal.returns-clause-is
unfolding program_of
returns-clause-is c =
    command_added _ _ _ _ _ c.with_command.ensures
    (command_added _ _ _ _ _ c.with_command-program-17.ensures
    (command_added _ _ _ _ _ c.with_command-program-16.ensures
    (command_added _ _ _ _ _ c.with_command-program-15.ensures
    (command_added _ _ _ _ _ c.with_command-program-14.ensures
    (command_added _ _ _ _ _ c.with_command-program-13.ensures
    (command_added _ _ _ _ _ c.with_command-program-12.ensures
    (command_added _ _ _ _ _ c.with_command-program-11.ensures
    (command_added _ _ _ _ _ c.with_command-program-10.ensures
    (command_added _ _ _ _ _ c.with_command-program-9.ensures
    (command_added _ _ _ _ _ c.with_command-program-8.ensures
    (command_added _ _ _ _ _ c.with_command-program-7.ensures
    (command_added _ _ _ _ _ c.with_command-program-6.ensures
    (command_added _ _ _ _ _ c.with_command-program-5.ensures
    (command_added _ _ _ _ _ c.with_command-program-4.ensures
    (command_added _ _ _ _ _ c.with_command-program-3.ensures
    (command_added _ _ _ _ _ c.with_command-program-2.ensures
    (command_added (Ok c.without_commands.result) _ _ (without_commands c.args.texts.name.now) _ c.with_command-program.ensures c.without_commands.ensures c.new.ensures) c.run.ensures) c.on_any_disk.ensures) c.grow.ensures) c.migrate.ensures) c.on_any_disk-2.ensures) c.on_any_disk-3.ensures) c.recover.ensures) c.status.ensures) c.info.ensures) c.verify.ensures) c.log.ensures) c.show.ensures) c.stats.ensures) c.draw.ensures) c.seq.ensures) c.on_model.ensures) c.node.ensures

pub returns-clause-required : goal.returns-clause-required
unfolding program_of
returns-clause-required c = IfOk-weaker c.with_command.result _ _ (λ m is. ap (λ (a : App). a.top.subcommand_required) is.0) (returns-clause-is c)
