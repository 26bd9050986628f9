use Rattle.disk.specs.FileDisks.{disk_of_file}
use Rattle.recovery.proofs.Crashes.{followed_by, looked-keeps}
use Rattle.std.proofs.Common.{inr, rules}
use Rattle.runs.specs.Commands.{IsNewLog}
use Rattle.disk_commands.specs.Disks.{IsUnused}
use Rattle.program.proofs.making.make_log.Goals as goal

-- the disk is looked at, and then its log is made
pub returns-in-Ok-clause-crashes : goal.returns-in-Ok-clause-crashes
returns-in-Ok-clause-crashes g c m end a recovers =
    let first = looked-keeps m end a (disk_of_file c.args.disk.now) (disk_of_file c.is_blank.new.disk) c.is_blank.ensures.looks recovers in
    followed_by m end a a a (disk_of_file c.args.disk.now) (disk_of_file c.is_blank.new.disk) (disk_of_file c.new-made.new.disk) first (c.new-made.ensures.crashes m end a first.now_on)

pub returns-in-Err-clause-crashes : goal.returns-in-Err-clause-crashes
returns-in-Err-clause-crashes g c m end a recovers =
    let first = looked-keeps m end a (disk_of_file c.args.disk.now) (disk_of_file c.is_blank.new.disk) c.is_blank.ensures.looks recovers in
    followed_by m end a a a (disk_of_file c.args.disk.now) (disk_of_file c.is_blank.new.disk) (disk_of_file c.new-made.new.disk) first (c.new-made.ensures.crashes m end a first.now_on)

-- and then a history of calls begins with it
pub returns-in-Ok-clause-made : goal.returns-in-Ok-clause-made
returns-in-Ok-clause-made g c = λ possible.
    let made : IsNewLog (g.M.Model.meaning c.args.of.now.model) c.args.of.now.end (disk_of_file c.new-made.new.disk) = rw c.in-Ok.is at c.new-made.ensures.made in
    let unused : IsUnused c.args.disk.now.reads = search rules in
    inr (unused, made.begins possible)
