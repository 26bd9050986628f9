use Rattle.disk.specs.FileDisks.{disk_of_file}
use Rattle.disk.specs.Laws.{looks_on}
use Rattle.disk_commands.proofs.disks.refuse_bytes.Goals as goal

pub returns-in-Err-Shut-clause-looks : goal.returns-in-Err-Shut-clause-looks
returns-in-Err-Shut-clause-looks c =
    let before = looks_on (disk_of_file c.args.disk.now) (disk_of_file c.is_formatted.new.disk) (disk_of_file c.refuse_data.new.disk) c.is_formatted.ensures.looks c.refuse_data.ensures.looks in
    looks_on (disk_of_file c.args.disk.now) (disk_of_file c.refuse_data.new.disk) (disk_of_file c.held_on-held.new.disk) before c.held_on-held.ensures.looks
