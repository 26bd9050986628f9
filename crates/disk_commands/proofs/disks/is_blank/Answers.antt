use Rattle.disk.specs.Laws.{looks_on}
use Rattle.disk_commands.proofs.disks.is_blank.Goals as goal

pub returns-clause-looks : goal.returns-clause-looks
returns-clause-looks c = looks_on _ _ _ (looks_on _ _ _ c.is_zero.ensures.looks c.is_zero-else-not-is_zero.ensures.looks) c.refuse_data.ensures.looks
