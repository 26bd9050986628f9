use Rattle.runs.proofs.Left.{empty_represents, log_stays, making_represents, not_made, was_there}
use Rattle.runs.proofs.simulating.prepare.Goals as goal

pub returns-in-Ok-clause-made : goal.returns-in-Ok-clause-made
returns-in-Ok-clause-made g c = λ blank possible. empty_represents (g.M.Model.meaning c.args.model.now) c.args.end c.header-sector.result c.header-sector.ensures possible
    (g.D.SectorDisk.state c.format.new.disk) c.in-Ok.ensures.empty.durable

pub returns-in-Ok-clause-crashes : goal.returns-in-Ok-clause-crashes
returns-in-Ok-clause-crashes g c = λ m end a recovers.
    log_stays m end a (g.D.SectorDisk.state c.args.disk.now) (g.D.SectorDisk.state c.format.new.disk) (g.met.D.SectorDisk.sound c.args.disk.now) c.format.ensures.looks recovers

pub returns-in-Ok-clause-any_moment : goal.returns-in-Ok-clause-any_moment
returns-in-Ok-clause-any_moment g c = λ in_sync blank possible. making_represents (g.M.Model.meaning c.args.model.now) c.args.end c.header-sector.result c.header-sector.ensures possible
    (g.D.SectorDisk.state c.args.disk.now) (g.D.SectorDisk.state c.format.new.disk) c.format.ensures.any_moment in_sync blank

pub returns-in-Err-clause-made : goal.returns-in-Err-clause-made
returns-in-Err-clause-made g c = was_there c.in-Err.fault (g.D.SectorDisk.state c.args.disk.now).reads _ c.in-Err.ensures.refused _ c.unless_there.result c.unless_there.ensures.there

pub returns-in-Err-clause-crashes : goal.returns-in-Err-clause-crashes
returns-in-Err-clause-crashes g c = λ m end a recovers.
    log_stays m end a (g.D.SectorDisk.state c.args.disk.now) (g.D.SectorDisk.state c.format.new.disk) (g.met.D.SectorDisk.sound c.args.disk.now) c.format.ensures.looks recovers

pub returns-in-Err-clause-any_moment : goal.returns-in-Err-clause-any_moment
returns-in-Err-clause-any_moment g c = λ in_sync blank possible. making_represents (g.M.Model.meaning c.args.model.now) c.args.end c.header-sector.result c.header-sector.ensures possible
    (g.D.SectorDisk.state c.args.disk.now) (g.D.SectorDisk.state c.format.new.disk) c.format.ensures.any_moment in_sync blank

pub returns-in-Err-clause-refused : goal.returns-in-Err-clause-refused
returns-in-Err-clause-refused g c = not_made c.in-Err.fault (g.D.SectorDisk.state c.args.disk.now).reads _ c.in-Err.ensures.refused c.unless_there.result c.unless_there.ensures.other
