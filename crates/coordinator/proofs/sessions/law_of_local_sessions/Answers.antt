use Rattle.coordinator.proofs.PortFaults.{local_sessions}
use Rattle.coordinator.proofs.sessions.law_of_local_sessions.Goals as goal

pub returns : goal.returns
returns g c = local_sessions g.M.Model.meaning g.D.SectorDisk.state
