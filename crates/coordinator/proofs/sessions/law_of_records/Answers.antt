use Rattle.coordinator.proofs.GoingOn.{records_stay}
use Rattle.coordinator.proofs.sessions.law_of_records.Goals as goal

pub returns : goal.returns
returns g c = records_stay g.M.Model.meaning g.P.Port.state g.D.SectorDisk.state
