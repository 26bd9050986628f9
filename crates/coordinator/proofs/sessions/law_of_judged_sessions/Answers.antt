use Rattle.coordinator.proofs.GoingOn.{judged_sessions_go_on}
use Rattle.coordinator.proofs.sessions.law_of_judged_sessions.Goals as goal

pub returns : goal.returns
returns g c = judged_sessions_go_on g.M.Model.meaning g.P.Port.state g.D.SectorDisk.state
