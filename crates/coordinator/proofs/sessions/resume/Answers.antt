use Rattle.std.proofs.Common.{ap, length, map, refl, take}
use Rattle.coordinator.proofs.Resuming.{driven-on, kept-on, made-all, not_resumed, resumed, stopped-front}
use Rattle.recovery.proofs.OldRecords.{looks_at_old, session_keeps_old}
use Rattle.coordinator.proofs.Driving.{all-trusted}
use Rattle.coordinator.specs.Drives.{any_trusts}
use Rattle.coordinator.specs.Session.{running}
use Rattle.recovery.specs.Crashes.{RecoversUnderItsEnd}
use Rattle.recovery.proofs.Crashes.{reads-genuine}
use Rattle.coordinator.specs.Steps.{move_of}
use Rattle.coordinator.proofs.sessions.resume.Goals as goal

pub returns-in-Err-clause-kept : goal.returns-in-Err-clause-kept
returns-in-Err-clause-kept g c = λ are_faithful v.
    not_resumed (g.M.Model.meaning c.args.model.now) c.args.end (length c.args.ports.items) _ v (g.D.SectorDisk.state c.args.disk) _ c.in-Err.ensures.not_opened.looks

pub returns-in-Err-clause-resources : goal.returns-in-Err-clause-resources
returns-in-Err-clause-resources g c = λ a recovers are_faithful none. c.in-Err.ensures.resources a recovers are_faithful

pub returns-in-Ok-drive-clause-kept : goal.returns-in-Ok-drive-clause-kept
returns-in-Ok-drive-clause-kept g c = λ are_faithful v.
    let m = g.M.Model.meaning c.args.model.now in
    let old = g.D.SectorDisk.state c.args.disk in
    let genuine = λ (recovers : RecoversUnderItsEnd m v.time old). reads-genuine m v.time c.args.end old c.in-Ok.session.front (g.met.M.Model.lawful c.args.model.now) (g.met.D.SectorDisk.sound c.args.disk) recovers c.in-Ok.ensures.opened.replayed in
    let model_is = ap g.M.Model.meaning c.in-Ok.ensures.opened.model_is in
    let end_is = c.in-Ok.ensures.opened.end_is in
    let begun = c.in-Ok.ensures.begun v in
    let is = c.in-Ok.ensures.faithful are_faithful in
    rw (c.left.ensures)
    (resumed m c.args.end (length c.args.ports.items) v c.in-Ok.session.front old (g.D.SectorDisk.state c.in-Ok.session.log.disk)
    c.in-Ok.ensures.opened.replayed (kept-on _ _ _ _ v.time c.in-Ok.session.front.time old _ model_is end_is begun.crashes begun.recovers) (running g.M.Model.meaning g.P.Port.state c.in-Ok.session) model_is end_is (map move_of (take c.in-Ok-drive.done c.args.steps.now))
    (running g.M.Model.meaning g.P.Port.state c.drive.new.self) c.drive.new.self.front (g.D.SectorDisk.state c.drive.new.self.log.disk)
    (λ recovers. (is.consistent (genuine recovers), is.system (genuine recovers))) (λ consistent. made-all c.in-Ok-drive.done c.args.steps.now _ _ c.in-Ok-drive.ensures.count (c.in-Ok-drive.ensures.made consistent)) refl
    (λ recovers. driven-on _ _ _ _ c.in-Ok.session.front c.drive.new.self.front c.in-Ok.session.log _ _ model_is end_is (c.drive.ensures.keeps.crashes (all-trusted (any_trusts c.args.steps.now) _ (is.consistent (genuine recovers)))) (c.in-Ok.ensures.opened.genuine (genuine recovers)).written))

pub returns-in-Err-drive-clause-kept : goal.returns-in-Err-drive-clause-kept
returns-in-Err-drive-clause-kept g c = λ are_faithful v.
    let m = g.M.Model.meaning c.args.model.now in
    let old = g.D.SectorDisk.state c.args.disk in
    let genuine = λ (recovers : RecoversUnderItsEnd m v.time old). reads-genuine m v.time c.args.end old c.in-Ok.session.front (g.met.M.Model.lawful c.args.model.now) (g.met.D.SectorDisk.sound c.args.disk) recovers c.in-Ok.ensures.opened.replayed in
    let model_is = ap g.M.Model.meaning c.in-Ok.ensures.opened.model_is in
    let end_is = c.in-Ok.ensures.opened.end_is in
    let begun = c.in-Ok.ensures.begun v in
    let is = c.in-Ok.ensures.faithful are_faithful in
    let stopped = c.in-Err-drive.ensures.stopped in
    rw (c.left-in-Err-drive.ensures)
    (resumed m c.args.end (length c.args.ports.items) v c.in-Ok.session.front old (g.D.SectorDisk.state c.in-Ok.session.log.disk)
    c.in-Ok.ensures.opened.replayed (kept-on _ _ _ _ v.time c.in-Ok.session.front.time old _ model_is end_is begun.crashes begun.recovers) (running g.M.Model.meaning g.P.Port.state c.in-Ok.session) model_is end_is (map move_of (take c.in-Err-drive.field-0.done c.args.steps.now))
    (running g.M.Model.meaning g.P.Port.state stopped.made) c.drive.new.self.front (g.D.SectorDisk.state c.drive.new.self.log.disk)
    (λ recovers. (is.consistent (genuine recovers), is.system (genuine recovers))) (λ consistent. stopped.moves consistent) (stopped-front _ _ _ _ _ _ _ stopped)
    (λ recovers. driven-on _ _ _ _ c.in-Ok.session.front c.drive.new.self.front c.in-Ok.session.log _ _ model_is end_is (c.drive.ensures.keeps.crashes (all-trusted (any_trusts c.args.steps.now) _ (is.consistent (genuine recovers)))) (c.in-Ok.ensures.opened.genuine (genuine recovers)).written))

pub returns-in-Err-clause-old_records : goal.returns-in-Err-clause-old_records
returns-in-Err-clause-old_records g c = looks_at_old (g.D.SectorDisk.state c.args.disk) _ c.in-Err.ensures.not_opened.looks

pub returns-in-Ok-drive-clause-old_records : goal.returns-in-Ok-drive-clause-old_records
returns-in-Ok-drive-clause-old_records g c =
    let session = c.in-Ok.session in
    rw (c.left.ensures)
    (session_keeps_old (g.D.SectorDisk.state c.args.disk) (g.D.SectorDisk.state session.log.disk) _ session.log.header session.log.records c.in-Ok.ensures.opened.looks c.in-Ok.ensures.opened.durable
    (c.drive.ensures.keeps.leaves c.in-Ok.ensures.opened.durable))

pub returns-in-Err-drive-clause-old_records : goal.returns-in-Err-drive-clause-old_records
returns-in-Err-drive-clause-old_records g c =
    let session = c.in-Ok.session in
    rw (c.left-in-Err-drive.ensures)
    (session_keeps_old (g.D.SectorDisk.state c.args.disk) (g.D.SectorDisk.state session.log.disk) _ session.log.header session.log.records c.in-Ok.ensures.opened.looks c.in-Ok.ensures.opened.durable
    (c.drive.ensures.keeps.leaves c.in-Ok.ensures.opened.durable))
