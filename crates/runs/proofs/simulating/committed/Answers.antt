use Rattle.std.proofs.Common.{◌<◌, List, ℕ, subst}
use Rattle.commitlog.specs.Records.{Holds}
use Rattle.recovery.specs.Front.{world_of}
use Rattle.recovery.proofs.Crashes.{recovers-genuine, log-on}
use Rattle.runs.proofs.Left.{no_earlier, not_recovered}
use Rattle.runs.proofs.simulating.committed.Goals as goal
use Rattle.runs.proofs.simulating.committed.Goals.{in-Ok-recover, in-Err-recover}

pub returns-clause-late : goal.returns-clause-late
returns-clause-late g c =
    let disk = g.D.SectorDisk.state c.args.disk in
    let m = g.M.Model.meaning c.args.model.now in
    let opened = c.in-Ok.ensures.opened in
    let holds : Holds c.in-Ok.log.header c.in-Ok.log.records disk.reads = subst (λ (image : List (List ℕ)). Holds c.in-Ok.log.header c.in-Ok.log.records image) opened.looks.same opened.durable.holds in
    elim c.match-recover.branch [
      | in-Ok-recover w ↦ rw w.outcome-is (λ a recovers.
          (let ours = w.in-Ok-recover.ensures.front.ours in
          let genuine = recovers-genuine m c.args.end disk (g.met.D.SectorDisk.sound c.args.disk) a recovers c.in-Ok.log.records (log-on m c.args.end c.in-Ok.log.header c.in-Ok.log.records disk.reads ours holds) in
          no_earlier m c.args.end a disk (world_of w.in-Ok-recover.front) (g.met.M.Model.lawful c.args.model.now) c.requires.short (g.met.D.SectorDisk.sound c.args.disk) recovers
          ((w.in-Ok-recover.ensures.front.genuine genuine).represents disk.reads holds)))
      | in-Err-recover w ↦ rw w.outcome-is (λ a recovers. tt)
    ]

pub returns-clause-refused : goal.returns-clause-refused
returns-clause-refused g c =
    let m = g.M.Model.meaning c.args.model.now in
    let log = c.in-Ok.log in
    let old = g.D.SectorDisk.state c.args.disk in
    let mid = g.D.SectorDisk.state log.disk in
    let new = g.D.SectorDisk.state c.recover.new.log.disk in
    let holds : Holds log.header log.records old.reads = subst (λ (image : List (List ℕ)). Holds log.header log.records image) c.in-Ok.ensures.opened.looks.same c.in-Ok.ensures.opened.durable.holds in
    elim c.match-recover.branch [
      | in-Ok-recover w ↦ rw w.outcome-is tt
      | in-Err-recover w ↦
          rw (w.outcome-is, c.into_disk.ensures)
          (not_recovered m c.args.end log old.reads w.in-Err-recover.fault (mid.failures < new.failures) (old.failures < new.failures) (λ f. subst (λ (n : ℕ). n < new.failures) c.in-Ok.ensures.opened.no_failure f) c.in-Ok.ensures.opened.ready holds w.in-Err-recover.ensures.refused)
    ]

pub returns-clause-represents : goal.returns-clause-represents
returns-clause-represents g c = λ genuine.
    let disk = g.D.SectorDisk.state c.args.disk in
    let log = c.in-Ok.log in
    let holds : Holds log.header log.records disk.reads = subst (λ (image : List (List ℕ)). Holds log.header log.records image) c.in-Ok.ensures.opened.looks.same c.in-Ok.ensures.opened.durable.holds in
    elim c.match-recover.branch [
      | in-Ok-recover w ↦ rw w.outcome-is
          (let ours = w.in-Ok-recover.ensures.front.ours in
          (w.in-Ok-recover.ensures.front.genuine (genuine log.records (log-on (g.M.Model.meaning c.args.model.now) c.args.end log.header log.records disk.reads ours holds))).represents disk.reads holds)
      | in-Err-recover w ↦ rw w.outcome-is tt
    ]

pub returns-clause-upto : goal.returns-clause-upto
returns-clause-upto g c = λ genuine.
    let disk = g.D.SectorDisk.state c.args.disk in
    let log = c.in-Ok.log in
    let holds : Holds log.header log.records disk.reads = subst (λ (image : List (List ℕ)). Holds log.header log.records image) c.in-Ok.ensures.opened.looks.same c.in-Ok.ensures.opened.durable.holds in
    elim c.match-recover.branch [
      | in-Ok-recover w ↦ rw w.outcome-is
          (let ours = w.in-Ok-recover.ensures.front.ours in
          ((w.in-Ok-recover.ensures.front.genuine (genuine log.records (log-on (g.M.Model.meaning c.args.model.now) c.args.end log.header log.records disk.reads ours holds))).upto, w.in-Ok-recover.ensures.front.loadable.within))
      | in-Err-recover w ↦ rw w.outcome-is tt
    ]
