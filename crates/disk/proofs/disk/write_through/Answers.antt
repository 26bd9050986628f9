use Rattle.std.proofs.Common.{ℕ, List, set}
use Rattle.disk.specs.Disk.{DiskState, MayLeave, moment}
use Rattle.disk.specs.Laws.{torn_left, still_left, counts_now}
use Rattle.disk.proofs.disk.write_through.Goals as goal

pub returns-in_err-write-clause-torn : goal.returns-in_err-write-clause-torn
returns-in_err-write-clause-torn g c bytes within sector =
    let law = g.met.D.SectorDisk in
    let old : DiskState = g.D.SectorDisk.state c.args.disk.now in
    let new : DiskState = g.D.SectorDisk.state c.write.new.self in
    let image : List (List ℕ) = set old.reads c.args.n bytes in
    let torn : MayLeave new.reads new.dirty image = torn_left c.args.n bytes old.reads new.reads old.dirty new.dirty (law.sound c.args.disk.now) (law.sound c.write.new.self) within sector c.write.ensures.elsewhere c.write.ensures.loosened in
    counts_now new (moment old) image c.write.ensures.time.later torn

pub returns-clause-torn : goal.returns-clause-torn
returns-clause-torn g c bytes within sector =
    let law = g.met.D.SectorDisk in
    let old : DiskState = g.D.SectorDisk.state c.args.disk.now in
    let mid : DiskState = g.D.SectorDisk.state c.write.new.self in
    let image : List (List ℕ) = set old.reads c.args.n bytes in
    let torn : MayLeave mid.reads mid.dirty image = torn_left c.args.n bytes old.reads mid.reads old.dirty mid.dirty (law.sound c.args.disk.now) (law.sound c.write.new.self) within sector c.write.ensures.elsewhere c.write.ensures.loosened in
    still_left old mid (g.D.SectorDisk.state c.sync.new.self) c.write.ensures.time c.sync.ensures.time image torn
