use Rattle.std.proofs.Common.{ap, ◌≡◌, ◌∙◌}
use Rattle.std.specs.Prelude.{is_some}
use Rattle.disk.specs.FileDisks.{disk_of_file}
use Rattle.program.specs.Attempts.{nodes_of, trusts_nodes}
use Rattle.program.specs.Command.{IsRanBy, IsStoppedBy}
use Rattle.program.proofs.Calls.{run_tried}
use Rattle.program.proofs.Printed.{ended_begun, ended_printed, tried_begun}
use Rattle.program.proofs.running.run_with.Goals as goal

pub returns-clause-ok : goal.returns-clause-ok
returns-clause-ok g c =
    let tried = run_tried g.M.Model.meaning g.M.Described.says c.in_ok-read.read.text.items c.in_ok-read.read.of.model c.in_ok-read.read.of.end c.in_ok-read.ensures.file (trusts_nodes c.args.args) (nodes_of c.args.args) (disk_of_file c.of-begun.result.disk) (disk_of_file c.in_ok-ended.ended.disk)
    c.in_ok-ended.ended.outcome (c.run_attempts.new.out ≡ c.args.out.now) (g.O.Write.contents c.args.out.now) (g.O.Write.contents c.run_attempts.new.out) c.in_ok-ended.ensures.run in
    ended_printed (IsRanBy g.M.Model.meaning g.M.Described.says c.args.args) (IsStoppedBy g.M.Model.meaning g.M.Described.says c.args.args) _ _ _ c.in_ok-ended.ended.outcome c.end_run.result (is_some c.args.args.stop_file)
    tried.printed
    (λ f e n. ap g.O.Write.contents (tried.unwritten f e n))
    tried.stopped
    c.end_run.ensures.ok

pub returns-clause-err : goal.returns-clause-err
returns-clause-err g c =
    let tried = run_tried g.M.Model.meaning g.M.Described.says c.in_ok-read.read.text.items c.in_ok-read.read.of.model c.in_ok-read.read.of.end c.in_ok-read.ensures.file (trusts_nodes c.args.args) (nodes_of c.args.args) (disk_of_file c.of-begun.result.disk) (disk_of_file c.in_ok-ended.ended.disk)
    c.in_ok-ended.ended.outcome (c.run_attempts.new.out ≡ c.args.out.now) (g.O.Write.contents c.args.out.now) (g.O.Write.contents c.run_attempts.new.out) c.in_ok-ended.ensures.run in
    ended_begun (IsRanBy g.M.Model.meaning g.M.Described.says c.args.args) (IsStoppedBy g.M.Model.meaning g.M.Described.says c.args.args) _ _ _ c.in_ok-ended.ended.outcome c.end_run.result (is_some c.args.args.stop_file) (c.end_run.new.out ≡ c.run_attempts.new.out) (c.end_run.new.out ≡ c.args.out.now)
    tried.output
    (λ f e n. ap g.O.Write.contents (tried.unwritten f e n))
    tried.stopped
    (λ same. ap g.O.Write.contents same)
    (λ f e n same. same ∙ tried.unwritten f e n)
    c.end_run.ensures.err

-- the disk has lost its name, after all of the output is printed or nothing
pub returns-then-is_renamed-clause-err : goal.returns-then-is_renamed-clause-err
returns-then-is_renamed-clause-err g c =
    let tried = run_tried g.M.Model.meaning g.M.Described.says c.in_ok-read.read.text.items c.in_ok-read.read.of.model c.in_ok-read.read.of.end c.in_ok-read.ensures.file (trusts_nodes c.args.args) (nodes_of c.args.args) (disk_of_file c.of-begun.result.disk) (disk_of_file c.in_ok-ended.ended.disk)
    c.in_ok-ended.ended.outcome (c.run_attempts.new.out ≡ c.args.out.now) (g.O.Write.contents c.args.out.now) (g.O.Write.contents c.run_attempts.new.out) c.in_ok-ended.ensures.run in
    tried_begun (IsRanBy g.M.Model.meaning g.M.Described.says c.args.args) (IsStoppedBy g.M.Model.meaning g.M.Described.says c.args.args) (is_some c.args.args.stop_file) _ _ _ c.in_ok-ended.ended.outcome tried.printed tried.output tried.unwritten

-- its full disk was not archived
pub returns-in-Some-clause-err : goal.returns-in-Some-clause-err
returns-in-Some-clause-err g c =
    let tried = run_tried g.M.Model.meaning g.M.Described.says c.in_ok-read.read.text.items c.in_ok-read.read.of.model c.in_ok-read.read.of.end c.in_ok-read.ensures.file (trusts_nodes c.args.args) (nodes_of c.args.args) (disk_of_file c.of-begun.result.disk) (disk_of_file c.in_ok-ended.ended.disk)
    c.in_ok-ended.ended.outcome (c.run_attempts.new.out ≡ c.args.out.now) (g.O.Write.contents c.args.out.now) (g.O.Write.contents c.run_attempts.new.out) c.in_ok-ended.ensures.run in
    tried_begun (IsRanBy g.M.Model.meaning g.M.Described.says c.args.args) (IsStoppedBy g.M.Model.meaning g.M.Described.says c.args.args) (is_some c.args.args.stop_file) _ _ _ c.in_ok-ended.ended.outcome tried.printed tried.output tried.unwritten
