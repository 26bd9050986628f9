use Rattle.std.proofs.Common.{◌≡◌}
use Rattle.disk.specs.FileDisks.{disk_of_file}
use Rattle.model.specs.Meaning.{CanBegin}
use Rattle.program.specs.Attempts.{HasCome, trusts_nodes}
use Rattle.program.proofs.attempts.run_attempts.Given as goal

-- no attempt has printed anything after which the run goes on, and the calls so far have led to the disk
abbrev pub invariant-attempts : goal.invariant-attempts
invariant-attempts g l = (l.out ≡ l.fn.out) × CanBegin (g.M.Model.meaning l.of.model).lps l.origin
    × HasCome (trusts_nodes l.fn.args) (g.M.Model.meaning l.of.model) l.of.end (disk_of_file l.fn.begun.disk) l.origin (disk_of_file l.disk)
