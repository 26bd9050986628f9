use Rattle.std.proofs.Common.{arith}
use Rattle.disk.specs.FileDisks.{disk_of_file}
use Rattle.disk.specs.Laws.{looks_none}
use Rattle.disk_commands.proofs.repairing.refuse_used.Goals as goal

pub loop-number-init : goal.loop-number-init
loop-number-init c = record {
  looks = looks_none (disk_of_file c.args.disk.now);
  zeros = λ n from below. let none : ⊥ = omega (arith, from, below) in absurd none;
}
