use Rattle.std.proofs.Common.{◌≡◌, ◌≤◌, ◌<◌, ℕ, [], replicate}
use Rattle.std.specs.Prelude.{slice_index_or}
use Rattle.disk.specs.Disk.{OnlyLooks}
use Rattle.disk.specs.FileDisks.{disk_of_file}
use Rattle.disk_commands.proofs.repairing.refuse_used.Given as goal

abbrev pub invariant-loop-number : goal.invariant-loop-number
invariant-loop-number l = record {
  looks : OnlyLooks (disk_of_file l.fn.disk) (disk_of_file l.disk);
  zeros : (n : ℕ) → 0 ≤ n → n < l.number → slice_index_or l.fn.disk.reads n [] ≡ replicate 512 0;
}
