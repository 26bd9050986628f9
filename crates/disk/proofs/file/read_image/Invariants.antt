use Rattle.std.proofs.Common.{◌≡◌, length}
use Rattle.disk.proofs.file.read_image.Given as goal

abbrev pub invariant-loop-n : goal.invariant-loop-n
invariant-loop-n g l = record {
  count : length l.image.sectors.items ≡ length l.fn.image.sectors.items;
  dirty : l.image.dirty.items ≡ l.fn.image.dirty.items;
}
