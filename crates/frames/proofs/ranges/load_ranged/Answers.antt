use Rattle.frames.proofs.Counts.{load_fits}
use Rattle.frames.proofs.ranges.load_ranged.Goals as goal

pub returns : goal.returns
returns c = load_fits c.args.load.now (rw c.as_slice.ensures at c.parts_ranged.ensures)
