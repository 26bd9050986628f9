use Rattle.frames.proofs.Whole.{load_in_range}
use Rattle.frames.proofs.reading.read_load.Goals as goal

pub returns-clause-range : goal.returns-clause-range
returns-clause-range c = load_in_range c.args.bytes.now c.read_whole_load.result c.read_whole_load.ensures.bytes c.read_whole_load.ensures.read
