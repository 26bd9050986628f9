use Rattle.bench.proofs.Loads.{loaded_lps}
use Rattle.bench.proofs.whole_node.loaded.Goals as goal

pub returns : goal.returns
returns g c = record { lps = loaded_lps _ _ _ c.load.ensures.loaded }
