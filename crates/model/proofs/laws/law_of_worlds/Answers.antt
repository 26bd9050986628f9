use Rattle.model.proofs.Steps.{each_world_is_reached}
use Rattle.model.proofs.laws.law_of_worlds.Goals as goal

pub returns : goal.returns
returns c = each_world_is_reached
