use Rattle.model.proofs.Steps.{upto_is_reached_from}
use Rattle.model.proofs.Worlds.{upto_goes_on, upto_is_one}
use Rattle.model.proofs.laws.law_of_sequential_simulation.Goals as goal

pub returns-clause-one : goal.returns-clause-one
returns-clause-one c = upto_is_one

pub returns-clause-goes_on : goal.returns-clause-goes_on
returns-clause-goes_on c = upto_goes_on

pub returns-clause-reached : goal.returns-clause-reached
returns-clause-reached c = upto_is_reached_from
