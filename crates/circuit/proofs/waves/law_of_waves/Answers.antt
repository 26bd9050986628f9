use Rattle.circuit.proofs.Continuing.{wave_of_part}
use Rattle.circuit.proofs.waves.law_of_waves.Goals as goal

pub returns : goal.returns
returns c = wave_of_part
