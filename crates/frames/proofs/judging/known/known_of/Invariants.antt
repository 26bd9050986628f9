use Rattle.std.proofs.Common.{◌≡◌, map, take}
use Rattle.frames.specs.Judging.{loaded_known}
use Rattle.frames.proofs.judging.known.known_of.Given as goal

abbrev pub invariant-parts : goal.invariant-parts
invariant-parts l = l.known.items ≡ map (loaded_known l.every) (take l.part-index l.parts)
