use Rattle.std.proofs.Common.{◌+◌, ◌*◌, drop, flat_map}
use Rattle.eventkey.proofs.Writers.{HasWritten}
use Rattle.model.specs.World.{below}
use Rattle.pictures.specs.Drawing.{first_tick, step_of, tick_count, tick_text, ticks_text}
use Rattle.pictures.proofs.drawn.write_ticks.Given as goal

abbrev pub invariant-loop-place : goal.invariant-loop-place
invariant-loop-place g l =
    HasWritten (g.W.Write.contents l.initial.out) (g.W.Write.contents l.out)
    (ticks_text l.frame) (flat_map (λ k. tick_text l.frame (first_tick l.frame + k * step_of l.frame)) (drop l.place (below (tick_count l.frame))))
