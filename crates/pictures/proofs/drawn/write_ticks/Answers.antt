use Rattle.std.proofs.Common.{ℕ, List, ◌<◌, ◌≤◌, arith, drop, flat_map, ◌+◌, ◌-◌, ◌*◌}
use Rattle.eventkey.proofs.Writers.{writes_broken, writes_end, written_next}
use Rattle.model.specs.World.{below}
use Rattle.pictures.specs.Drawing.{first_tick, step_of, tick_count, tick_text}
use Rattle.pictures.proofs.Frames.{below-done, below-next, first_low}
use Rattle.pictures.proofs.drawn.write_ticks.Goals as goal

pub overflow_sub-count : goal.overflow_sub-count
overflow_sub-count g c =
    let low = first_low (c.args.frame.now.from + c.step-step.result - 1) c.step-step.result c.step-step.ensures.some in
    omega (arith, low, c.requires.order, c.step-step.ensures.some)

pub returns-in_err-write_tick : goal.returns-in_err-write_tick
returns-in_err-write_tick g c =
    let f : ℕ → List ℕ = λ k. tick_text c.args.frame.now (first_tick c.args.frame.now + k * step_of c.args.frame.now) in
    let n = tick_count c.args.frame.now in
    let l : c.loop-place.place < n = rw c.step-step.ensures.step at c.loop-place-test.true in
    writes_broken (flat_map f (drop (c.loop-place.place + 1) (below n))) c.from_residual.result c.loop-place.invariant (below-next f n c.loop-place.place l)
    (rw c.step-step.ensures.step at c.write_tick.ensures) c.in_err-write_tick.was c.from_residual.ensures.0

pub loop-place-preserved : goal.loop-place-preserved
loop-place-preserved g c =
    let f : ℕ → List ℕ = λ k. tick_text c.args.frame.now (first_tick c.args.frame.now + k * step_of c.args.frame.now) in
    let n = tick_count c.args.frame.now in
    let l : c.loop-place.place < n = rw c.step-step.ensures.step at c.loop-place-test.true in
    written_next (flat_map f (drop (c.loop-place.place + 1) (below n))) c.loop-place.invariant (below-next f n c.loop-place.place l)
    (rw c.step-step.ensures.step at c.write_tick.ensures) c.in_ok-write_tick.was

pub returns : goal.returns
returns g c =
    let f : ℕ → List ℕ = λ k. tick_text c.args.frame.now (first_tick c.args.frame.now + k * step_of c.args.frame.now) in
    let l : tick_count c.args.frame.now ≤ c.loop-place.place = rw c.step-step.ensures.step at c.loop-place-test.false in
    writes_end tt (below-done f (tick_count c.args.frame.now) c.loop-place.place l) c.loop-place.invariant
