use Rattle.std.proofs.Common.{ℕ, List, ◌<◌, ◌≤◌, arith, ap, drop, flat_map, ◌+◌}
use Rattle.eventkey.proofs.Writers.{writes_as, writes_broken, writes_end, written_next}
use Rattle.model.specs.World.{below}
use Rattle.pictures.specs.Load.{cell_at, cell_text, slices_of}
use Rattle.pictures.proofs.Frames.{below-done, below-next}
use Rattle.pictures.proofs.loads.write_cells.Goals as goal

pub returns-in_err-write_cell : goal.returns-in_err-write_cell
returns-in_err-write_cell g c =
    let f : ℕ → List ℕ = λ s. cell_text c.args.frame.now c.args.most c.args.row s (cell_at c.args.cells.now c.args.row s) in
    let n = slices_of c.args.frame.now in
    let s = c.loop-slice.slice in
    let l : s < n = omega (arith, c.slices-slice-end.ensures.slices) in
    let count = c.cell.ensures in
    writes_broken (flat_map f (drop (s + 1) (below n))) c.from_residual.result c.loop-slice.invariant (below-next f n s l)
    (writes_as c.write_cell.ensures (ap (cell_text c.args.frame.now c.args.most c.args.row s) count)) c.in_err-write_cell.was c.from_residual.ensures.0

pub loop-slice-preserved : goal.loop-slice-preserved
loop-slice-preserved g c =
    let f : ℕ → List ℕ = λ s. cell_text c.args.frame.now c.args.most c.args.row s (cell_at c.args.cells.now c.args.row s) in
    let n = slices_of c.args.frame.now in
    let s = c.loop-slice.slice in
    let l : s < n = omega (arith, c.slices-slice-end.ensures.slices) in
    let count = c.cell.ensures in
    written_next (flat_map f (drop (s + 1) (below n))) c.loop-slice.invariant (below-next f n s l)
    (writes_as c.write_cell.ensures (ap (cell_text c.args.frame.now c.args.most c.args.row s) count)) c.in_ok-write_cell.was

pub returns : goal.returns
returns g c =
    let f : ℕ → List ℕ = λ s. cell_text c.args.frame.now c.args.most c.args.row s (cell_at c.args.cells.now c.args.row s) in
    let l : slices_of c.args.frame.now ≤ c.loop-slice.slice = omega (arith, c.slices-slice-end.ensures.slices) in
    writes_end tt (below-done f (slices_of c.args.frame.now) c.loop-slice.slice l) c.loop-slice.invariant
