use Rattle.std.proofs.Common.{◌+◌, ◌∙◌, ap, arith}
use Rattle.model.proofs.Runs.{read_any}
use Rattle.pictures.proofs.Cells.{cell_fits, cells_inside}
use Rattle.pictures.proofs.loads.add_event.Goals as goal

pub returns-then-place-len : goal.returns-then-place-len
returns-then-place-len c = λ events are. absurd (omega (arith, are.long, cell_fits c.args.frame.now c.args.event.now c.in-Some.place c.in-Some.ensures.inside))

pub returns : goal.returns
returns c = λ events are.
    let cells = c.args.cells.now.items in
    cells_inside c.args.frame.now events c.args.event.now cells c.in-Some.place c.in_ok-cells.field-0 c.in-Some.ensures.inside (c.in_ok-cells.ensures ∙ ap (λ k. k + 1) (read_any cells c.in-Some.place c.index.result.now 0 (omega arith) c.index.ensures)) are
