use Rattle.std.proofs.Common.{◌≡◌, ◌∙◌, length, min, refl, subst, sym}
use Rattle.pictures.specs.Load.{AreCells}
use Rattle.pictures.specs.Run.{IsRunOf, Run, left_at}
use Rattle.pictures.proofs.Traces.{length-opening}
use Rattle.pictures.proofs.loads.load_of.Goals as goal

pub returns-clause-load : goal.returns-clause-load
returns-clause-load g c =
    let m = g.M.Model.meaning c.args.model.now in
    let (part, is, cells) = c.in_ok-cells.ensures.cells in
    let r : Run = left_at (min c.args.to c.args.end) part in
    let processes : c.lps-processes.result ≡ length r.first = c.lps-processes.ensures ∙ sym (length-opening m (g.met.M.Model.lawful c.args.model.now) r.first is.first) in (
      r,
      record { part = part; part_is = subst (λ n. IsRunOf m c.args.end n part) c.min.ensures is; is = refl },
      record {
        time = c.min-time.ensures;
        processes = processes;
        view = refl;
        cells = subst (λ f. AreCells f part.events c.in_ok-cells.cells.items) (c.framed-frame.ensures.frame r c.min-time.ensures (c.from.ensures ∙ processes)) cells;
      },
    )
