use Rattle.std.proofs.Common.{◌≡◌, ◌∙◌, ap, arith, filter, length, min, refl, subst, sym}
use Rattle.pictures.specs.Drawing.{AreMarks, drawn_frame, first_shown, frame_of, sendings}
use Rattle.pictures.specs.Run.{IsRunOf, Run, is_from, left_at}
use Rattle.pictures.specs.declared.drawn.Frame.{Frame}
use Rattle.pictures.proofs.Marked.{kept_enough}
use Rattle.pictures.proofs.Traces.{length-opening}
use Rattle.pictures.proofs.diagrams.diagram_of.Goals as goal

pub returns-then-len-first-clause-diagram : goal.returns-then-len-first-clause-diagram
returns-then-len-first-clause-diagram g c =
    let m = g.M.Model.meaning c.args.model.now in
    let (part, is, marks, pending) = rw c.in-Some.is at c.in_ok-marks.ensures.marks in
    let time = c.min-time.ensures in
    let r : Run = left_at (min c.args.to c.args.end) part in
    let v = c.args.view.now in
    let first = c.as_slice-first.ensures.value in
    let processes : c.lps-processes.result ≡ length r.first = c.lps-processes.ensures ∙ sym (length-opening m (g.met.M.Model.lawful c.args.model.now) r.first is.first) in
    let kept : AreMarks (frame_of r v) (frame_of r v).to (sendings r r.events) c.in-Some.marks = subst (λ (f : Frame). AreMarks f f.to (sendings r r.events) c.in-Some.marks) (c.framed-frame.ensures.frame r time (c.from.ensures ∙ processes)) marks in
    let drawn : Frame = drawn_frame r v in
    let events = c.in_ok-diagram.ensures.events r time processes kept ∙ ap (first_shown drawn drawn.to) first in
    let long : length (first_shown drawn drawn.to c.in-Some.marks.first.items) ≡ length c.in-Some.marks.first.items = omega (arith, ap length events, ap length first, c.len.ensures, c.if-len-first.true) in (
      r,
      record { part = part; part_is = subst (λ n. IsRunOf m c.args.end n part) c.min.ensures is; is = refl },
      c.in_ok-diagram.ensures.diagram r time processes kept
          (c.as_slice.ensures.value ∙ pending ∙ ap (λ t. sendings part (filter (is_from t) part.pending)) time)
          (events ∙ kept_enough r v c.in-Some.marks.first.items kept.first long),
    )
