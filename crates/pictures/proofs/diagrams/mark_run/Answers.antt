use Rattle.std.specs.Prelude.{Ok}
use Rattle.std.proofs.Common.{◌∙◌, ap, arith, drop, filter, length, min, refl, subst, sym}
use Rattle.model.specs.Runner.{IsIdle}
use Rattle.pictures.specs.Drawing.{sendings}
use Rattle.pictures.specs.Run.{is_from}
use Rattle.pictures.proofs.Marked.{marked_fits, marked_forgotten, marked_open, marked_run, marked_step}
use Rattle.pictures.proofs.Running.{went_below}
use Rattle.pictures.proofs.diagrams.mark_run.Goals.{then-log-room+in_ok-short, else-log-room}
use Rattle.pictures.proofs.diagrams.mark_run.Goals as goal

pub loop-init : goal.loop-init
loop-init g c = record {
  marked = marked_open (g.M.Model.meaning c.args.model.now) (min c.args.to c.args.end) c.args.frame.now c.args.end c.in_ok-world.world c.in_ok-senders.senders.items c.no_marks-marks.result c.numbers.result.now c.in_ok-world.ensures.ok c.numbers.ensures c.in_ok-senders.ensures.senders c.in_ok-senders.ensures.found (c.no_marks-marks.ensures c.args.frame.now c.args.frame.now.to);
  end = ap (λ s. s.end) c.in_ok-world.ensures.ok;
  lps = c.in_ok-world.ensures.lps;
}

pub returns-in_default-clause-marks : goal.returns-in_default-clause-marks
returns-in_default-clause-marks g c =
    let m = g.M.Model.meaning c.args.model.now in
    let idle = subst (λ n. IsIdle n c.loop.world.world) c.min-bound.ensures (c.in_default.ensures.none refl) in
    let (r, is, marks, pending, are, have) = marked_run m c.args.end c.args.to c.args.frame.now c.loop.world.world c.loop.senders.items c.loop.marks c.loop.invariant.marked idle in
    let late = rw c.as_slice.ensures.value at c.in_ok-pending.ensures in
    (r, is, marks, late r are have ∙ ap (λ xs. sendings r (filter (is_from c.args.left) xs)) (sym pending))

pub mark_event-requires-clause-numbers : goal.mark_event-requires-clause-numbers
mark_event-requires-clause-numbers g c =
    let m = g.M.Model.meaning c.args.model.now in
    let b = min c.args.to c.args.end in
    let s = c.loop.world in
    let v = c.step.new.self.world in
    let x = c.in-Some.event in
    let some = c.in-Some.ensures.some in
    let e = went_below m b c.min-bound.result s v x c.in_ok-step.field-0 c.min-bound.ensures (omega (arith, c.loop.invariant.end)) some c.in_ok-step.ensures.handled c.in_ok-step.ensures.idle in
    let fits = marked_fits m b c.args.frame.now s.world v c.loop.senders.items c.loop.marks x (drop 1 s.world.pending) c.numbers-in-loop.result.now (g.met.M.Model.lawful c.args.model.now) (omega (arith, c.requires.end)) c.loop.invariant.marked some.0 e c.numbers-in-loop.ensures in
    fits.0

pub mark_event-requires-clause-senders : goal.mark_event-requires-clause-senders
mark_event-requires-clause-senders g c =
    let m = g.M.Model.meaning c.args.model.now in
    let b = min c.args.to c.args.end in
    let s = c.loop.world in
    let v = c.step.new.self.world in
    let x = c.in-Some.event in
    let some = c.in-Some.ensures.some in
    let e = went_below m b c.min-bound.result s v x c.in_ok-step.field-0 c.min-bound.ensures (omega (arith, c.loop.invariant.end)) some c.in_ok-step.ensures.handled c.in_ok-step.ensures.idle in
    let fits = marked_fits m b c.args.frame.now s.world v c.loop.senders.items c.loop.marks x (drop 1 s.world.pending) c.numbers-in-loop.result.now (g.met.M.Model.lawful c.args.model.now) (omega (arith, c.requires.end)) c.loop.invariant.marked some.0 e c.numbers-in-loop.ensures in
    fits.1

pub loop-preserved : goal.loop-preserved
loop-preserved g c =
    let m = g.M.Model.meaning c.args.model.now in
    let b = min c.args.to c.args.end in
    let s = c.loop.world in
    let v = c.step.new.self.world in
    let x = c.in-Some.event in
    let some = c.in-Some.ensures.some in
    let e = went_below m b c.min-bound.result s v x c.in_ok-step.field-0 c.min-bound.ensures (omega (arith, c.loop.invariant.end)) some c.in_ok-step.ensures.handled c.in_ok-step.ensures.idle in
    let times = c.in_ok-mark_event.ensures.senders in
    let known = c.in_ok-mark_event.ensures.marks (ap Ok c.if-not-branch.false) in
    let marked = marked_step m b c.args.frame.now s.world v x (drop 1 s.world.pending) c.loop.senders.items c.mark_event.new.senders.items c.loop.marks c.mark_event.new.marks c.numbers-in-loop.result.now (g.met.M.Model.lawful c.args.model.now) (omega (arith, c.requires.end)) c.loop.invariant.marked some.0 e c.numbers-in-loop.ensures
    times known in
    let lps = c.in_ok-step.ensures.lps ∙ c.loop.invariant.lps in
    elim c.if-log-room.branch [
      | then-log-room+in_ok-short t ↦
          let is = t.in_ok-short.ensures in
          rw (t.world-is, t.senders-is) (record {
            marked = marked_forgotten m b c.args.frame.now c.args.end v t.in_ok-short.short c.mark_event.new.senders.items t.forget_times.new.senders.items c.mark_event.new.marks marked is.world (λ r are have. is.senders r are have tt) (λ r are have. is.pending r are have tt);
            end = ap (λ u. u.end) is.world;
            lps = ap (λ u. length u.world.states) is.world ∙ lps;
          })
      | else-log-room t ↦ rw (t.world-is, t.senders-is) (record {
        marked = marked;
        end = c.in_ok-step.ensures.end ∙ c.loop.invariant.end;
        lps = lps;
      })
    ]
