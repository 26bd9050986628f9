use Rattle.std.proofs.Common.{◌++◌, ◌∷◌, [], ◌∙◌, ap, arith, drop, length, min, refl, rules, subst, sym}
use Rattle.std.proofs.lemmas.Grind.{common_steps}
use Rattle.model.specs.Runner.{IsIdle, IsRun}
use Rattle.model.specs.World.{opening}
use Rattle.pictures.specs.Load.{AreCells}
use Rattle.pictures.specs.Stepping.{with_log}
use Rattle.pictures.proofs.Running.{passed_event, run_of_events, went_below}
use Rattle.pictures.proofs.loads.count_cells.Goals.{then-log-ge-EVENTS_KEPT+in_ok-world-2, else-log-ge-EVENTS_KEPT}
use Rattle.pictures.proofs.loads.count_cells.Goals as goal

pub loop-init : goal.loop-init
loop-init g c =
    let m = g.M.Model.meaning c.args.model.now in
    let b = min c.args.to c.args.end in
    let none : IsRun m b (opening m) (with_log [] (opening m)) = record { steps = 0; reached = refl } in
    record {
      counted = ([], subst (λ s. IsRun m b (opening m) (with_log [] s.world)) (sym c.in_ok-world.ensures.ok) none, record { long = first_of (omega (arith, c.in_ok-resize.ensures.len), search rules, grind (arith, common_steps)); each = λ row slice l few. first_of (search rules, grind (arith, common_steps)) });
      end = ap (λ s. s.end) c.in_ok-world.ensures.ok;
      lps = c.in_ok-world.ensures.lps;
    }

pub returns-in_default-clause-cells : goal.returns-in_default-clause-cells
returns-in_default-clause-cells g c =
    let m = g.M.Model.meaning c.args.model.now in
    let (events, passed, cells) = c.loop.invariant.counted in
    let idle = subst (λ n. IsIdle n c.loop.world.world) c.min-bound.ensures (c.in_default.ensures.none refl) in
    let (r, is, same) = run_of_events m c.args.end c.args.to events c.loop.world.world passed idle in
    (r, is, subst (λ es. AreCells c.args.frame.now es c.loop.cells.items) (sym same) cells)

pub loop-preserved : goal.loop-preserved
loop-preserved g c =
    let m = g.M.Model.meaning c.args.model.now in
    let b = min c.args.to c.args.end in
    let s = c.loop.world in
    let w = s.world in
    let v = c.step.new.self.world in
    let x = c.in-Some.event in
    let some = c.in-Some.ensures.some in
    let e = went_below m b c.min-bound.result s v x c.in_ok-step.field-0 c.min-bound.ensures (omega (arith, c.loop.invariant.end)) some c.in_ok-step.ensures.handled c.in_ok-step.ensures.idle in
    let (events, passed, cells) = c.loop.invariant.counted in
    let now : IsRun m b (opening m) (with_log (events ++ x ∷ []) v) = passed_event m b events w v x (drop 1 w.pending) passed some.0 e in
    let more = c.in_ok-add_event.ensures events cells in
    let lps = c.in_ok-step.ensures.lps ∙ c.loop.invariant.lps in
    elim c.if-log-ge-EVENTS_KEPT.branch [
      | then-log-ge-EVENTS_KEPT+in_ok-world-2 t ↦
          let is = t.in_ok-world-2.ensures.world in
          rw t.world-is (record {
            counted = (events ++ x ∷ [], subst (λ u. IsRun m b (opening m) (with_log (events ++ x ∷ []) u.world)) (sym is) now, more);
            end = ap (λ u. u.end) is;
            lps = ap (λ u. length u.world.states) is ∙ lps;
          })
      | else-log-ge-EVENTS_KEPT t ↦ rw t.world-is (record {
        counted = (events ++ x ∷ [], now, more);
        end = c.in_ok-step.ensures.end ∙ c.loop.invariant.end;
        lps = lps;
      })
    ]
