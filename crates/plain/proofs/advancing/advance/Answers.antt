use Rattle.std.proofs.Common.{◌∙◌, ℕ, ap, arith, inl, inr, length, subst, sym, ⊎_elim}
use Rattle.std.proofs.lemmas.List.{length-append}
use Rattle.model.specs.Runner.{IsIdle}
use Rattle.model.specs.World.{IsUpto, World}
use Rattle.plain.specs.Going.{IsOn}
use Rattle.plain.proofs.Ways.{least-after, least-none, least-same, log-longer, logged_more, still_world, went_further}
use Rattle.plain.proofs.advancing.advance.Goals as goal

pub is_more-requires : goal.is_more-requires
is_more-requires g c =
    let l = log-longer (g.M.Model.meaning c.args.model.now) c.args.world.now.end c.args.world.now.world c.ticks.world.world c.ticks.invariant.on in
    omega (arith, l, c.ticks.invariant.before)

pub ticks-preserved : goal.ticks-preserved
ticks-preserved g c =
    let m = g.M.Model.meaning c.args.model.now in
    let start = c.args.world.now in
    let old = c.ticks.world in
    let new = c.run_tick.new.world in
    let was = c.ticks.invariant in
    let on = subst (λ (e : ℕ). IsOn m e old.world new.world) was.end c.in_ok-run_tick.ensures.on in
    let upto = λ (u : IsUpto m start.end start.world.time start.world).
    subst (λ (e : ℕ). IsUpto m e old.world.time old.world → IsUpto m e new.world.time new.world) was.end c.in_ok-run_tick.ensures.upto (was.upto u) in
    record {
      before = was.before;
      end = c.run_tick.ensures.end ∙ was.end;
      lps = c.run_tick.ensures.lps ∙ was.lps;
      on = went_further m start.end start.world old.world new.world was.on on;
      upto = upto;
      moved = inr (
        omega (arith, was.on.later, c.in_ok-run_tick.ensures.later),
        λ u.
            let tick = c.in_ok-run_tick.ensures.tick in
            least-after m start.end c.args.every start.world old.world new.world tick.0 tick.1 tick.2 tick.3 (omega (arith, was.before, (c.is_more.ensures.more c.ticks-test.true).0)) (was.upto u) (upto u),
      );
    }

pub returns-clause-advanced : goal.returns-clause-advanced
returns-clause-advanced g c =
    let m = g.M.Model.meaning c.args.model.now in
    let start = c.args.world.now in
    let old = c.ticks.world in
    let new = c.finish.new.world in
    let was = c.ticks.invariant in
    let on = subst (λ (e : ℕ). IsOn m e old.world new.world) was.end c.in_ok-finish.ensures.on in
    let more = logged_more m start.end start.world new.world (went_further m start.end start.world old.world new.world was.on on) in
    let count = ap length more.1 ∙ length-append start.world.log more.0 in
    let end_is = c.finish.ensures.end ∙ was.end in
    let log = c.in_ok-finish.ensures.log in
    let enough = c.is_more.ensures.enough c.ticks-test.false in (
      more.0,
      record {
        end_is = end_is;
        log = more.1;
        enough = ⊎_elim (λ enough. inl (omega (arith, enough, count, was.before, ap length log)))
            (λ idle. inr (c.in_ok-finish.ensures.end_reached idle ∙ sym c.finish.ensures.end)) enough;
        later = ⊎_elim
            (λ same. ⊎_elim
            (λ enough. absurd (let e = ap (λ (w : World). length w.log) same in omega (arith, enough, e, was.before)))
            (λ idle. let t = c.in_ok-finish.ensures.end_reached idle in omega (arith, t, was.end, c.requires.early)) enough)
            (λ moved. omega (arith, moved.0, on.later)) was.moved;
        within = omega (arith, on.within, end_is);
        left = on.left;
      },
    )

pub returns-clause-upto : goal.returns-clause-upto
returns-clause-upto g c = λ u.
    let m = g.M.Model.meaning c.args.model.now in
    let start = c.args.world.now in
    let old = c.ticks.world in
    let new = c.finish.new.world in
    let was = c.ticks.invariant in
    let upto = subst (λ (e : ℕ). IsUpto m e old.world.time old.world → IsUpto m e new.world.time new.world) was.end c.in_ok-finish.ensures.upto (was.upto u) in
    let log = c.in_ok-finish.ensures.log in (
      upto,
      ⊎_elim
          (λ same. ⊎_elim
          (λ enough. absurd (let e = ap (λ (w : World). length w.log) same in omega (arith, enough, e, was.before)))
          (λ idle. least-none m start.end c.args.every start.world new.world c.requires.early
          (subst (λ (w : World). IsIdle start.end w) same (subst (λ (e : ℕ). IsIdle e old.world) was.end idle))
          (c.in_ok-finish.ensures.end_reached idle ∙ was.end) (log ∙ ap (λ (w : World). w.log) same) u upto)
          (c.is_more.ensures.enough c.ticks-test.false))
          (λ moved. least-same m start.end c.args.every start.world old.world new.world log (moved.1 u)) was.moved,
    )

pub returns-clause-world : goal.returns-clause-world
returns-clause-world g c = λ is short.
    let m = g.M.Model.meaning c.args.model.now in
    let start = c.args.world.now in
    let old = c.ticks.world in
    let new = c.finish.new.world in
    let was = c.ticks.invariant in
    let on = subst (λ (e : ℕ). IsOn m e old.world new.world) was.end c.in_ok-finish.ensures.on in
    still_world m start.end start.world new.world (g.met.M.Model.lawful c.args.model.now) short is (went_further m start.end start.world old.world new.world was.on on)
