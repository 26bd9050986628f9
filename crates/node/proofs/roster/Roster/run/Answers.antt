use Rattle.std.proofs.Common.{◌∙◌, ◌+◌, Err, ap, sym, arith, inl, inr}
use Rattle.std.proofs.lemmas.Result.{err_from_is_err_and}
use Rattle.node.proofs.Runs.{begun_more, lacks_at_first, not_idle, run_fails, run_goes_on, run_stops, same_err}
use Rattle.node.specs.Roster.{place_of, work_of}
use Rattle.node.proofs.roster.Roster.run.Goals as goal

pub returns-in_default-clause-work : goal.returns-in_default-clause-work
returns-in_default-clause-work g c =
    run_stops (g.M.Model.meaning c.args.model.now) (place_of c.loop-ran.self) (place_of c.args.self.now) c.loop-ran.self.processes.items c.loop-ran.self.summaries c.loop-ran.invariant.place c.loop-ran.invariant.ready c.args.budget c.loop-ran.ran c.loop-ran.out.items _
    (sym c.next.ensures ∙ c.in_default.is) c.loop-ran.invariant.work

pub returns-in_err-run_one-clause-causes : goal.returns-in_err-run_one-clause-causes
returns-in_err-run_one-clause-causes g c =
    let p = err_from_is_err_and c.from_residual.result c.from_residual.ensures.1 in
    rw (p.1, p.2) (elim (c.in_err-run_one.ensures.causes c.loop-ran.ran) [
      | inl e ↦ inl e
      | inr e ↦ inr (
        e.0,
        run_fails (g.M.Model.meaning c.args.model.now) (place_of c.loop-ran.self) (place_of c.args.self.now) c.loop-ran.self.processes.items c.loop-ran.self.summaries c.loop-ran.invariant.place c.loop-ran.invariant.ready c.args.budget c.loop-ran.ran c.loop-ran.out.items _
            c.in-Some.message c.loop-ran-test.true (sym c.next.ensures ∙ c.in-Some.is) e.1 c.loop-ran.invariant.work,
      )
    ])

pub loop-ran-preserved : goal.loop-ran-preserved
loop-ran-preserved g c = record {
  ready = c.in_ok-run_one.ensures.ready;
  modelled = λ modelled. c.in_ok-run_one.ensures.modelled (c.loop-ran.invariant.modelled modelled);
  place = c.in_ok-run_one.ensures.place ∙ c.loop-ran.invariant.place;
  begun =
      begun_more (g.M.Model.meaning c.args.model.now) (place_of c.loop-ran.self) (place_of c.args.self.now) c.loop-ran.self.processes.items c.loop-ran.self.summaries c.loop-ran.invariant.place c.loop-ran.invariant.ready c.loop-ran.ran c.loop-ran.out.items _
      c.loop-ran.invariant.begun c.in-Some.message (work_of c.run_one.new.self c.run_one.new.out.items (c.loop-ran.ran + 1)) (sym c.next.ensures ∙ c.in-Some.is) (c.in_ok-run_one.ensures.room c.loop-ran.ran);
  work =
      run_goes_on (g.M.Model.meaning c.args.model.now) (place_of c.loop-ran.self) (place_of c.args.self.now) c.loop-ran.self.processes.items c.loop-ran.self.summaries c.loop-ran.invariant.place c.loop-ran.invariant.ready c.args.budget c.loop-ran.ran c.loop-ran.out.items _
      c.in-Some.message (work_of c.run_one.new.self c.run_one.new.out.items (c.loop-ran.ran + 1)) c.loop-ran-test.true (sym c.next.ensures ∙ c.in-Some.is) (c.in_ok-run_one.ensures.room c.loop-ran.ran) (c.in_ok-run_one.ensures.work c.loop-ran.ran) c.loop-ran.invariant.work;
}

pub returns-in_default-clause-limit : goal.returns-in_default-clause-limit
returns-in_default-clause-limit g c some none =
    absurd (not_idle (g.M.Model.meaning c.args.model.now) (place_of c.loop-ran.self) (place_of c.args.self.now) c.loop-ran.self.processes.items c.loop-ran.self.summaries c.loop-ran.invariant.place c.loop-ran.invariant.ready c.loop-ran.ran c.loop-ran.out.items _
    c.loop-ran.invariant.begun (sym c.next.ensures ∙ c.in_default.is) none)

pub returns-in_err-run_one-clause-limit : goal.returns-in_err-run_one-clause-limit
returns-in_err-run_one-clause-limit g c some none =
    let lacks = lacks_at_first (g.M.Model.meaning c.args.model.now) (place_of c.loop-ran.self) (place_of c.args.self.now) c.loop-ran.self.processes.items c.loop-ran.self.summaries c.loop-ran.invariant.place c.loop-ran.invariant.ready c.loop-ran.ran c.loop-ran.out.items _
    c.loop-ran.invariant.begun c.in-Some.message (sym c.next.ensures ∙ c.in-Some.is) none in
    let limit = c.in_err-run_one.ensures.limit c.loop-ran.ran lacks in
    let p = err_from_is_err_and c.from_residual.result c.from_residual.ensures.1 in
    rw (p.1, p.2) (ap Err (same_err limit))

pub returns-clause-limit : goal.returns-clause-limit
returns-clause-limit g c some none = absurd (c.loop-ran.invariant.begun.room (omega arith) none)
