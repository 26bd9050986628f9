use Rattle.std.specs.List.{AllByRecursion as Every}
use Rattle.std.proofs.Common.{◌∙◌, ap, length, map, subst, sym}
use Rattle.model.specs.Meaning.{IsAddressed}
use Rattle.model.specs.Runner.{Simulation}
use Rattle.pictures.specs.Inside.{IsWholeRun}
use Rattle.pictures.specs.Run.{Run, sends_of}
use Rattle.pictures.proofs.Traces.{length-opening, length-sends_of, run_addressed, run_early, run_reached, run_whole}
use Rattle.pictures.proofs.traced.trace_of.Given as given
use Rattle.pictures.proofs.traced.trace_of.Goals as goal

pub sends_of-requires-clause-log : goal.sends_of-requires-clause-log
sends_of-requires-clause-log g c =
    let m = g.M.Model.meaning c.args.model.now in
    run_addressed m c.run_to.new.self.world c.as_slice.result.now
    (run_reached m c.args.end c.args.to c.in_ok-world.world c.run_to.new.self.world (g.met.M.Model.lawful c.args.model.now) c.requires.end c.in_ok-world.ensures.ok c.in_ok-run_to.ensures.sequential)
    (c.as_slice.ensures.value ∙ c.into_parts-time.ensures.log)

pub times_of-requires-clause-sends : goal.times_of-requires-clause-sends
times_of-requires-clause-sends g c =
    let m = g.M.Model.meaning c.args.model.now in
    ap length (c.as_slice-4.ensures.value ∙ c.in_ok-sends.ensures)
    ∙ length-sends_of m (map (λ s. s.items) c.in_ok-states.states.items) c.as_slice.result.now
    ∙ ap length (c.as_slice.ensures.value ∙ sym c.as_slice-3.ensures.value)

pub times_of-requires-clause-events : goal.times_of-requires-clause-events
times_of-requires-clause-events g c =
    let m = g.M.Model.meaning c.args.model.now in
    let lps = length-opening m (g.met.M.Model.lawful c.args.model.now) c.as_slice-2.result.now (c.as_slice-2.ensures.value ∙ c.in_ok-states.ensures.numbers ∙ ap (λ (s : Simulation). s.world.numbers) c.in_ok-world.ensures.ok) in
    subst (λ n. Every (IsAddressed n) c.as_slice-3.result.now) (sym lps)
    (run_addressed m c.run_to.new.self.world c.as_slice-3.result.now
    (run_reached m c.args.end c.args.to c.in_ok-world.world c.run_to.new.self.world (g.met.M.Model.lawful c.args.model.now) c.requires.end c.in_ok-world.ensures.ok c.in_ok-run_to.ensures.sequential)
    (c.as_slice-3.ensures.value ∙ c.into_parts-time.ensures.log))

-- the run that the code returns
abbrev run_at : (g : given.Over) → goal.In_ok-times g → Run
run_at g c = record {
  time = c.into_parts-time.result.time;
  first = c.in_ok-states.first.items;
  events = c.into_parts-time.result.log.items;
  sends = c.in_ok-sends.sends.items;
  pending = c.into_parts-time.result.pending.items;
}

whole : (g : given.Over) (c : goal.In_ok-times g) → IsWholeRun (run_at g c)
whole g c =
    let m = g.M.Model.meaning c.args.model.now in
    let law = g.met.M.Model.lawful c.args.model.now in
    run_whole m c.run_to.new.self.world (run_at g c) law
    (run_reached m c.args.end c.args.to c.in_ok-world.world c.run_to.new.self.world law c.requires.end c.in_ok-world.ensures.ok c.in_ok-run_to.ensures.sequential)
    (run_early m c.args.end c.args.to c.into_parts-time.result.time c.in_ok-world.world c.run_to.new.self.world c.requires.end c.in_ok-world.ensures.ok c.into_parts-time.ensures.time c.in_ok-run_to.ensures.sequential)
    c.into_parts-time.ensures.log c.into_parts-time.ensures.pending (c.in_ok-states.ensures.numbers ∙ ap (λ (s : Simulation). s.world.numbers) c.in_ok-world.ensures.ok) (map (λ s. s.items) c.in_ok-states.states.items)
    (c.in_ok-sends.ensures ∙ ap (sends_of m (map (λ s. s.items) c.in_ok-states.states.items)) c.as_slice.ensures.value)

pub invariant_of-result : goal.invariant_of-result
invariant_of-result g c = record {
  whole = whole g c;
  times = rw (c.as_slice-2.ensures.value, c.as_slice-3.ensures.value, c.as_slice-4.ensures.value) at c.in_ok-times.ensures;
}

pub returns-clause-whole : goal.returns-clause-whole
returns-clause-whole g c = whole g c
