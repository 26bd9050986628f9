use Rattle.std.proofs.Common.{◌∙◌, ap, arith, drop, length, min, subst}
use Rattle.model.specs.Runner.{IsRun}
use Rattle.pictures.proofs.Binned.{longer, tallied_forgotten, tallied_more, tallied_open}
use Rattle.pictures.proofs.histograms.tally_most.Goals as goal

pub loop-init : goal.loop-init
loop-init g c = record {
  tallied = tallied_open (g.M.Model.meaning c.args.model.now) (min c.args.to c.args.end) c.args.word c.args.end c.in_ok-world.world c.new-tally.result c.in_ok-world.ensures.ok c.new-tally.ensures;
  end = ap (λ s. s.end) c.in_ok-world.ensures.ok;
  lps = c.in_ok-world.ensures.lps;
}

pub split_at-requires : goal.split_at-requires
split_at-requires g c =
    let run = subst (λ n. IsRun (g.M.Model.meaning c.args.model.now) (min c.args.to n) c.loop.world.world c.step_some.new.world.world) c.loop.invariant.end c.step_some.ensures.run in
    omega (arith, longer (g.M.Model.meaning c.args.model.now) (min c.args.to c.args.end) c.args.word c.loop.world.world c.step_some.new.world.world run, ap length c.log-from.ensures, ap length c.log.ensures)

pub returns-then-not-more-clause-tallied : goal.returns-then-not-more-clause-tallied
returns-then-not-more-clause-tallied g c =
    let m = g.M.Model.meaning c.args.model.now in
    let bound = min c.args.to c.args.end in
    let run = subst (λ n. IsRun m (min c.args.to n) c.loop.world.world c.step_some.new.world.world) c.loop.invariant.end c.step_some.ensures.run in
    let events = c.split_at.ensures.back ∙ ap (drop (length c.log-from.result.now)) c.log.ensures ∙ ap (λ l. drop (length l) c.step_some.new.world.world.log) c.log-from.ensures in
    let all = tallied_more m bound c.args.word c.loop.world.world c.step_some.new.world.world c.loop.tally c.add_values.new.tally c.split_at.result.1.now c.loop.invariant.tallied run events c.in_ok-add_values.ensures in
    all

pub loop-preserved : goal.loop-preserved
loop-preserved g c =
    let m = g.M.Model.meaning c.args.model.now in
    let bound = min c.args.to c.args.end in
    let run = subst (λ n. IsRun m (min c.args.to n) c.loop.world.world c.step_some.new.world.world) c.loop.invariant.end c.step_some.ensures.run in
    let events = c.split_at.ensures.back ∙ ap (drop (length c.log-from.result.now)) c.log.ensures ∙ ap (λ l. drop (length l) c.step_some.new.world.world.log) c.log-from.ensures in
    let all = tallied_more m bound c.args.word c.loop.world.world c.step_some.new.world.world c.loop.tally c.add_values.new.tally c.split_at.result.1.now c.loop.invariant.tallied run events c.in_ok-add_values.ensures in
    record {
      tallied = tallied_forgotten m bound c.args.word c.args.end c.step_some.new.world c.in_ok-world-2.world c.add_values.new.tally all c.in_ok-world-2.ensures;
      end = ap (λ s. s.end) c.in_ok-world-2.ensures.2;
      lps = ap (λ s. length s.world.states) c.in_ok-world-2.ensures.2 ∙ c.step_some.ensures.lps ∙ c.loop.invariant.lps;
    }
