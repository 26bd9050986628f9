use Rattle.std.proofs.Common.{◌∙◌, ap, arith, drop, length, min, subst}
use Rattle.model.specs.Runner.{RunsTo}
use Rattle.pictures.proofs.Binned.{longer, tallied_whole}
use Rattle.pictures.proofs.histograms.tally_of.Goals as goal

pub split_at-requires : goal.split_at-requires
split_at-requires g c =
    let m = g.M.Model.meaning c.args.model.now in
    let run = subst (λ n. RunsTo m (min c.args.to n) c.in_ok-world.world.world c.run_to.new.self.world) c.in_ok-world.ensures.end c.in_ok-run_to.ensures.ok in
    omega (arith, longer m (min c.args.to c.args.end) c.args.word c.in_ok-world.world.world (record c.run_to.new.self.world { time = c.in_ok-world.world.world.time }) run.run, ap length c.log-from.ensures, ap length c.log.ensures)

pub returns : goal.returns
returns g c =
    let m = g.M.Model.meaning c.args.model.now in
    let run = subst (λ n. RunsTo m (min c.args.to n) c.in_ok-world.world.world c.run_to.new.self.world) c.in_ok-world.ensures.end c.in_ok-run_to.ensures.ok in
    let events = c.split_at.ensures.back ∙ ap (drop (length c.log-from.result.now)) c.log.ensures ∙ ap (λ l. drop (length l) c.run_to.new.self.world.log) c.log-from.ensures in
    tallied_whole m c.args.end c.args.to c.args.word c.in_ok-world.world.world c.run_to.new.self.world c.in_ok-world.tally c.add_values.new.tally c.split_at.result.1.now c.in_ok-world.ensures.tallied run events c.in_ok-add_values.ensures
