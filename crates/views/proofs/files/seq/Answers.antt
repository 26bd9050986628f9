use Rattle.std.proofs.Common.{◌++◌, Err, ap, arith, drop, inr, length, min, refl, subst}
use Rattle.std.specs.Io.KnownBytes.{Appends}
use Rattle.eventkey.proofs.Writers.{began}
use Rattle.eventkey.specs.Writing.{TakesBeginning}
use Rattle.model.specs.Runner.{RunsTo}
use Rattle.texts.specs.Text.{log_text, world_text}
use Rattle.views.specs.Views.{run_text}
use Rattle.views.proofs.Printed.{appended_both, begun_after}
use Rattle.views.proofs.Runs.{bad_model, on_ok}
use Rattle.views.proofs.Streams.{whole_end, whole_numbers, whole_text, whole_upto, whole_within}
use Rattle.views.proofs.files.seq.Goals as goal

pub returns-in_err-model-clause-bad : goal.returns-in_err-model-clause-bad
returns-in_err-model-clause-bad g c = λ e.
    let bad = bad_model c.from_residual.result c.in_err-model.field-0.0 c.from_residual.ensures.1 e in
    c.in_err-model.ensures.bad bad.0 (ap Err bad.1)

pub write_rest-requires-clause-within : goal.write_rest-requires-clause-within
write_rest-requires-clause-within g c =
    let m = g.M.Model.meaning c.in_ok-model.model in
    let end = c.in_ok-model.end in
    let run = subst (λ n. RunsTo m (min end n) c.in_ok-world.world.world c.run_to.new.self.world) c.in_ok-world.ensures.end c.in_ok-run_to.ensures.ok in
    omega (arith, whole_within m end (g.met.M.Model.lawful c.in_ok-model.model) c.in_ok-model.ensures.end _ _ c.in_ok-world.world.world c.run_to.new.self.world c.in_ok-world.ensures.printed run, ap length c.log-printed.ensures)

pub write_rest-requires-clause-each : goal.write_rest-requires-clause-each
write_rest-requires-clause-each g c =
    let m = g.M.Model.meaning c.in_ok-model.model in
    let end = c.in_ok-model.end in
    let run = subst (λ n. RunsTo m (min end n) c.in_ok-world.world.world c.run_to.new.self.world) c.in_ok-world.ensures.end c.in_ok-run_to.ensures.ok in
    whole_numbers m end (g.met.M.Model.lawful c.in_ok-model.model) c.in_ok-model.ensures.end _ _ c.in_ok-world.world.world c.run_to.new.self.world c.in_ok-world.ensures.printed run

pub returns-clause-ok : goal.returns-clause-ok
returns-clause-ok g c = on_ok c.write_rest.result (λ written.
    let m = g.M.Model.meaning c.in_ok-model.model in
    let law = g.met.M.Model.lawful c.in_ok-model.model in
    let end = c.in_ok-model.end in
    let short = c.in_ok-model.ensures.end in
    let old = g.O.Write.contents c.args.out.now in
    let mid = g.O.Write.contents c.print_log.new.out in
    let new = g.O.Write.contents c.write_rest.new.out in
    let a = c.in_ok-world.world.world in
    let b = c.run_to.new.self.world in
    let h = c.in_ok-world.ensures.printed in
    let run = subst (λ n. RunsTo m (min end n) a b) c.in_ok-world.ensures.end c.in_ok-run_to.ensures.ok in
    let rest = subst (λ l. Appends mid new (log_text (drop (length l) b.log) ++ world_text b)) c.log-printed.ensures written in
    record {
      model = c.in_ok-model.model;
      end = end;
      world = whole_end m end law short old mid a b h run;
      file = c.in_ok-model.ensures.ok;
      upto = whole_upto m end law short old mid a b h run;
      printed = subst (Appends old new) (whole_text m end law short old mid a b h run) (appended_both old mid new (log_text (h.past ++ a.log)) (log_text (drop (length a.log) b.log) ++ world_text b) h.printed rest);
    }) c.write_rest.ensures.written.all

pub returns-clause-output : goal.returns-clause-output
returns-clause-output g c = λ e.
    let m = g.M.Model.meaning c.in_ok-model.model in
    let law = g.met.M.Model.lawful c.in_ok-model.model in
    let end = c.in_ok-model.end in
    let short = c.in_ok-model.ensures.end in
    let old = g.O.Write.contents c.args.out.now in
    let mid = g.O.Write.contents c.print_log.new.out in
    let new = g.O.Write.contents c.write_rest.new.out in
    let a = c.in_ok-world.world.world in
    let b = c.run_to.new.self.world in
    let h = c.in_ok-world.ensures.printed in
    let run = subst (λ n. RunsTo m (min end n) a b) c.in_ok-world.ensures.end c.in_ok-run_to.ensures.ok in
    let rest = subst (λ l. TakesBeginning mid new (log_text (drop (length l) b.log) ++ world_text b)) c.log-printed.ensures (began c.write_rest.ensures.written e) in
    let whole = whole_end m end law short old mid a b h run in
    record {
      model = c.in_ok-model.model;
      end = end;
      file = c.in_ok-model.ensures.ok;
      begun = (
        run_text whole,
        inr (whole, whole_upto m end law short old mid a b h run, refl),
        subst (TakesBeginning old new) (whole_text m end law short old mid a b h run) (begun_after old mid new (log_text (h.past ++ a.log)) (log_text (drop (length a.log) b.log) ++ world_text b) h.printed rest),
      );
    }
