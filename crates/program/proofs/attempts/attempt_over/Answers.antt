use Rattle.std.proofs.Common.{Bool, inl, refl, subst, sym, ℕ, ◌∙◌, ◌≡◌}
use Rattle.std.proofs.lemmas.List.{length-map}
use Rattle.std.specs.Prelude.{false, not}
use Rattle.frames.proofs.Alike.{judged_alike}
use Rattle.frames.specs.Judged.{judged_state}
use Rattle.coordinator.specs.Opening.{MayRun}
use Rattle.runs.proofs.Ports.{all_fresh, so_many}
use Rattle.frames.specs.Socket.{state_of}
use Rattle.frames.specs.declared.port.Held.TheVariants.{Fresh}
use Rattle.disk.specs.FileDisks.{disk_of_file}
use Rattle.program.specs.Attempts.{IsAttemptBy}
use Rattle.program.proofs.Calls.{attempt_of, reported_is}
use Rattle.program.proofs.Printed.{by_judged}
use Rattle.program.proofs.attempts.attempt_over.Goals as goal

pub run_over-requires : goal.run_over-requires
run_over-requires g c =
    let alike = judged_alike _ _ _ c.in_ok-judged.judged.items c.args.ports.items c.args.plan.nodes (state_of Fresh) c.in_ok-judged.ensures c.requires.ports in
    let many = sym (length-map c.in_ok-judged.judged.items _) ∙ so_many c.args.plan.nodes (judged_state false (state_of Fresh)) _ alike in
    record {
      each = many;
      possible = record {
        run = subst (λ (n : ℕ). MayRun n c.args.of.now.end) (sym many) c.requires.possible;
        fresh = all_fresh c.args.plan.nodes (judged_state false (state_of Fresh)) _ alike refl;
      };
    }

pub returns-clause-tried : goal.returns-clause-tried
returns-clause-tried g c =
    let of = c.args.of.now in
    let it = c.run_over.ensures.run in
    let on = g.M.Model.meaning of.model in
    let plan = c.args.plan in
    let outcome = c.run_over.result.outcome in
    let old = disk_of_file c.args.disk in
    let new = disk_of_file c.run_over.result.disk in
    let same = c.run_over.new.out ≡ c.args.out.now in
    let before = g.O.Write.contents c.args.out.now in
    let after = g.O.Write.contents c.run_over.new.out in
    by_judged (λ (b : Bool). IsAttemptBy (not b) on of.end plan.nodes old new outcome same before after) plan.judged
    (λ judged. attempt_of _ _ _ of.model of.end plan _ _ it.run outcome same before after it.made.over it.printed (it.made.simulation (inl judged)))
    (λ trusting. record { tried = reported_is _ _ _ of.model of.end plan _ _ it.run outcome same before after it.made.over it.printed _ it.made.cause; records = c.run_over.ensures.old_records })
