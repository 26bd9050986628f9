use Rattle.std.proofs.Common.{refl, ◌∙◌}
use Rattle.std.specs.Option.{option_map}
use Rattle.disk.specs.FileDisks.{disk_of_file}
use Rattle.program.specs.Attempts.{nodes_of, trusts_nodes}
use Rattle.program.proofs.Printed.{on_any}
use Rattle.program.proofs.Calls.{come_after, come_first, if_ok_so, of_err, of_ok, on_err_so, run_after}
use Rattle.program.proofs.attempts.run_attempts.Goals as goal

pub attempts-init : goal.attempts-init
attempts-init g c = (refl, c.requires.sound, come_first (trusts_nodes c.args.args) (g.M.Model.meaning c.args.of.now.model) c.args.of.now.end (disk_of_file c.args.begun.disk) c.args.begun.origin c.requires.begins)

pub attempt_and_go_on-requires-clause-sound : goal.attempt_and_go_on-requires-clause-sound
attempt_and_go_on-requires-clause-sound g c = rw c.as_ref.ensures.value c.attempts.invariant.1

pub returns-in_err-next-clause-unmet : goal.returns-in_err-next-clause-unmet
returns-in_err-next-clause-unmet g c = on_any c.from_residual.result (c.in_err-next.ensures.unmet ∙ c.attempts.invariant.0)

pub returns-in-Err-clause-run : goal.returns-in-Err-clause-run
returns-in-Err-clause-run g c =
    run_after (trusts_nodes c.args.args) (g.M.Model.meaning c.args.of.now.model) c.args.of.now.end (disk_of_file c.args.begun.disk) g.O.Write.contents c.args.out.now c.attempts.out c.attempt_and_go_on.new.out c.attempts.origin (option_map (λ o. o.now) c.as_ref.result) (nodes_of c.args.args)
    (disk_of_file c.attempts.disk) (disk_of_file c.in-Err.last.disk) c.in-Err.last.outcome c.attempts.invariant.0 c.as_ref.ensures.value c.attempts.invariant.2 (of_err _ c.in_ok-next.field-0 c.in-Err.is c.in_ok-next.ensures.last)

pub gone_on-following-requires : goal.gone_on-following-requires
gone_on-following-requires g c = record { sound = c.attempts.invariant.1 }

pub attempts-preserved : goal.attempts-preserved
attempts-preserved g c =
    let next = of_ok _ c.in_ok-next.field-0 c.in-Ok.is c.in_ok-next.ensures.next in (
      next.0 ∙ c.attempts.invariant.0,
      c.gone_on-following.ensures.sound,
      come_after (trusts_nodes c.args.args) (g.M.Model.meaning c.args.of.now.model) c.args.of.now.end (disk_of_file c.args.begun.disk) c.attempts.origin (option_map (λ o. o.now) c.as_ref.result) c.gone_on-following.result.1 (disk_of_file c.attempts.disk) c.in-Ok.next c.gone_on-following.result.0
          c.as_ref.ensures.value c.attempts.invariant.2 next.1 c.gone_on-following.ensures.is,
    )

pub attempt_last-requires-clause-sound : goal.attempt_last-requires-clause-sound
attempt_last-requires-clause-sound g c = rw c.as_ref-2.ensures.value c.attempts.invariant.1

pub returns-clause-run : goal.returns-clause-run
returns-clause-run g c =
    if_ok_so c.attempt_last.result
    (λ last is. run_after (trusts_nodes c.args.args) (g.M.Model.meaning c.args.of.now.model) c.args.of.now.end (disk_of_file c.args.begun.disk) g.O.Write.contents c.args.out.now c.attempts.out c.attempt_last.new.out c.attempts.origin (option_map (λ o. o.now) c.as_ref-2.result) (nodes_of c.args.args)
    (disk_of_file c.attempts.disk) (disk_of_file last.disk) last.outcome c.attempts.invariant.0 c.as_ref-2.ensures.value c.attempts.invariant.2 is)
    c.attempt_last.ensures.last

pub returns-clause-unmet : goal.returns-clause-unmet
returns-clause-unmet g c = on_err_so c.attempt_last.result (λ same. same ∙ c.attempts.invariant.0) c.attempt_last.ensures.unmet
