use Rattle.std.proofs.Common.{inl, inr}
use Rattle.program.proofs.status.command.Goals as goal

-- the command failed: it has printed nothing, or a beginning of what the words ask for
pub returns-clause-failed : goal.returns-clause-failed
returns-clause-failed g c = λ one.
    elim c.in-Err-run.ensures.err [
      | inl same ↦ inl same
      | inr begun ↦ inr (inl (c.in-Ok-read_command.command, c.in-Ok-read_command.ensures.ok, begun))
    ]

-- the command succeeded: it has printed what the words ask for
pub returns-in-Ok-run-clause-printed : goal.returns-in-Ok-run-clause-printed
returns-in-Ok-run-clause-printed g c = λ zero. inl (c.in-Ok-read_command.command, c.in-Ok-read_command.ensures.ok, c.in-Ok-run.ensures.ok)
