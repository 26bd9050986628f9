use Rattle.std.proofs.Common.{ℕ, List, subst}
use Rattle.std.specs.Prelude.{OnOk}
use Rattle.commitlog.specs.Records.{IsBlank}
use Rattle.disk_commands.specs.Disks.{IsZeroFrom}
use Rattle.disk_commands.proofs.disks.refuse_contents.Goals as goal

-- the disk was only read before
pub returns-else-over-clause-kept : goal.returns-else-over-clause-kept
returns-else-over-clause-kept c = λ _. subst (λ (reads : List (List ℕ)). OnOk c.refuse_bytes.result (IsBlank reads → IsZeroFrom 3 reads)) c.refuse_records.ensures.looks.same c.refuse_bytes.ensures.kept
