use Rattle.std.proofs.Common.{inl, inr}
use Rattle.views.proofs.files.seq_on.Goals as goal

pub returns-in-Text-clause-ok : goal.returns-in-Text-clause-ok
returns-in-Text-clause-ok g c = rw c.in-Text.is c.seq_of.ensures.ok

pub returns-in-Text-clause-err : goal.returns-in-Text-clause-err
returns-in-Text-clause-err g c = rw c.in-Text.is c.seq_of.ensures.err

pub returns-in-Csv : goal.returns-in-Csv
returns-in-Csv g c =
    let h = c.seq_table_of.ensures in
    elim c.in-Csv.is [
      | inl e ↦ record { ok = rw e (rw e at h.ok); err = rw e (rw e at h.err) }
      | inr e ↦ record { ok = rw e (rw e at h.ok); err = rw e (rw e at h.err) }
    ]
