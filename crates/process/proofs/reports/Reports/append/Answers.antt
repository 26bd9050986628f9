use Rattle.std.proofs.Common.{List, subst, sym, ℕ}
use Rattle.process.specs.Reports.{AreReports}
use Rattle.process.proofs.reports.Reports.append.Goals as goal

pub push_bytes-requires : goal.push_bytes-requires
push_bytes-requires c = subst (λ (b : List ℕ). AreReports c.others.inside.count b) (sym c.as_slice.ensures.value) c.others.invariant
