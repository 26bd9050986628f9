use Rattle.std.proofs.Common.{◌++◌, ◌∙◌, List, ℕ, ap}
use Rattle.process.proofs.ReportBytes.{read_reports, read_shorter}
use Rattle.process.proofs.reports.Reports.read.Goals as goal

pub overflow_sub-bytes : goal.overflow_sub-bytes
overflow_sub-bytes c = read_shorter c.args.count c.args.bytes.now c.in-Some.rest.now c.skip_dones.ensures.bytes c.in-Some.ensures.skips

pub invariant_of-reports : goal.invariant_of-reports
invariant_of-reports c =
    let copied = c.in_ok-extend_from_slice.ensures.items ∙ ap (λ (xs : List ℕ). xs ++ c.split_at.result.0.now) c.in_ok-copy.ensures.items in
    read_reports c.args.count c.args.bytes.now c.in-Some.rest.now c.skip_dones.ensures.bytes c.in-Some.ensures.skips c.extend_from_slice.new.self.items (copied ∙ c.split_at.ensures.front)
