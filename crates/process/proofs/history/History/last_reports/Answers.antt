use Rattle.std.proofs.Common.{◌≡◌, ◌≤◌, ◌∙◌, ℕ, ap, length, subst, sym}
use Rattle.process.proofs.Courses.{length-records_of, reports_undone}
use Rattle.process.specs.Course.{Course, records_of}
use Rattle.process.specs.Process.{reported}
use Rattle.queues.specs.Queue.{last_of}
use Rattle.process.proofs.history.History.last_reports.Goals as goal

pub last_reports-requires : goal.last_reports-requires
last_reports-requires c =
    subst (λ (n : ℕ). c.args.count ≤ n) (ap (λ (h : Course). length h.done) (sym c.self.view_is) ∙ length-records_of c.self.inside.start.items c.self.inside.start_number c.self.inside.handlings) c.requires

pub returns : goal.returns
returns c =
    let h = c.self.inside in
    let hs = records_of h.start.items h.start_number h.handlings in
    let state = sym c.self.invariant.state in
    let number = sym c.self.invariant.number in
    subst (λ (k : Course). c.last_reports.result ≡ reported (last_of c.args.count k.done) k.state k.number) c.self.view_is
    (c.last_reports.ensures ∙ (sym (reports_undone c.args.count h.start.items h.start_number h.handlings) ∙ (λ i. reported (last_of c.args.count hs) (state i) (number i))))
