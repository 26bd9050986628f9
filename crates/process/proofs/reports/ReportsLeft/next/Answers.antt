use Rattle.std.proofs.Common.{◌∙◌, arith, sym}
use Rattle.process.proofs.ReportBytes.{taken_report, taken_rest, taken_value}
use Rattle.process.proofs.reports.ReportsLeft.next.Goals as goal

pub invariant_of-result : goal.invariant_of-result
invariant_of-result c =
    taken_report c.self.inside.count c.self.inside.bytes.now (omega (arith, c.if-self-eq0.false)) c.self.invariant c.first_length.result c.split_at.result.1.now c.first_length.ensures.within c.first_length.ensures.skips c.split_at.ensures.back c.split_at.result.0.now c.split_at.ensures.front

pub invariant_of-self : goal.invariant_of-self
invariant_of-self c =
    taken_rest c.self.inside.count c.self.inside.bytes.now (omega (arith, c.if-self-eq0.false)) c.self.invariant c.first_length.result c.split_at.result.1.now c.first_length.ensures.within c.first_length.ensures.skips c.split_at.ensures.back

pub returns : goal.returns
returns c =
    sym c.self.view_is ∙ taken_value c.self.inside.count c.self.inside.bytes.now (omega (arith, c.if-self-eq0.false)) c.self.invariant c.first_length.result c.split_at.result.1.now c.first_length.ensures.within c.first_length.ensures.skips c.split_at.ensures.back c.split_at.result.0.now c.split_at.ensures.front
