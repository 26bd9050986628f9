use Rattle.std.proofs.Common.{◌∙◌, List, ap, drop, ℕ}
use Rattle.process.proofs.HandlingBytes.{holds}
use Rattle.process.proofs.handlings.Handlings.parts.Goals as goal

pub returns-clause-lengths : goal.returns-clause-lengths
returns-clause-lengths c = (holds c.self.inside.start c.self.inside.lengths.items c.self.inside.bytes.items c.args.self.now c.self.invariant c.self.view_is).each

pub returns-clause-bytes : goal.returns-clause-bytes
returns-clause-bytes c =
    c.split_at.ensures.back
    ∙ (ap (λ (b : List ℕ). drop c.self.inside.start b) c.as_slice.ensures.value ∙ (holds c.self.inside.start c.self.inside.lengths.items c.self.inside.bytes.items c.args.self.now c.self.invariant c.self.view_is).text)

pub returns-clause-ranged : goal.returns-clause-ranged
returns-clause-ranged c = (holds c.self.inside.start c.self.inside.lengths.items c.self.inside.bytes.items c.args.self.now c.self.invariant c.self.view_is).ranged
