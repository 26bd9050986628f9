use Rattle.process.proofs.HandlingBytes.{hold, moved}
use Rattle.process.proofs.handlings.Handlings.compact.Goals as goal

pub invariant_of-self : goal.invariant_of-self
invariant_of-self c =
    let s = c.self.inside in
    (moved s.start s.lengths.items s.bytes.items _ (hold s.start s.lengths.items s.bytes.items c.self.invariant) c.drop_front.new.bytes.items c.drop_front.ensures).are
