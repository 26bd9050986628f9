-- Ports that are all alike, before anything was loaded through them.
use Rattle.std.proofs.Common.{true, ◌≡◌, ◌<◌, ℕ, List, ap, arith, length, ◌∙◌}
use Rattle.std.specs.Prelude.{replicate}
use Rattle.std.proofs.lemmas.List.{get_or-replicate, length-replicate}
use Rattle.coordinator.specs.Opening.{AllFresh, AllFaithful}
use Rattle.coordinator.specs.Session.{no_port, port_at}
use Rattle.model.specs.Meaning.{Meaning}
use Rattle.wire.specs.Port.{PortState}
use Rattle.wire.specs.Port.Stage.{Fresh}

module _ (nodes : ℕ) (port : PortState) (ports : List PortState) (is : ports ≡ replicate nodes port) where
  pub so_many : length ports ≡ nodes
  so_many = ap length is ∙ length-replicate nodes port

  each_is : (k : ℕ) → k < length ports → port_at ports k ≡ port
  each_is k l = ap (λ (ps : List PortState). port_at ps k) is ∙ get_or-replicate nodes k port no_port (omega (arith, so_many, l))

  pub all_fresh : port.stage ≡ Fresh → AllFresh ports
  all_fresh fresh k l = ap (λ (p : PortState). p.stage) (each_is k l) ∙ fresh

  pub all_faithful : (m : Meaning) → port.faithful ≡ true → port.meaning ≡ m → AllFaithful m ports
  all_faithful m faithful meaning k l = (ap (λ (p : PortState). p.faithful) (each_is k l) ∙ faithful, ap (λ (p : PortState). p.meaning) (each_is k l) ∙ meaning)
