-- Ports to nodes behind bytes are faithful.
use Rattle.std.proofs.Common.{◌≡◌, ◌<◌, ℕ, List, ap, arith, length, ◌∙◌}
use Rattle.std.specs.Prelude.{replicate}
use Rattle.std.proofs.lemmas.List.{get_or-replicate, length-replicate}
use Rattle.coordinator.specs.Opening.{AllFaithful}
use Rattle.coordinator.specs.Session.{no_port, port_at}
use Rattle.loopback.specs.Loop.{state_of}
use Rattle.loopback.specs.declared.port.Held.TheVariants.{Fresh}
use Rattle.model.specs.Meaning.{Meaning}
use Rattle.wire.specs.Port.{PortState}

module _ (m : Meaning) (nodes : ℕ) (ports : List PortState) (is : ports ≡ replicate nodes (state_of m Fresh)) where
  so_many : length ports ≡ nodes
  so_many = ap length is ∙ length-replicate nodes (state_of m Fresh)

  each_is : (k : ℕ) → k < length ports → port_at ports k ≡ state_of m Fresh
  each_is k l = ap (λ (ps : List PortState). port_at ps k) is ∙ get_or-replicate nodes k (state_of m Fresh) no_port (omega (arith, so_many, l))

  pub all_faithful : AllFaithful m ports
  all_faithful k l = (ap (λ (p : PortState). p.faithful) (each_is k l), ap (λ (p : PortState). p.meaning) (each_is k l))
