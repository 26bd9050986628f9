-- Ports that are all alike, and not loaded yet: a session can be opened over them.
use Rattle.std.proofs.Common.{List, length, map, subst, sym, ℕ, ◌∙◌, ◌≡◌}
use Rattle.std.specs.Prelude.{replicate}
use Rattle.std.proofs.lemmas.List.{length-map}
use Rattle.coordinator.specs.Opening.{MayOpen, MayRun}
use Rattle.runs.proofs.Ports.{all_fresh, so_many}
use Rattle.wire.specs.Port.{PortState}
use Rattle.wire.specs.Port.Stage.{Fresh}

pub may_open : {P : Type 0} (state : P → PortState) (ports : List P) (nodes end : ℕ) (port : PortState) → map state ports ≡ replicate nodes port → port.stage ≡ Fresh → MayRun nodes end → MayOpen state ports end
may_open state ports nodes end port are fresh may =
    let many : length ports ≡ nodes = sym (length-map ports state) ∙ so_many nodes port (map state ports) are in
    record {
      run = subst (λ (n : ℕ). MayRun n end) (sym many) may;
      fresh = all_fresh nodes port (map state ports) are fresh;
    }
