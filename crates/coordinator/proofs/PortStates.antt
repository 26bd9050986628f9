-- The states of a session's ports.
use Rattle.std.proofs.Common.{List, [], ◌∷◌, ℕ, zero, suc, ◌<◌, ◌≡◌, ◌∙◌, get_or, set, map, length, ap, sym, arith}
use Rattle.std.proofs.lemmas.List.{get_or-set_same, length-map, map-set}
use Rattle.wire.specs.Port.{IsSamePort, PortState}
use Rattle.coordinator.specs.Ports.{PortChanges}
use Rattle.coordinator.specs.Session.{no_port, port_at}

at-read : {P : Type 0} (state : P → PortState) (ports : List P) (k : ℕ) (x : P) → k < length ports → x ≡ get_or ports k x → port_at (map state ports) k ≡ state x
at-read state [] k x there is = absurd (omega (arith, there))
at-read state (y ∷ ys) zero x there is = ap state (sym is)
at-read state (y ∷ ys) (suc k) x there is = at-read state ys k x (omega (arith, there)) is

at-set : {P : Type 0} (state : P → PortState) (ports : List P) (k : ℕ) (y : P) → k < length ports → port_at (map state (set ports k y)) k ≡ state y
at-set state ports k y there =
    ap (λ (ps : List PortState). port_at ps k) (map-set state ports k y)
    ∙ get_or-set_same (map state ports) k (state y) no_port (omega (arith, there, length-map ports state))

others : {P : Type 0} (state : P → PortState) (ports : List P) (k : ℕ) (y : P) → k < length ports →
    map state (set ports k y) ≡ set (map state ports) k (port_at (map state (set ports k y)) k)
others state ports k y there = map-set state ports k y ∙ ap (λ (p : PortState). set (map state ports) k p) (sym (at-set state ports k y there))

-- a call to the port at a place
pub port-changes : {P : Type 0} (state : P → PortState) (Says : PortState → PortState → Type 0) (ports : List P) (k : ℕ) (x y : P) → k < length ports → x ≡ get_or ports k x
    → IsSamePort (state x) (state y) → Says (state x) (state y) → PortChanges Says (map state ports) (map state (set ports k y)) k
port-changes state Says ports k x y there is same says = record {
  others = others state ports k y there;
  same = rw (at-set state ports k y there, at-read state ports k x there is) same;
  says = rw (at-set state ports k y there, at-read state ports k x there is) says;
}
