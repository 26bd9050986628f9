-- Global virtual time is the least of its parts.
use Rattle.std.proofs.Common.{ℕ, ◌≤◌, ◌+◌, List, ◌++◌, map, flat_map, ◌<◌, length, ◌≡◌, zero, suc, [], ◌∷◌, arith, get_or, Option, Some, None, set}
use Rattle.std.proofs.lemmas.Option.{none-some}
use Rattle.std.specs.List.{AllByRecursion as Every}
use Rattle.eventkey.proofs.Lists.{Every-append, Every-flat_map, Every-get_or, Every-get_or-default, Every-left, Every-map, Every-right, Every-set, Every-unflat_map, Every-unmap, copies-append_signed}
use Rattle.eventkey.proofs.Times.{IsFrom, least_time-above, least_time-each, least_time-le}
use Rattle.eventkey.specs.Bag.{copies}
use Rattle.eventkey.specs.Message.{Message}
use Rattle.eventkey.specs.Signed.{of_sign}
use Rattle.eventkey.specs.declared.Sign.{Sign}
use Rattle.eventkey.specs.declared.Signed.{Signed}
use Rattle.process.specs.Process.{Process}
use Rattle.node.specs.declared.Parcel.{Parcel}
use Rattle.gvt.specs.Ledger.{delivered_by}
use Rattle.gvt.specs.System.{System, gvt, node_of, processes_of, travelling}

abbrev pub SignedFrom : ℕ → Signed → Type 0
SignedFrom g s = g ≤ s.message.time

abbrev pub kept_by : Process → List Message
kept_by q = q.waiting ++ q.antis

-- nothing waits at the process before g
abbrev pub KeptFrom : ℕ → Process → Type 0
KeptFrom g q = Every (IsFrom g) (kept_by q)

abbrev message_of : Signed → Message
message_of s = s.message

pub gvt-le : (end : ℕ) (p : System) → gvt end p ≤ end
gvt-le end p = least_time-le end (flat_map kept_by (processes_of p) ++ map message_of (travelling p))

gvt_each : (end : ℕ) (p : System) → Every (IsFrom (gvt end p)) (flat_map kept_by (processes_of p) ++ map message_of (travelling p))
gvt_each end p = least_time-each end (flat_map kept_by (processes_of p) ++ map message_of (travelling p))

pub gvt_nodes : (end : ℕ) (p : System) → Every (λ (qs : List Process). Every (KeptFrom (gvt end p)) qs) p.nodes
gvt_nodes end p =
    Every-unflat_map (KeptFrom (gvt end p)) (λ (qs : List Process). qs) p.nodes
    (Every-unflat_map (IsFrom (gvt end p)) kept_by (processes_of p) (Every-left (IsFrom (gvt end p)) (flat_map kept_by (processes_of p)) (map message_of (travelling p)) (gvt_each end p)))

pub gvt_node : (end : ℕ) (p : System) (node : ℕ) → Every (KeptFrom (gvt end p)) (node_of p node)
gvt_node end p node = Every-get_or-default (λ (qs : List Process). Every (KeptFrom (gvt end p)) qs) p.nodes node [] (gvt_nodes end p) tt

pub gvt_travelling : (end : ℕ) (p : System) → Every (SignedFrom (gvt end p)) (travelling p)
gvt_travelling end p = Every-unmap (IsFrom (gvt end p)) message_of (travelling p) (Every-right (IsFrom (gvt end p)) (flat_map kept_by (processes_of p)) (map message_of (travelling p)) (gvt_each end p))

pub gvt_above : (end g : ℕ) (p : System) → g ≤ end → Every (λ (qs : List Process). Every (KeptFrom g) qs) p.nodes → Every (SignedFrom g) (travelling p) → g ≤ gvt end p
gvt_above end g p h kept moving =
    least_time-above g end (flat_map kept_by (processes_of p) ++ map message_of (travelling p)) h
    (Every-append (IsFrom g) (flat_map kept_by (processes_of p)) (map message_of (travelling p))
    (Every-flat_map (IsFrom g) kept_by (processes_of p) (Every-flat_map (KeptFrom g) (λ (qs : List Process). qs) p.nodes kept))
    (Every-map (IsFrom g) message_of (travelling p) moving))

-- the parcels
pub some_within : {X : Type 0} (xs : List (Option X)) (i : ℕ) (y : X) → get_or xs i None ≡ Some y → i < length xs
some_within [] i y e = absurd (none-some y e)
some_within (x ∷ xs) zero y e = omega arith
some_within (x ∷ xs) (suc i) y e = let h = some_within xs i y e in omega arith

pub copies-parcels-set : (x : Message) (sign : Sign) (ps : List (Option Parcel)) (i : ℕ) (o : Option Parcel) → i < length ps →
    copies x (of_sign sign (flat_map delivered_by (set ps i o))) + copies x (of_sign sign (delivered_by (get_or ps i None))) ≡ copies x (of_sign sign (flat_map delivered_by ps)) + copies x (of_sign sign (delivered_by o))
copies-parcels-set x sign [] i o l = absurd (omega arith)
copies-parcels-set x sign (p ∷ ps) zero o l = omega (arith, copies-append_signed x sign (delivered_by p) (flat_map delivered_by ps), copies-append_signed x sign (delivered_by o) (flat_map delivered_by ps))
copies-parcels-set x sign (p ∷ ps) (suc i) o l =
    omega (arith, copies-append_signed x sign (delivered_by p) (flat_map delivered_by ps), copies-append_signed x sign (delivered_by p) (flat_map delivered_by (set ps i o)), copies-parcels-set x sign ps i o (omega arith))

-- what holds of all that travels holds of all in parcels
pub Every-parcels : (P : Signed → Type 0) (ps : List (Option Parcel)) (i : ℕ) (parcel : Parcel) → get_or ps i None ≡ Some parcel → Every P (flat_map delivered_by ps) → Every P parcel.deliver
Every-parcels P ps i parcel e h =
    let each : Every P (delivered_by (get_or ps i None)) = Every-get_or (λ (o : Option Parcel). Every P (delivered_by o)) ps i None (some_within ps i parcel e) (Every-unflat_map P delivered_by ps h) in
    rw e at each

pub Every-parcels-set : (P : Signed → Type 0) (ps : List (Option Parcel)) (i : ℕ) (o : Option Parcel) → Every P (delivered_by o) → Every P (flat_map delivered_by ps) → Every P (flat_map delivered_by (set ps i o))
Every-parcels-set P ps i o new h = Every-flat_map P delivered_by (set ps i o) (Every-set (λ (r : Option Parcel). Every P (delivered_by r)) ps i o new (Every-unflat_map P delivered_by ps h))
