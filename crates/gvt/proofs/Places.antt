-- The processes of all nodes are the processes 0, 1, .. below the number of processes.
use Rattle.std.proofs.Common.{◌≡◌, ℕ, zero, suc, ◌<◌, ◌%◌, List, [], ◌∷◌, flat_map, length, get_or, refl, subst, arith}
use Rattle.eventkey.proofs.Bags.{copies-flat_map-append, copies-flat_map-none}
use Rattle.eventkey.specs.Bag.{copies}
use Rattle.eventkey.specs.Message.{Message}
use Rattle.node.proofs.Seats.{own_at}
use Rattle.node.specs.Handling.{own_lps}
use Rattle.process.specs.Process.{Process, nobody, sent_by}
use Rattle.gvt.specs.System.{IsSeatedBy, System, node_of, nodes_of, process_at, processes_of}

none_in_nodes : (f : Process → List Message) (x : Message) (nodes : List (List Process)) →
    ((node i : ℕ) → node < length nodes → i < length (get_or nodes node []) → copies x (f (get_or (get_or nodes node []) i nobody)) ≡ 0) → copies x (flat_map f (flat_map (λ (qs : List Process). qs) nodes)) ≡ 0
none_in_nodes f x [] none = refl
none_in_nodes f x (qs ∷ nodes) none =
    let here : copies x (flat_map f qs) ≡ 0 = copies-flat_map-none f x qs nobody (λ i l. none zero i (omega arith) l) in
    let rest = none_in_nodes f x nodes (λ node i k l. none (suc node) i (omega arith) l) in
    omega (arith, copies-flat_map-append f x qs (flat_map (λ (qs : List Process). qs) nodes))

-- what holds of each process below lps holds at each place of each node
pub at_place : (lps : ℕ) (p : System) → IsSeatedBy lps p → (P : Process → Type 0) → ((lp : ℕ) → lp < lps → P (process_at p lp)) → (node i : ℕ) → node < nodes_of p → i < length (node_of p node) → P (get_or (node_of p node) i nobody)
at_place lps p seated P h node i k l =
    let lp : ℕ = get_or (own_lps (nodes_of p) node lps) i 0 in
    let o = own_at (nodes_of p) node k lps i (subst (λ n. i < n) (seated.seats node k) l) in
    subst (λ n. P (get_or (node_of p n) i nobody)) o.sits (subst (λ j. P (get_or (node_of p (lp % nodes_of p)) j nobody)) o.place (h lp o.there))

pub sent_by_none : (lps : ℕ) (x : Message) (p : System) → IsSeatedBy lps p → ((lp : ℕ) → lp < lps → copies x (sent_by (process_at p lp)) ≡ 0) → copies x (flat_map sent_by (processes_of p)) ≡ 0
sent_by_none lps x p seated h = none_in_nodes sent_by x p.nodes (at_place lps p seated (λ (q : Process). copies x (sent_by q) ≡ 0) h)
