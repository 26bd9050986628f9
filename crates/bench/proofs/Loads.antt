-- A node that was loaded has the processes of its model.
use Rattle.std.proofs.Common.{◌≡◌, ℕ, Option, Some, None, Result, Ok, Err, IfOk, inl, inr, ap}
use Rattle.node.specs.Handling.{IsLoaded, Node, load_refusal, loaded_node}
use Rattle.node.specs.declared.Load.{Load}
use Rattle.node.specs.declared.NodeFault.{NodeFault}

answered_lps : (lps : ℕ) (load : Load) (n : Node) (refusal : Option NodeFault) → Ok n ≡ elim refusal as (λ _. Result Node NodeFault) [ Some fault ↦ Err fault | None ↦ Ok (loaded_node lps load) ] → n.lps ≡ lps
answered_lps lps load n (Some fault) e = absurd (cc)
answered_lps lps load n None e = (let same : n ≡ loaded_node lps load = cc in ap (λ (k : Node). k.lps) same)

pub loaded_lps : (lps : ℕ) (load : Load) (r : Result Node NodeFault) → IsLoaded lps load r → IfOk r (λ n. n.lps ≡ lps)
loaded_lps lps load (Ok n) (inl e) = answered_lps lps load n (load_refusal lps load) e
loaded_lps lps load (Ok n) (inr e) = absurd (cc)
loaded_lps lps load (Err fault) e = tt
