-- What the loop does with one frame, at each exit.
use Rattle.std.proofs.Common.{◌≡◌, ℕ, ◌^◌, ◌<◌, ◌⊎◌, Bool, true, false, List, length, Option, Some, None, Result, Ok, Err, inl, inr, refl, sym, ap, subst, ◌∙◌, arith}
use Rattle.std.specs.Prelude.{IfOk, IfSome, OnOk}
use Rattle.std.proofs.lemmas.Option.{same_Some}
use Rattle.std.specs.Result.{IsErrAnd}
use Rattle.std.specs.List.{AllByRecursion as Every}
use Rattle.eventkey.proofs.Lists.{Every-weaker}
use Rattle.model.specs.Meaning.{Meaning}
use Rattle.node.specs.Handling.{IsAnswered, IsInRange, IsLoaded, Node, answer, load_refusal, loaded_node}
use Rattle.node.specs.declared.Load.{Load}
use Rattle.node.specs.declared.NodeFault.{NodeFault}
use Rattle.node.specs.declared.NodeFault.TheVariants as node
use Rattle.node.specs.declared.Parcel.{Parcel}
use Rattle.node.specs.declared.Part.{Part}
use Rattle.node.specs.declared.Reply.{Reply}
use Rattle.frames.proofs.Whole.{length-fault}
use Rattle.frames.specs.Bodies.{fault_bytes, load_in, parcel_in}
use Rattle.frames.specs.Ranges.{IsLoad, IsPart, IsReply}
use Rattle.frames.specs.declared.FrameKind.{FrameKind}
use Rattle.frames.specs.declared.FrameKind.TheVariants as kind
use Rattle.frames.specs.declared.stream.Raw.{Raw}
use Rattle.frames.specs.Reactions.{Begins, Reaction, Reacts, RepliesInRange, answer_at, answer_lacking, begun, begun_by, begun_with, lacking, load_at, on_load, on_parcel, reaction, reaction_to, response_to}
use Rattle.frames.specs.declared.reaction.Begun.{Begun}
use Rattle.frames.specs.declared.reaction.Response.{Response}
use Rattle.wire.specs.declared.port.WireFault.{WireFault}
use Rattle.wire.specs.declared.port.WireFault.TheVariants.{BadBody, BadKind, NoMemory, TooLong}

-- 1. The frame of a fault is never too long.

pub fault_unwritten : {X : Type 0} (f : NodeFault) (fault : WireFault) (result : Result X WireFault) → IsErrAnd result (λ e. e ≡ fault) →
    (fault ≡ NoMemory) ⊎ ((fault ≡ TooLong) × (2 ^ 24 < length (fault_bytes f))) → result ≡ Err NoMemory
fault_unwritten f fault (Ok x) h e = absurd h
fault_unwritten f fault (Err g) h (inl e) = ap Err (h ∙ e)
fault_unwritten f fault (Err g) h (inr e) = absurd (let long = e.1 in omega (arith, length-fault f, long))

-- 2. A load

pub part_ready : (parts : List Part) → Every IsPart parts → Every IsInRange parts
part_ready parts h = Every-weaker IsPart IsInRange (λ p is. record { words = is.words.0; number = is.number }) parts h

pub some_load : (o : Option Load) (l : Load) → IfSome o IsLoad → o ≡ Some l → IsLoad l
some_load (Some k) l h e = let is : k ≡ l = cc in subst IsLoad is h
some_load None l h e = absurd (cc)

load_lacks : (lps : ℕ) (l : Load) (r : Result Node NodeFault) → IsLoaded lps l r → (lacks : Bool) × (r ≡ load_at lacks lps l)
load_lacks lps l r (inl e) = (false, e)
load_lacks lps l r (inr e) = (true, e.1 ∙ sym (ap lacking e.0))

module _ (lps : ℕ) (raw : Raw) where
  other_kind : (lacks : Bool) (k : FrameKind) (body : List ℕ) → (k ≡ kind.Load → ⊥) → begun_with lacks lps k body ≡ Err BadKind
  other_kind lacks kind.Load body ne = absurd (ne refl)
  other_kind lacks kind.Parcel body ne = refl
  other_kind lacks kind.Reply body ne = refl
  other_kind lacks kind.Fault body ne = refl

  pub begin_bad_kind : (raw.kind ≡ kind.Load → ⊥) → Begins lps raw (Err BadKind)
  unfolding begun
  begin_bad_kind ne = (false, inl (sym (other_kind false raw.kind raw.body ne)))

  begun_at : (lacks : Bool) (o : Option Load) → raw.kind ≡ kind.Load → load_in raw.body ≡ o → begun lacks lps raw ≡ on_load lacks lps o
  unfolding begun
  begun_at lacks o e f = ap (λ (k : FrameKind). begun_with lacks lps k raw.body) e ∙ ap (on_load lacks lps) f

  pub begin_bad_body : raw.kind ≡ kind.Load → load_in raw.body ≡ None → Begins lps raw (Err BadBody)
  begin_bad_body e f = (false, inl (sym (begun_at false None e f)))

  pub begin_made : (l : Load) (r : Result Node NodeFault) (b : Begun) → raw.kind ≡ kind.Load → load_in raw.body ≡ Some l → IsLoaded lps l r → b ≡ begun_by r → Begins lps raw (Ok b)
  begin_made l r b e f h is =
      let at = load_lacks lps l r h in
      (at.0, inl (ap Ok (is ∙ ap begun_by at.1) ∙ sym (begun_at at.0 (Some l) e f)))

  pub begin_no_memory : (result : Result Begun WireFault) → result ≡ Err NoMemory → Begins lps raw result
  begin_no_memory result e = (false, inr e)

pub begins_as : (lps : ℕ) (raw : Raw) (b c : Begun) → b ≡ c → Begins lps raw (Ok b) → Begins lps raw (Ok c)
begins_as lps raw b c e h = subst (λ (x : Begun). Begins lps raw (Ok x)) e h

-- a node that was made
pub loaded_processes : (lps : ℕ) (l : Load) (n : Node) → IsLoaded lps l (Ok n) → lps ≡ n.lps
loaded_processes lps l n (inl e) = go (load_refusal lps l) e
  where
    go : (o : Option NodeFault) → Ok n ≡ (elim o as (λ _. Result Node NodeFault) [ Some fault ↦ Err fault | None ↦ Ok (loaded_node lps l) ]) → lps ≡ n.lps
    go (Some fault) e = absurd (cc)
    go None e = (let is : n ≡ loaded_node lps l = cc in sym (ap (λ (x : Node). x.lps) is))
loaded_processes lps l n (inr e) = absurd (let f = e.1 in cc)

-- 3. A parcel

answer_lacks : (m : Meaning) (p : Parcel) (old new : Node) (r : Result Reply NodeFault) → IsAnswered m p old new r → (lacks : Bool) × (r ≡ (answer_at lacks m old p).result) × (new ≡ (answer_at lacks m old p).node)
answer_lacks m p old new r (inl e) = (false, e.0, e.1)
answer_lacks m p old new r (inr e) =
    (true, e.1 ∙ sym (ap (λ (o : Option NodeFault). (answer_lacking old o).result) e.0), e.2 ∙ sym (ap (λ (o : Option NodeFault). (answer_lacking old o).node) e.0))

same_going : (r : Result Response WireFault) (x y : Response) → r ≡ Ok x → r ≡ Ok y → x.goes_on ≡ y.goes_on
same_going r x y e f = let is : x ≡ y = cc in ap (λ (r : Response). r.goes_on) is

module _ (m : Meaning) (old new : Node) (raw : Raw) where
  other_parcel : (lacks : Bool) (k : FrameKind) (body : List ℕ) → (k ≡ kind.Parcel → ⊥) → reaction_to lacks m old k body ≡ record { response = Err BadKind; node = old }
  other_parcel lacks kind.Load body ne = refl
  other_parcel lacks kind.Parcel body ne = absurd (ne refl)
  other_parcel lacks kind.Reply body ne = refl
  other_parcel lacks kind.Fault body ne = refl

  pub react_bad_kind : (raw.kind ≡ kind.Parcel → ⊥) → Reacts m old old raw (Err BadKind)
  unfolding reaction
  react_bad_kind ne =
      let e = other_parcel false raw.kind raw.body ne in
      (false, inl (sym (ap (λ (r : Reaction). r.response) e), sym (ap (λ (r : Reaction). r.node) e)))

  reaction_at : (lacks : Bool) (o : Option Parcel) → raw.kind ≡ kind.Parcel → parcel_in raw.body ≡ o → reaction lacks m old raw ≡ on_parcel lacks m old o
  unfolding reaction
  reaction_at lacks o e f = ap (λ (k : FrameKind). reaction_to lacks m old k raw.body) e ∙ ap (on_parcel lacks m old) f

  pub react_bad_body : raw.kind ≡ kind.Parcel → parcel_in raw.body ≡ None → Reacts m old old raw (Err BadBody)
  react_bad_body e f =
      let at = reaction_at false None e f in
      (false, inl (sym (ap (λ (r : Reaction). r.response) at), sym (ap (λ (r : Reaction). r.node) at)))

  pub react_done : (p : Parcel) (r : Result Reply NodeFault) (result : Result Response WireFault) → raw.kind ≡ kind.Parcel → parcel_in raw.body ≡ Some p → IsAnswered m p old new r →
      (result ≡ response_to r) ⊎ (result ≡ Err NoMemory) → Reacts m old new raw result
  react_done p r result e f h (inl is) =
      let a = answer_lacks m p old new r h in
      let at = reaction_at a.0 (Some p) e f in
      (a.0, inl (is ∙ ap response_to a.1 ∙ sym (ap (λ (r : Reaction). r.response) at), a.2 ∙ sym (ap (λ (r : Reaction). r.node) at)))
  react_done p r result e f h (inr is) = (false, inr is)

  -- a reply that was encoded is the node's own, not an allocation failure
  pub react_in_range : (p : Parcel) (r : Result Reply NodeFault) (result : Result Response WireFault) → parcel_in raw.body ≡ Some p → IsAnswered m p old new r →
      (result ≡ response_to r) ⊎ (result ≡ Err NoMemory) → OnOk result (IfOk r (λ reply. IsReply reply)) → IfOk result (λ response. RepliesInRange m old raw response)
  react_in_range p r (Err fault) e h is fits = tt
  react_in_range p r (Ok response) e h (inr is) fits = absurd (cc)
  react_in_range p r (Ok response) e (inl h) (inl is) fits = λ q eq on.
      let same : p ≡ q = same_Some p q (sym e ∙ eq) in
      subst (λ (x : Parcel). IfOk (answer m old x).result IsReply) same (subst (λ (x : Result Reply NodeFault). IfOk x IsReply) h.0 fits)
  react_in_range p r (Ok response) e (inr h) (inl is) fits = λ q eq on.
      let off : response.goes_on ≡ false = same_going (response_to (Err node.NoMemory)) response _ (sym (is ∙ ap response_to h.1)) refl in
      absurd (cc)
