-- The answer of a node to a load and to a parcel comes back as a frame.
use Rattle.std.proofs.Common.{◌≡◌, ℕ, ◌≤◌, ◌^◌, Bool, true, false, List, [], length, Option, Some, None, Result, Ok, Err, inl, inr, refl, sym, ap, subst, ◌∙◌}
use Rattle.std.specs.Prelude.{IfErr, IfOk}
use Rattle.std.specs.Result.{IsErrAnd}
use Rattle.std.proofs.lemmas.Bool.{cases_lt, lt-ltb, le-ltb}
use Rattle.model.specs.Meaning.{Meaning}
use Rattle.node.specs.Handling.{Node, answer, load_answer, load_refusal, loaded_node, refusal}
use Rattle.node.specs.declared.Load.{Load}
use Rattle.node.specs.declared.NodeFault.{NodeFault}
use Rattle.node.specs.declared.NodeFault.TheVariants as node
use Rattle.node.specs.declared.Parcel.{Parcel}
use Rattle.node.specs.declared.Reply.{Reply}
use Rattle.frames.specs.Bodies.{frame_bytes, frame_in, parcel_in, reply_bytes}
use Rattle.frames.specs.Laws.{IsEncoded}
use Rattle.frames.specs.Ranges.{IsReply}
use Rattle.frames.specs.declared.Frame.{Frame}
use Rattle.frames.specs.declared.Frame.TheVariants as frame
use Rattle.frames.specs.declared.FrameKind.{FrameKind}
use Rattle.frames.specs.declared.stream.Raw.{Raw}
use Rattle.frames.specs.Reactions.{Begins, Reaction, Reacts, RepliesInRange, answer_at, answer_lacking, begun, begun_by, begun_with, lacking, load_at, on_load, on_parcel, reaction, reaction_to, response_to}
use Rattle.frames.specs.declared.reaction.Begun.{Begun}
use Rattle.frames.specs.declared.reaction.Begun.TheVariants.{Loaded, Refused}
use Rattle.frames.specs.declared.reaction.Response.{Response}
use Rattle.wire.specs.declared.port.PortFault.{PortFault}
use Rattle.wire.specs.declared.port.PortFault.TheVariants.{BadReply, Closed, Peer, Wire}
use Rattle.wire.specs.declared.port.WireFault.{WireFault}
use Rattle.wire.specs.declared.port.WireFault.TheVariants.{BadBody, BadKind, Io, NoMemory, TooLong, Truncated}
use Rattle.loopback.specs.Passing.{IsLoadCause, IsMade, IsReadOf, IsReplyBy, IsTakeCause}
use Rattle.loopback.proofs.Reading.{load_within, parcel_within, encoded_as, encoded_fault}

-- 1. Faults of frames

-- the fault is a failed allocation
pub reported_so : {T : Type 0} (P : PortFault → Type 0) (r : Result T PortFault) (fault : PortFault) → IsErrAnd r (λ e. e ≡ fault) → fault ≡ Wire NoMemory → P (Wire NoMemory) → IfErr r P
reported_so P (Ok x) fault h e p = absurd h
reported_so P (Err f) fault h e p = subst P (sym (h ∙ e)) p

-- reading a reply gives no refusal
reply_fault : (P : PortFault → Type 0) (r : Reply) (fault : PortFault) → IsReadOf (frame.Reply r) fault → P (Wire NoMemory) → P fault
reply_fault P r (Peer f) e none = absurd (cc)
reply_fault P r (Wire NoMemory) e none = none
reply_fault P r (Wire Truncated) e none = absurd e
reply_fault P r (Wire TooLong) e none = absurd e
reply_fault P r (Wire BadKind) e none = absurd e
reply_fault P r (Wire BadBody) e none = absurd e
reply_fault P r (Wire Io) e none = absurd e
reply_fault P r Closed e none = absurd e
reply_fault P r BadReply e none = absurd e

-- a fault of the node that was read, or a failed allocation
passed : (P : PortFault → Type 0) (n : NodeFault) (fault : PortFault) → IsReadOf (frame.Fault n) fault → P (Wire NoMemory) → P (Peer n) → P fault
passed P n (Peer f) e none some = let same : n ≡ f = cc in subst (λ g. P (Peer g)) same some
passed P n (Wire NoMemory) e none some = none
passed P n (Wire Truncated) e none some = absurd e
passed P n (Wire TooLong) e none some = absurd e
passed P n (Wire BadKind) e none some = absurd e
passed P n (Wire BadBody) e none some = absurd e
passed P n (Wire Io) e none some = absurd e
passed P n Closed e none some = absurd e
passed P n BadReply e none some = absurd e

-- 2. A load

module _ (lps : ℕ) (raw : Raw) (l : Load) where
  begun_of : (lacks : Bool) → frame_in raw.kind raw.body ≡ Some (frame.Load l) → begun lacks lps raw ≡ Ok (begun_by (load_at lacks lps l))
  unfolding begun
  begun_of lacks is =
      let within = load_within raw.kind raw.body l is in
      ap (λ (k : FrameKind). begun_with lacks lps k raw.body) within.0 ∙ ap (on_load lacks lps) within.1

  made_by : (b : Begun) → frame_in raw.kind raw.body ≡ Some (frame.Load l) → Begins lps raw (Ok b) → (lacks : Bool) × (b ≡ begun_by (load_at lacks lps l))
  made_by b is (lacks, inl e) = (let same = e ∙ begun_of lacks is in (lacks, cc))
  made_by b is (lacks, inr e) = absurd (cc)

  abbrev load_by : Bool → Option NodeFault → Result Node NodeFault
  load_by true o = lacking o
  load_by false (Some fault) = Err fault
  load_by false None = Ok (loaded_node lps l)

  load_by_is : (lacks : Bool) (o : Option NodeFault) → load_refusal lps l ≡ o → load_at lacks lps l ≡ load_by lacks o
  load_by_is true o e = ap lacking e
  load_by_is false (Some fault) e = rw (e, load_answer) refl
  load_by_is false None e = rw (e, load_answer) refl

  pub node_made : (n : Node) → frame_in raw.kind raw.body ≡ Some (frame.Load l) → Begins lps raw (Ok (Loaded n)) → IsMade lps l n
  node_made n is h = let b = made_by (Loaded n) is h in go b.0 (load_refusal lps l) refl b.1
    where
      go : (lacks : Bool) (o : Option NodeFault) → load_refusal lps l ≡ o → Loaded n ≡ begun_by (load_at lacks lps l) → IsMade lps l n
      go true (Some fault) e b = absurd (let c = b ∙ ap begun_by (load_by_is true (Some fault) e) in cc)
      go true None e b = absurd (let c = b ∙ ap begun_by (load_by_is true None e) in cc)
      go false (Some fault) e b = absurd (let c = b ∙ ap begun_by (load_by_is false (Some fault) e) in cc)
      go false None e b = (let c = b ∙ ap begun_by (load_by_is false None e) in (e, cc))

  load_refused : (text : List ℕ) → frame_in raw.kind raw.body ≡ Some (frame.Load l) → Begins lps raw (Ok (Refused text)) →
      (n : NodeFault) × IsEncoded text (frame.Fault n) [] × IsLoadCause lps l (Peer n)
  load_refused text is h = let b = made_by (Refused text) is h in go b.0 (load_refusal lps l) refl b.1
    where
      go : (lacks : Bool) (o : Option NodeFault) → load_refusal lps l ≡ o → Refused text ≡ begun_by (load_at lacks lps l) →
          (n : NodeFault) × IsEncoded text (frame.Fault n) [] × IsLoadCause lps l (Peer n)
      go true (Some fault) e b = (let c = b ∙ ap begun_by (load_by_is true (Some fault) e) in (fault, encoded_fault text fault (cc), inl e))
      go true None e b = (let c = b ∙ ap begun_by (load_by_is true None e) in (node.NoMemory, encoded_fault text node.NoMemory (cc), inr (e, refl)))
      go false (Some fault) e b = (let c = b ∙ ap begun_by (load_by_is false (Some fault) e) in (fault, encoded_fault text fault (cc), inl e))
      go false None e b = absurd (let c = b ∙ ap begun_by (load_by_is false None e) in cc)

  pub load_fault : (text : List ℕ) (fault : PortFault) → frame_in raw.kind raw.body ≡ Some (frame.Load l) → Begins lps raw (Ok (Refused text)) →
      ((f : Frame) → IsEncoded text f [] → IsReadOf f fault) → IsLoadCause lps l fault
  load_fault text fault is h read =
      let r = load_refused text is h in
      passed (IsLoadCause lps l) r.0 fault (read (frame.Fault r.0) r.1) tt r.2

  -- a refusal is not read as a reply
  pub load_reply : (text : List ℕ) (reply : Reply) → frame_in raw.kind raw.body ≡ Some (frame.Load l) → Begins lps raw (Ok (Refused text)) →
      ((f : Frame) → IsEncoded text f [] → f ≡ frame.Reply reply) → ⊥
  load_reply text reply is h read =
      let r = load_refused text is h in
      let e = read (frame.Fault r.0) r.1 in
      cc

  pub load_unmade : (fault : WireFault) → frame_in raw.kind raw.body ≡ Some (frame.Load l) → Begins lps raw (Err fault) → IsLoadCause lps l (Wire fault)
  load_unmade fault is (lacks, inl e) = absurd (let other = e ∙ begun_of lacks is in cc)
  load_unmade fault is (lacks, inr e) = let same : fault ≡ NoMemory = cc in subst (λ g. IsLoadCause lps l (Wire g)) (sym same) tt

-- 3. A parcel

-- the frame of an answer, and the node after it
abbrev pub IsOutcome : Meaning → Node → Parcel → Node → Frame → Type 0
IsOutcome m old p new (frame.Reply r) = IsReplyBy (answer m old p) new r × (length (reply_bytes r) ≤ 2 ^ 24)
IsOutcome m old p new (frame.Fault n) = IsTakeCause m old p (Peer n)
IsOutcome m old p new (frame.Load l) = ⊥
IsOutcome m old p new (frame.Parcel q) = ⊥

module _ (m : Meaning) (old new : Node) (raw : Raw) (p : Parcel) where
  reaction_of : (lacks : Bool) → frame_in raw.kind raw.body ≡ Some (frame.Parcel p) → reaction lacks m old raw ≡ on_parcel lacks m old (Some p)
  unfolding reaction
  reaction_of lacks is =
      let within = parcel_within raw.kind raw.body p is in
      ap (λ (k : FrameKind). reaction_to lacks m old k raw.body) within.0 ∙ ap (on_parcel lacks m old) within.1

  not_lacking : (o : Option NodeFault) (reply : Reply) → (answer_lacking old o).result ≡ Ok reply → ⊥
  not_lacking (Some fault) reply e = absurd (cc)
  not_lacking None reply e = absurd (cc)

  refused_so : (fault : NodeFault) → refusal old p ≡ Some fault → (answer m old p).result ≡ Err fault
  refused_so fault e = rw (e, answer) refl

  lacking_so : (n : NodeFault) (o : Option NodeFault) → refusal old p ≡ o → (answer_lacking old o).result ≡ Err n → IsTakeCause m old p (Peer n)
  lacking_so n (Some fault) e h = let same : fault ≡ n = cc in inl (refused_so fault e ∙ ap Err same)
  lacking_so n None e h = inr (e, cc)

  fault_so : (lacks : Bool) (n : NodeFault) → (answer_at lacks m old p).result ≡ Err n → IsTakeCause m old p (Peer n)
  fault_so false n e = inl e
  fault_so true n e = lacking_so n (refusal old p) refl e

  abbrev Out : Response → Type 0
  Out response = (f : Frame) × IsEncoded response.frame f [] × IsOutcome m old p new f

  replied_so : (lacks : Bool) (reply : Reply) (response : Response) → parcel_in raw.body ≡ Some p → (answer_at lacks m old p).result ≡ Ok reply → new ≡ (answer_at lacks m old p).node →
      RepliesInRange m old raw response → Ok response ≡ response_to (Ok reply) → Out response
  replied_so true reply response body e n range is = absurd (not_lacking (refusal old p) reply e)
  replied_so false reply response body e n range is = elim (cases_lt (2 ^ 24) (length (reply_bytes reply))) [
    | inl long ↦ absurd (let t = lt-ltb (2 ^ 24) (length (reply_bytes reply)) long in let c : Ok response ≡ Err TooLong = rw t at is in cc)
    | inr short ↦
        let t = le-ltb (2 ^ 24) (length (reply_bytes reply)) short in
        let c : Ok response ≡ Ok (record { frame = frame_bytes (frame.Reply reply); goes_on = true }) = rw t at is in
        let same : response ≡ record { frame = frame_bytes (frame.Reply reply); goes_on = true } = cc in
        let in_range = subst (λ (r : Result Reply NodeFault). IfOk r IsReply) e (range p body (ap (λ (r : Response). r.goes_on) same)) in
        (frame.Reply reply, encoded_as response.frame (frame.Reply reply) (ap (λ (r : Response). r.frame) same) in_range short, ((e, n), short))
  ]

  answered_so : (lacks : Bool) (r : Result Reply NodeFault) (response : Response) → parcel_in raw.body ≡ Some p → (answer_at lacks m old p).result ≡ r → new ≡ (answer_at lacks m old p).node →
      RepliesInRange m old raw response → Ok response ≡ response_to r → Out response
  answered_so lacks (Ok reply) response body e n range is = replied_so lacks reply response body e n range is
  answered_so lacks (Err fault) response body e n range is =
      let same : response ≡ record { frame = frame_bytes (frame.Fault fault); goes_on = false } = cc in
      (frame.Fault fault, encoded_fault response.frame fault (ap (λ (r : Response). r.frame) same), fault_so lacks fault e)

  answered : (response : Response) → frame_in raw.kind raw.body ≡ Some (frame.Parcel p) → Reacts m old new raw (Ok response) → RepliesInRange m old raw response → Out response
  answered response is (lacks, inl e) range =
      let of = reaction_of lacks is in
      answered_so lacks (answer_at lacks m old p).result response (parcel_within raw.kind raw.body p is).1 refl (e.1 ∙ ap (λ (r : Reaction). r.node) of) range (e.0 ∙ ap (λ (r : Reaction). r.response) of)
  answered response is (lacks, inr e) range = absurd (cc)

  outcome_reply : (f : Frame) (reply : Reply) → IsOutcome m old p new f → f ≡ frame.Reply reply → IsReplyBy (answer m old p) new reply × (length (reply_bytes reply) ≤ 2 ^ 24)
  outcome_reply f reply h e = subst (IsOutcome m old p new) e h

  outcome_fault : (f : Frame) (fault : PortFault) → IsOutcome m old p new f → IsReadOf f fault → IsTakeCause m old p fault
  outcome_fault (frame.Fault n) fault h read = passed (IsTakeCause m old p) n fault read tt h
  outcome_fault (frame.Reply r) fault h read = reply_fault (IsTakeCause m old p) r fault read tt
  outcome_fault (frame.Load l) fault h read = absurd h
  outcome_fault (frame.Parcel q) fault h read = absurd h

  module _ (response : Response) (is : frame_in raw.kind raw.body ≡ Some (frame.Parcel p)) (h : Reacts m old new raw (Ok response)) (range : RepliesInRange m old raw response) where
    pub take_ok : (r : Result Reply PortFault) →
        ((f : Frame) → IsEncoded response.frame f [] → IfOk r (λ reply. f ≡ frame.Reply reply)) → IfOk r (λ reply. IsReplyBy (answer m old p) new reply × (length (reply_bytes reply) ≤ 2 ^ 24))
    take_ok (Ok reply) read = let out = answered response is h range in outcome_reply out.0 reply out.2 (read out.0 out.1)
    take_ok (Err fault) read = tt

    pub take_err : (r : Result Reply PortFault) →
        ((f : Frame) → IsEncoded response.frame f [] → IfErr r (λ fault. IsReadOf f fault)) → IfErr r (λ fault. IsTakeCause m old p fault)
    take_err (Ok reply) read = tt
    take_err (Err fault) read = let out = answered response is h range in outcome_fault out.0 fault out.2 (read out.0 out.1)

  -- no frame came back
  long_so : (lacks : Bool) (r : Result Reply NodeFault) (fault : WireFault) → (answer_at lacks m old p).result ≡ r → Err fault ≡ response_to r → IsTakeCause m old p (Wire fault)
  long_so true (Ok reply) fault e is = absurd (not_lacking (refusal old p) reply e)
  long_so false (Ok reply) fault e is = elim (cases_lt (2 ^ 24) (length (reply_bytes reply))) [
    | inl long ↦
        let t = lt-ltb (2 ^ 24) (length (reply_bytes reply)) long in
        let c : Err fault ≡ Err TooLong = rw t at is in
        let same : fault ≡ TooLong = cc in
        subst (λ g. IsTakeCause m old p (Wire g)) (sym same) (record { reply = reply; is = e; long = long })
    | inr short ↦ absurd (
        let t = le-ltb (2 ^ 24) (length (reply_bytes reply)) short in
        let c : Err fault ≡ Ok (record { frame = frame_bytes (frame.Reply reply); goes_on = true }) = rw t at is in
        cc)
  ]
  long_so lacks (Err n) fault e is = absurd (cc)

  pub take_unsent : (fault : WireFault) → frame_in raw.kind raw.body ≡ Some (frame.Parcel p) → Reacts m old new raw (Err fault) → IsTakeCause m old p (Wire fault)
  take_unsent fault is (lacks, inl e) = long_so lacks (answer_at lacks m old p).result fault refl (e.0 ∙ ap (λ (r : Reaction). r.response) (reaction_of lacks is))
  take_unsent fault is (lacks, inr e) = let same : fault ≡ NoMemory = cc in subst (λ g. IsTakeCause m old p (Wire g)) (sym same) tt

-- both of two facts about an answer
pub both_ok : (P Q : Reply → Type 0) (r : Result Reply PortFault) → IfOk r (λ reply. P reply × Q reply) → IfOk r P × IfOk r Q
both_ok P Q (Ok reply) h = h
both_ok P Q (Err fault) h = (tt, tt)
