-- Whole bodies: each has one encoding, no other bytes are read, and no byte is left over.
use Rattle.std.proofs.Common.{◌≡◌, ℕ, ◌^◌, ◌<◌, ◌≤◌, Bool, true, cond, List, [], ◌∷◌, ◌++◌, length, Option, Some, None, refl, sym, ap, subst, ◌∙◌, arith, inl, inr, eqb-true}
use Rattle.std.specs.Prelude.{nat_le, nat_lt, nat_eq, ◌&&◌, IfOk, IfSome, Result, Ok, Err}
use Rattle.std.proofs.lemmas.Bool.{and_from, and_parts, leb-true, le-leb, ltb-true, lt-ltb}
use Rattle.std.proofs.lemmas.List.{nil_from_length}
use Rattle.std.proofs.lemmas.Option.{cond_some, none-some}
use Rattle.byteorder.specs.Endian.{big_bytes}
use Rattle.eventkey.proofs.Readings.{first_number}
use Rattle.eventkey.specs.Reading.{IsBytes, ◌>>=◌, number_at, items_at}
use Rattle.eventkey.specs.declared.Signed.{Signed}
use Rattle.eventkey.proofs.Fields.{Takes-then, format4, format8, step_of, when_some}
use Rattle.eventkey.proofs.Readings.{signed_format}
use Rattle.node.specs.declared.Load.{Load}
use Rattle.node.specs.declared.NodeFault.{NodeFault}
use Rattle.node.specs.declared.NodeFault.TheVariants as node
use Rattle.node.specs.declared.Parcel.{Parcel}
use Rattle.node.specs.declared.Part.{Part}
use Rattle.node.specs.declared.Reply.{Reply}
use Rattle.process.specs.declared.Done.{Done}
use Rattle.process.proofs.Formats.{Field, again_last, again_step, done_format}
use Rattle.process.specs.Reports.{counted_bytes, done_at, done_bytes}
use Rattle.frames.specs.Bodies.{fault_bytes, fault_in, fault_of, is_place, load_bytes, load_in, low_at, low_bytes, number_of, parcel_bytes, parcel_in, part_at, part_bytes, reply_bytes, reply_in}
use Rattle.frames.specs.Ranges.{IsLoad, IsParcel, IsReply}
use Rattle.frames.proofs.Formats.{counted_again, counted_last, counted_step, pick, whole}
use Rattle.frames.proofs.Items.{low_format, part_format}

-- nothing is left over
abbrev pub alone : {X : Type 0} → List ℕ → X → Option X
alone rest x = cond (nat_eq (length rest) 0) (Some x) None

-- 1. A load

abbrev load_read : ℕ → ℕ → ℕ → ℕ → List Part × List ℕ → Option Load
load_read node nodes end floor parts =
    cond (is_place node nodes end floor && nat_eq (length parts.1) 0) (Some (record { node = node; nodes = nodes; end = end; floor = floor; parts = parts.0 })) None

abbrev load_after_floor : ℕ → ℕ → ℕ → Field → Option Load
load_after_floor node nodes end floor = number_at 4 floor.1 >>= λ count. items_at part_at count.0 count.1 >>= load_read node nodes end floor.0

abbrev load_after_end : ℕ → ℕ → Field → Option Load
load_after_end node nodes end = number_at 8 end.1 >>= load_after_floor node nodes end.0

abbrev load_after_nodes : ℕ → Field → Option Load
load_after_nodes node nodes = number_at 8 nodes.1 >>= load_after_end node nodes.0

abbrev load_after_node : Field → Option Load
load_after_node node = number_at 4 node.1 >>= load_after_nodes node.0

record IsPlace (node nodes end floor : ℕ) : Type 0 where
  pub node_is : node < nodes
  pub nodes_are : nodes ≤ 64
  pub some : 1 ≤ end
  pub end_is : end ≤ 2 ^ 40
  pub floor_is : floor ≤ end

place_from : (node nodes end floor : ℕ) → is_place node nodes end floor ≡ true → IsPlace node nodes end floor
place_from node nodes end floor e =
    let a = and_parts (nat_lt node nodes) (nat_le nodes 64 && (nat_le 1 end && (nat_le end (2 ^ 40) && nat_le floor end))) e in
    let b = and_parts (nat_le nodes 64) (nat_le 1 end && (nat_le end (2 ^ 40) && nat_le floor end)) a.1 in
    let c = and_parts (nat_le 1 end) (nat_le end (2 ^ 40) && nat_le floor end) b.1 in
    let d = and_parts (nat_le end (2 ^ 40)) (nat_le floor end) c.1 in
    record {
      node_is = ltb-true node nodes a.0;
      nodes_are = leb-true nodes 64 b.0;
      some = leb-true 1 end c.0;
      end_is = leb-true end (2 ^ 40) d.0;
      floor_is = leb-true floor end d.1;
    }

place_is : (l : Load) → IsLoad l → is_place l.node l.nodes l.end l.floor ≡ true
place_is l is =
    and_from _ _ (lt-ltb l.node l.nodes is.node)
    (and_from _ _ (le-leb l.nodes 64 is.nodes)
    (and_from _ _ (le-leb 1 l.end is.some) (and_from _ _ (le-leb l.end (2 ^ 40) is.end) (le-leb l.floor l.end is.floor))))

pub load_takes : (bytes : List ℕ) (l : Load) → IsBytes bytes → load_in bytes ≡ Some l → (bytes ≡ load_bytes l) × IsLoad l
unfolding load_in load_bytes
load_takes bytes l fits e =
    let node = step_of format4 bytes fits load_after_node l e in
    let nodes = step_of format4 node.got.1 node.front.fits (load_after_nodes node.got.0) l node.rest in
    let end = step_of format8 nodes.got.1 nodes.front.fits (load_after_end node.got.0 nodes.got.0) l nodes.rest in
    let floor = step_of format8 end.got.1 end.front.fits (load_after_floor node.got.0 nodes.got.0 end.got.0) l end.rest in
    let parts = counted_step part_format floor.got.1 floor.front.fits (load_read node.got.0 nodes.got.0 end.got.0 floor.got.0) l floor.rest in
    let made : Load = record { node = node.got.0; nodes = nodes.got.0; end = end.got.0; floor = floor.got.0; parts = parts.got.0 } in
    let is = cond_some (is_place node.got.0 nodes.got.0 end.got.0 floor.got.0 && nat_eq (length parts.got.1) 0) made l parts.rest in
    let tests = and_parts (is_place node.got.0 nodes.got.0 end.got.0 floor.got.0) (nat_eq (length parts.got.1) 0) is.0 in
    let place = place_from node.got.0 nodes.got.0 end.got.0 floor.got.0 tests.0 in
    let none : parts.got.1 ≡ [] = nil_from_length parts.got.1 (eqb-true (length parts.got.1) 0 tests.1) in
    let front = Takes-then _ _ _ _ _ node.front (Takes-then _ _ _ _ _ nodes.front (Takes-then _ _ _ _ _ end.front (Takes-then _ _ _ _ _ floor.front parts.front))) in
    subst (λ (y : Load). (bytes ≡ load_bytes y) × IsLoad y) is.1 (
      whole bytes (load_bytes made) parts.got.1 front none,
      record { node = place.node_is; nodes = place.nodes_are; some = place.some; end = place.end_is; floor = place.floor_is; count = parts.is.0; parts = parts.is.1 },
    )

pub load_again : (l : Load) (rest : List ℕ) → IsLoad l → load_in (load_bytes l ++ rest) ≡ alone rest l
unfolding load_in load_bytes
load_again l rest is =
    let node = is.node in
    let nodes = is.nodes in
    let end = is.end in
    let floor = is.floor in
    let parts = counted_bytes 4 part_bytes l.parts in
    again_step format4 l.node (big_bytes 4 l.nodes ++ (big_bytes 8 l.end ++ (big_bytes 8 l.floor ++ parts))) rest load_after_node (omega arith)
    ∙ again_step format4 l.nodes (big_bytes 8 l.end ++ (big_bytes 8 l.floor ++ parts)) rest (load_after_nodes l.node) (omega arith)
    ∙ again_step format8 l.end (big_bytes 8 l.floor ++ parts) rest (load_after_end l.node l.nodes) (omega arith)
    ∙ again_step format8 l.floor parts rest (load_after_floor l.node l.nodes l.end) (omega arith)
    ∙ counted_last part_format l.parts rest (load_read l.node l.nodes l.end l.floor) is.count is.parts
    ∙ ap (λ (b : Bool). cond (b && nat_eq (length rest) 0) (Some l) None) (place_is l is)

-- a load that was read is in range
pub load_in_range : {E : Type 0} (bytes : List ℕ) (result : Result (Option Load) E) → IsBytes bytes → IfOk result (λ load. load ≡ load_in bytes) → IfOk result (λ load. IfSome load IsLoad)
load_in_range bytes (Ok (Some l)) fits e = (load_takes bytes l fits (sym e)).1
load_in_range bytes (Ok None) fits e = tt
load_in_range bytes (Err fault) fits e = tt

-- 2. A parcel

abbrev parcel_read : List Signed → ℕ → Field → Option Parcel
parcel_read deliver budget floor = cond (nat_le floor.0 (2 ^ 40) && nat_eq (length floor.1) 0) (Some (record { deliver = deliver; budget = budget; floor = floor.0 })) None

abbrev parcel_after_budget : List Signed → Field → Option Parcel
parcel_after_budget deliver budget = number_at 8 budget.1 >>= parcel_read deliver budget.0

abbrev parcel_after_deliver : List Signed × List ℕ → Option Parcel
parcel_after_deliver deliver = number_at 4 deliver.1 >>= parcel_after_budget deliver.0

pub parcel_takes : (bytes : List ℕ) (p : Parcel) → IsBytes bytes → parcel_in bytes ≡ Some p → (bytes ≡ parcel_bytes p) × IsParcel p
unfolding parcel_in parcel_bytes
parcel_takes bytes p fits e =
    let deliver = counted_step signed_format bytes fits parcel_after_deliver p e in
    let budget = step_of format4 deliver.got.1 deliver.front.fits (parcel_after_budget deliver.got.0) p deliver.rest in
    let floor = step_of format8 budget.got.1 budget.front.fits (parcel_read deliver.got.0 budget.got.0) p budget.rest in
    let made : Parcel = record { deliver = deliver.got.0; budget = budget.got.0; floor = floor.got.0 } in
    let is = cond_some (nat_le floor.got.0 (2 ^ 40) && nat_eq (length floor.got.1) 0) made p floor.rest in
    let tests = and_parts (nat_le floor.got.0 (2 ^ 40)) (nat_eq (length floor.got.1) 0) is.0 in
    let none : floor.got.1 ≡ [] = nil_from_length floor.got.1 (eqb-true (length floor.got.1) 0 tests.1) in
    let front = Takes-then _ _ _ _ _ deliver.front (Takes-then _ _ _ _ _ budget.front floor.front) in
    subst (λ (y : Parcel). (bytes ≡ parcel_bytes y) × IsParcel y) is.1 (
      whole bytes (parcel_bytes made) floor.got.1 front none,
      record { count = deliver.is.0; deliver = deliver.is.1; budget = budget.is; floor = leb-true floor.got.0 (2 ^ 40) tests.0 },
    )

pub parcel_again : (p : Parcel) (rest : List ℕ) → IsParcel p → parcel_in (parcel_bytes p ++ rest) ≡ alone rest p
unfolding parcel_in parcel_bytes
parcel_again p rest is =
    let floor = is.floor in
    counted_again signed_format p.deliver (big_bytes 4 p.budget ++ big_bytes 8 p.floor) rest parcel_after_deliver is.count is.deliver
    ∙ again_step format4 p.budget (big_bytes 8 p.floor) rest (parcel_after_budget p.deliver) is.budget
    ∙ again_last format8 p.floor rest (parcel_read p.deliver p.budget) (omega arith)
    ∙ ap (λ (b : Bool). cond (b && nat_eq (length rest) 0) (Some p) None) (le-leb p.floor (2 ^ 40) floor)

-- 3. A reply

abbrev reply_read : List Signed → Option ℕ → List Done → Field → Option Reply
reply_read out low fossils ran = cond (nat_eq (length ran.1) 0) (Some (record { out = out; low = low; fossils = fossils; ran = ran.0 })) None

abbrev reply_after_fossils : List Signed → Option ℕ → List Done × List ℕ → Option Reply
reply_after_fossils out low fossils = number_at 4 fossils.1 >>= reply_read out low fossils.0

abbrev reply_after_low : List Signed → Option ℕ × List ℕ → Option Reply
reply_after_low out low = number_at 4 low.1 >>= λ known. items_at done_at known.0 known.1 >>= reply_after_fossils out low.0

abbrev reply_after_out : List Signed × List ℕ → Option Reply
reply_after_out out = low_at out.1 >>= reply_after_low out.0

pub reply_takes : (bytes : List ℕ) (r : Reply) → IsBytes bytes → reply_in bytes ≡ Some r → (bytes ≡ reply_bytes r) × IsReply r
unfolding reply_in reply_bytes
reply_takes bytes r fits e =
    let out = counted_step signed_format bytes fits reply_after_out r e in
    let low = step_of low_format out.got.1 out.front.fits (reply_after_low out.got.0) r out.rest in
    let fossils = counted_step done_format low.got.1 low.front.fits (reply_after_fossils out.got.0 low.got.0) r low.rest in
    let ran = step_of format4 fossils.got.1 fossils.front.fits (reply_read out.got.0 low.got.0 fossils.got.0) r fossils.rest in
    let made : Reply = record { out = out.got.0; low = low.got.0; fossils = fossils.got.0; ran = ran.got.0 } in
    let is = cond_some (nat_eq (length ran.got.1) 0) made r ran.rest in
    let none : ran.got.1 ≡ [] = nil_from_length ran.got.1 (eqb-true (length ran.got.1) 0 is.0) in
    let front = Takes-then _ _ _ _ _ out.front (Takes-then _ _ _ _ _ low.front (Takes-then _ _ _ _ _ fossils.front ran.front)) in
    subst (λ (y : Reply). (bytes ≡ reply_bytes y) × IsReply y) is.1 (
      whole bytes (reply_bytes made) ran.got.1 front none,
      record { count = out.is.0; out = out.is.1; low = low.is; known = fossils.is.0; fossils = fossils.is.1; ran = ran.is },
    )

pub reply_again : (r : Reply) (rest : List ℕ) → IsReply r → reply_in (reply_bytes r ++ rest) ≡ alone rest r
unfolding reply_in reply_bytes
reply_again r rest is =
    let fossils = counted_bytes 4 done_bytes r.fossils in
    counted_again signed_format r.out (low_bytes r.low ++ (fossils ++ big_bytes 4 r.ran)) rest reply_after_out is.count is.out
    ∙ again_step low_format r.low (fossils ++ big_bytes 4 r.ran) rest (reply_after_low r.out) is.low
    ∙ counted_again done_format r.fossils (big_bytes 4 r.ran) rest (reply_after_fossils r.out r.low) is.known is.fossils
    ∙ again_last format4 r.ran rest (reply_read r.out r.low r.fossils) is.ran

-- 4. A fault

abbrev fault_read : Field → Option NodeFault
fault_read number = cond (nat_eq (length number.1) 0) (fault_of number.0) None

fault_of_number : (f : NodeFault) → fault_of (number_of f) ≡ Some f
fault_of_number node.NotMine = refl
fault_of_number node.BelowFloor = refl
fault_of_number node.NoMemory = refl
fault_of_number node.NumberLimit = refl
fault_of_number node.Spent = refl
fault_of_number node.FloorFell = refl

number_of_fault : (b : ℕ) (f : NodeFault) → fault_of b ≡ Some f → b ≡ number_of f
number_of_fault b f e = elim (pick b 1 node.NotMine f _ e) [
  | inl h ↦ h.0 ∙ ap number_of h.1
  | inr e ↦ elim (pick b 2 node.BelowFloor f _ e) [
    | inl h ↦ h.0 ∙ ap number_of h.1
    | inr e ↦ elim (pick b 3 node.NoMemory f _ e) [
      | inl h ↦ h.0 ∙ ap number_of h.1
      | inr e ↦ elim (pick b 4 node.NumberLimit f _ e) [
        | inl h ↦ h.0 ∙ ap number_of h.1
        | inr e ↦ elim (pick b 5 node.Spent f _ e) [
          | inl h ↦ h.0 ∙ ap number_of h.1
          | inr e ↦ elim (pick b 6 node.FloorFell f _ e) [
            | inl h ↦ h.0 ∙ ap number_of h.1
            | inr e ↦ absurd (none-some f e)
          ]
        ]
      ]
    ]
  ]
]

no_number : number_at 1 [] ≡ None
unfolding number_at
no_number = refl

fault_takes_number : (bytes : List ℕ) (f : NodeFault) → (number_at 1 bytes >>= fault_read) ≡ Some f → bytes ≡ number_of f ∷ []
fault_takes_number [] f e = absurd (none-some f (sym (ap (λ (o : Option Field). o >>= fault_read) no_number) ∙ e))
fault_takes_number (b ∷ rest) f e =
    let known : fault_read (b, rest) ≡ Some f = sym (ap (λ (o : Option Field). o >>= fault_read) (first_number b rest)) ∙ e in
    let is = when_some (nat_eq (length rest) 0) (fault_of b) f known in
    ap (λ (r : List ℕ). b ∷ r) (nil_from_length rest (eqb-true (length rest) 0 is.0)) ∙ ap (λ (n : ℕ). n ∷ []) (number_of_fault b f is.1)

pub length-fault : (f : NodeFault) → length (fault_bytes f) ≡ 1
unfolding fault_bytes
length-fault f = refl

pub fault_takes : (bytes : List ℕ) (f : NodeFault) → fault_in bytes ≡ Some f → bytes ≡ fault_bytes f
unfolding fault_in fault_bytes
fault_takes bytes f e = fault_takes_number bytes f e

pub fault_again : (f : NodeFault) (rest : List ℕ) → fault_in (fault_bytes f ++ rest) ≡ alone rest f
unfolding fault_in fault_bytes
fault_again f rest =
    ap (λ (o : Option Field). o >>= fault_read) (first_number (number_of f) rest) ∙ ap (λ (o : Option NodeFault). cond (nat_eq (length rest) 0) o None) (fault_of_number f)
