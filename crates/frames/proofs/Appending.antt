-- Texts that are appended one after another.
use Rattle.std.proofs.Common.{◌≡◌, ℕ, List, ◌++◌, length, ap, ◌∙◌, append_assoc}
use Rattle.std.specs.List.{flat_map}
use Rattle.byteorder.specs.Endian.{big_bytes}
use Rattle.eventkey.specs.Encoding.{message_bytes, signed_bytes}
use Rattle.node.specs.declared.Load.{Load}
use Rattle.node.specs.declared.Parcel.{Parcel}
use Rattle.node.specs.declared.Part.{Part}
use Rattle.model.specs.Encoding.{words_bytes}
use Rattle.process.specs.Reports.{counted_bytes}
use Rattle.frames.specs.Bodies.{load_bytes, parcel_bytes, part_bytes}

behind : (v w z x y : List ℕ) → w ≡ v ++ x → z ≡ w ++ y → z ≡ v ++ (x ++ y)
behind v w z x y e f = f ∙ ap (λ (l : List ℕ). l ++ y) e ∙ append_assoc v x y

module _ (v0 v1 v2 v3 v4 : List ℕ) where
  pub parcel_joined : (p : Parcel) → v1 ≡ v0 ++ big_bytes 4 (length p.deliver) → v2 ≡ v1 ++ flat_map signed_bytes p.deliver → v3 ≡ v2 ++ big_bytes 4 p.budget → v4 ≡ v3 ++ big_bytes 8 p.floor → v4 ≡ v0 ++ parcel_bytes p
  unfolding parcel_bytes
  parcel_joined p e1 e2 e3 e4 =
      let count = big_bytes 4 (length p.deliver) in
      let each = flat_map signed_bytes p.deliver in
      behind v0 v2 v4 (count ++ each) (big_bytes 4 p.budget ++ big_bytes 8 p.floor) (behind v0 v1 v2 count each e1 e2) (behind v2 v3 v4 (big_bytes 4 p.budget) (big_bytes 8 p.floor) e3 e4)

  pub part_joined : (v5 : List ℕ) (p : Part) → v1 ≡ v0 ++ big_bytes 4 p.lp → v2 ≡ v1 ++ big_bytes 8 p.number → v3 ≡ v2 ++ words_bytes p.words → v4 ≡ v3 ++ big_bytes 4 (length p.pending) →
      v5 ≡ v4 ++ flat_map message_bytes p.pending → v5 ≡ v0 ++ part_bytes p
  unfolding part_bytes
  part_joined v5 p e1 e2 e3 e4 e5 =
      let pending = counted_bytes 4 message_bytes p.pending in
      let words = words_bytes p.words in
      behind v0 v1 v5 (big_bytes 4 p.lp) (big_bytes 8 p.number ++ (words ++ pending)) e1
      (behind v1 v2 v5 (big_bytes 8 p.number) (words ++ pending) e2
      (behind v2 v3 v5 words pending e3 (behind v3 v4 v5 (big_bytes 4 (length p.pending)) (flat_map message_bytes p.pending) e4 e5)))

  pub load_joined : (v5 v6 : List ℕ) (l : Load) → v1 ≡ v0 ++ big_bytes 4 l.node → v2 ≡ v1 ++ big_bytes 4 l.nodes → v3 ≡ v2 ++ big_bytes 8 l.end → v4 ≡ v3 ++ big_bytes 8 l.floor →
      v5 ≡ v4 ++ big_bytes 4 (length l.parts) → v6 ≡ v5 ++ flat_map part_bytes l.parts → v6 ≡ v0 ++ load_bytes l
  unfolding load_bytes
  load_joined v5 v6 l e1 e2 e3 e4 e5 e6 =
      let parts = counted_bytes 4 part_bytes l.parts in
      behind v0 v1 v6 (big_bytes 4 l.node) (big_bytes 4 l.nodes ++ (big_bytes 8 l.end ++ (big_bytes 8 l.floor ++ parts))) e1
      (behind v1 v2 v6 (big_bytes 4 l.nodes) (big_bytes 8 l.end ++ (big_bytes 8 l.floor ++ parts)) e2
      (behind v2 v3 v6 (big_bytes 8 l.end) (big_bytes 8 l.floor ++ parts) e3
      (behind v3 v4 v6 (big_bytes 8 l.floor) parts e4 (behind v4 v5 v6 (big_bytes 4 (length l.parts)) (flat_map part_bytes l.parts) e5 e6))))
