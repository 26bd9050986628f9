-- The bytes of a frame are read back as that frame.
use Rattle.std.proofs.Common.{◌≡◌, ℕ, ◌^◌, ◌≤◌, List, [], length, Option, Some, None, refl, sym, ap, subst, ◌∙◌, append-nil, arith}
use Rattle.node.specs.declared.Load.{Load}
use Rattle.node.specs.declared.NodeFault.{NodeFault}
use Rattle.node.specs.declared.Parcel.{Parcel}
use Rattle.eventkey.specs.Reading.{◌>>=◌}
use Rattle.frames.proofs.Frames.{frames_are_read_back, frames_are_read_whole}
use Rattle.frames.proofs.Whole.{length-fault}
use Rattle.frames.specs.Bodies.{body_bytes, fault_in, frame_bytes, frame_in, load_in, parcel_in, reply_in, seen_as}
use Rattle.frames.specs.Cutting.{Cut, frame_cut, raw_in, whole_in}
use Rattle.frames.specs.Laws.{IsEncoded}
use Rattle.frames.specs.Ranges.{IsInRange}
use Rattle.frames.specs.declared.Frame.{Frame}
use Rattle.frames.specs.declared.Frame.TheVariants as frame
use Rattle.frames.specs.declared.FrameKind.{FrameKind}
use Rattle.frames.specs.declared.FrameKind.TheVariants as kind
use Rattle.frames.specs.declared.stream.Raw.{Raw}
use Rattle.loopback.specs.Loop.{parcel_of, posted_in}

-- 1. Bytes of a frame

pub encoded_as : (bytes : List ℕ) (f : Frame) → bytes ≡ frame_bytes f → IsInRange f → length (body_bytes f) ≤ 2 ^ 24 → IsEncoded bytes f []
encoded_as bytes f e range fits = record { encoded = e ∙ sym (append-nil (frame_bytes f)); in_range = range; fits = fits }

pub encoded_fault : (bytes : List ℕ) (n : NodeFault) → bytes ≡ frame_bytes (frame.Fault n) → IsEncoded bytes (frame.Fault n) []
encoded_fault bytes n e = encoded_as bytes (frame.Fault n) e tt (omega (arith, length-fault n))

-- 2. Reading them

whole_is : (bytes : List ℕ) (f : Frame) → IsEncoded bytes f [] → whole_in bytes ≡ Some f
whole_is bytes f is = ap whole_in (is.encoded ∙ append-nil (frame_bytes f)) ∙ frames_are_read_whole f is.in_range is.fits

-- the frame itself
pub got_back : (bytes : List ℕ) (got f : Frame) → Some got ≡ whole_in bytes → IsEncoded bytes f [] → f ≡ got
got_back bytes got f e is = let back = whole_is bytes f is in cc

pub not_none : (bytes : List ℕ) (f : Frame) → None ≡ whole_in bytes → IsEncoded bytes f [] → ⊥
not_none bytes f e is = let none = e ∙ whole_is bytes f is in cc

-- its kind and body
abbrev seen : Option Raw → Option Frame
seen o = o >>= (λ raw. frame_in raw.kind raw.body)

pub raw_back : (bytes : List ℕ) (raw : Raw) (f : Frame) → Some raw ≡ raw_in bytes → IsEncoded bytes f [] → frame_in raw.kind raw.body ≡ Some f
raw_back bytes raw f e is = ap seen e ∙ whole_is bytes f is

pub no_raw : (bytes : List ℕ) (f : Frame) → None ≡ raw_in bytes → IsEncoded bytes f [] → ⊥
no_raw bytes f e is = not_none bytes f (ap seen e) is

-- a parcel that was posted
pub posted_back : (bytes : List ℕ) (p : Parcel) → IsEncoded bytes (frame.Parcel p) [] → posted_in bytes ≡ p
posted_back bytes p is =
    let found = frames_are_read_back (frame.Parcel p) [] is.in_range is.fits in
    ap (λ (b : List ℕ). parcel_of (frame_cut b).found) is.encoded ∙ ap (λ (c : Cut Frame). parcel_of c.found) found

pub posted_encoded : (bytes : List ℕ) (p : Parcel) → IsEncoded bytes (frame.Parcel p) [] → IsEncoded bytes (frame.Parcel (posted_in bytes)) []
posted_encoded bytes p is = subst (λ (q : Parcel). IsEncoded bytes (frame.Parcel q) []) (sym (posted_back bytes p is)) is

-- 3. Bodies of a load and of a parcel

module _ {X : Type 0} (f : X → Frame) where
  not_seen : (g : Frame) → ((x : X) → f x ≡ g → ⊥) → (o : Option X) → seen_as f o ≡ Some g → ⊥
  not_seen g other (Some x) e = other x (cc)
  not_seen g other None e = absurd (cc)

load_seen : (l : Load) (o : Option Load) → seen_as (λ k. frame.Load k) o ≡ Some (frame.Load l) → o ≡ Some l
load_seen l (Some x) e = cc
load_seen l None e = absurd (cc)

parcel_seen : (p : Parcel) (o : Option Parcel) → seen_as (λ q. frame.Parcel q) o ≡ Some (frame.Parcel p) → o ≡ Some p
parcel_seen p (Some x) e = cc
parcel_seen p None e = absurd (cc)

pub load_within : (k : FrameKind) (body : List ℕ) (l : Load) → frame_in k body ≡ Some (frame.Load l) → (k ≡ kind.Load) × (load_in body ≡ Some l)
load_within kind.Load body l e = (refl, load_seen l (load_in body) e)
load_within kind.Parcel body l e = absurd (not_seen (λ p. frame.Parcel p) (frame.Load l) (λ x d. cc) (parcel_in body) e)
load_within kind.Reply body l e = absurd (not_seen (λ r. frame.Reply r) (frame.Load l) (λ x d. cc) (reply_in body) e)
load_within kind.Fault body l e = absurd (not_seen (λ n. frame.Fault n) (frame.Load l) (λ x d. cc) (fault_in body) e)

pub parcel_within : (k : FrameKind) (body : List ℕ) (p : Parcel) → frame_in k body ≡ Some (frame.Parcel p) → (k ≡ kind.Parcel) × (parcel_in body ≡ Some p)
parcel_within kind.Parcel body p e = (refl, parcel_seen p (parcel_in body) e)
parcel_within kind.Load body p e = absurd (not_seen (λ l. frame.Load l) (frame.Parcel p) (λ x d. cc) (load_in body) e)
parcel_within kind.Reply body p e = absurd (not_seen (λ r. frame.Reply r) (frame.Parcel p) (λ x d. cc) (reply_in body) e)
parcel_within kind.Fault body p e = absurd (not_seen (λ n. frame.Fault n) (frame.Parcel p) (λ x d. cc) (fault_in body) e)
