-- An encoding of few bytes has few parts, so that its counts fit their bytes.
use Rattle.std.proofs.Common.{ℕ, suc, ◌^◌, ◌<◌, ◌≤◌, List, [], ◌∷◌, ◌++◌, length, flat_map, arith, length-append}
use Rattle.std.specs.List.{AllByRecursion as Every}
use Rattle.byteorder.specs.Endian.{big_bytes}
use Rattle.byteorder.specs.Numbers.{length-bytes_high_first}
use Rattle.eventkey.proofs.Lists.{Every-both}
use Rattle.eventkey.proofs.Readings.{encodings_are_as_long}
use Rattle.eventkey.specs.Message.{IsRanged, Message}
use Rattle.eventkey.specs.Encoding.{message_bytes, signed_bytes}
use Rattle.eventkey.specs.declared.Signed.{Signed}
use Rattle.node.specs.Handling.{IsInRange, IsReplyInRange}
use Rattle.node.specs.declared.Load.{Load}
use Rattle.node.specs.declared.Parcel.{Parcel}
use Rattle.node.specs.declared.Part.{Part}
use Rattle.node.specs.declared.Reply.{Reply}
use Rattle.process.proofs.ReportBytes.{some_done}
use Rattle.process.specs.Reports.{IsDone, counted_bytes, done_bytes}
use Rattle.wire.specs.Port.{IsLoadInRange}
use Rattle.frames.specs.Bodies.{load_bytes, low_bytes, parcel_bytes, part_bytes, reply_bytes}
use Rattle.frames.specs.Ranges.{IsLoad, IsParcel, IsPart, IsReply}

module _ {X : Type 0} (encoded : X → List ℕ) where
  few : ((x : X) → 1 ≤ length (encoded x)) → (xs : List X) → length xs ≤ length (flat_map encoded xs)
  few some [] = omega arith
  few some (x ∷ xs) = omega (arith, length-append (encoded x) (flat_map encoded xs), some x, few some xs)

  each_short : (most : ℕ) (xs : List X) → length (flat_map encoded xs) ≤ most → Every (λ (x : X). length (encoded x) ≤ most) xs
  each_short most [] h = tt
  each_short most (x ∷ xs) h =
      let both = length-append (encoded x) (flat_map encoded xs) in
      (omega (arith, both, h), each_short most xs (omega (arith, both, h)))

  -- the items take no more bytes than the text that contains them
  counted_within : (xs : List X) (rest : List ℕ) → length (flat_map encoded xs) ≤ length (counted_bytes 4 encoded xs ++ rest)
  counted_within xs rest = omega (arith, length-append (counted_bytes 4 encoded xs) rest, length-append (big_bytes 4 (length xs)) (flat_map encoded xs))

some_message : (x : Message) → 1 ≤ length (message_bytes x)
some_message x = omega (arith, encodings_are_as_long.0 x)

some_signed : (s : Signed) → 1 ≤ length (signed_bytes s)
some_signed s = omega (arith, encodings_are_as_long.1 s)

some_part : (p : Part) → 1 ≤ length (part_bytes p)
unfolding part_bytes
some_part p = omega (arith, length-append {A = ℕ}, length-bytes_high_first 4 p.lp)

pub part_fits : (p : Part) → p.lp < 2 ^ 32 → Every (λ (w : ℕ). w < 2 ^ 64) p.words → Every IsRanged p.pending → IsInRange p → length (part_bytes p) ≤ 2 ^ 24 → IsPart p
unfolding part_bytes
part_fits p lp words pending is short = record {
  lp = lp;
  number = is.number;
  words = (is.words, words);
  count = omega (arith, length-append {A = ℕ}, few message_bytes some_message p.pending, short);
  pending = pending;
}

pub load_fits : (l : Load) → Every (λ (p : Part). IsInRange p → length (part_bytes p) ≤ 2 ^ 24 → IsPart p) l.parts → IsLoadInRange l → length (load_bytes l) ≤ 2 ^ 24 → IsLoad l
unfolding load_bytes
load_fits l fits is short =
    let parts : length (flat_map part_bytes l.parts) ≤ 2 ^ 24 = omega (arith, length-append {A = ℕ}, short) in
    let ranged = Every-both (λ (p : Part). IsInRange p → length (part_bytes p) ≤ 2 ^ 24 → IsPart p) IsInRange (λ (p : Part). length (part_bytes p) ≤ 2 ^ 24 → IsPart p) (λ p f r. f r) l.parts fits is.parts in
    record {
      node = is.node;
      nodes = is.nodes;
      some = is.some;
      end = is.end;
      floor = is.floor;
      count = omega (arith, few part_bytes some_part l.parts, parts);
      parts = Every-both (λ (p : Part). length (part_bytes p) ≤ 2 ^ 24 → IsPart p) (λ (p : Part). length (part_bytes p) ≤ 2 ^ 24) IsPart (λ p f r. f r) l.parts ranged (each_short part_bytes (2 ^ 24) l.parts parts);
    }

pub parcel_fits : (p : Parcel) → Every (λ (s : Signed). IsRanged s.message) p.deliver → p.budget < 2 ^ 32 → p.floor ≤ 2 ^ 40 → length (parcel_bytes p) ≤ 2 ^ 24 → IsParcel p
unfolding parcel_bytes
parcel_fits p deliver budget floor short = record {
  count = omega (arith, counted_within signed_bytes p.deliver (big_bytes 4 p.budget ++ big_bytes 8 p.floor), few signed_bytes some_signed p.deliver, short);
  deliver = deliver;
  budget = budget;
  floor = floor;
}

pub reply_fits : (r : Reply) → Every (λ (s : Signed). IsRanged s.message) r.out → Every IsDone r.fossils → r.ran < 2 ^ 32 → IsReplyInRange r → length (reply_bytes r) ≤ 2 ^ 24 → IsReply r
unfolding reply_bytes
reply_fits r out fossils ran is short =
    let known = counted_bytes 4 done_bytes r.fossils ++ big_bytes 4 r.ran in
    let behind = length-append (counted_bytes 4 signed_bytes r.out) (low_bytes r.low ++ known) in
    record {
      count = omega (arith, counted_within signed_bytes r.out (low_bytes r.low ++ known), few signed_bytes some_signed r.out, short);
      out = out;
      low = is.low;
      known = omega (arith, behind, length-append (low_bytes r.low) known, counted_within done_bytes r.fossils (big_bytes 4 r.ran), few done_bytes some_done r.fossils, short);
      fossils = fossils;
      ran = ran;
    }
