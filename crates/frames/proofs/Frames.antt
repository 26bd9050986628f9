-- Whole frames: each has one encoding, and no other bytes are read as a frame.
use Rattle.std.proofs.Common.{◌≡◌, ℕ, ◌^◌, ◌≤◌, Bool, true, false, cond, List, [], ◌∷◌, ◌++◌, length, take, drop, Option, Some, None, Result, Ok, Err, refl, sym, ap, subst, ◌∙◌, arith, inl, inr, append_assoc, append-nil, take-append-drop}
use Rattle.std.specs.Prelude.{nat_eq}
use Rattle.std.proofs.lemmas.Bool.{cases_lt, lt-ltb, le-ltb, le-leb, eq-eqb, ne_eqb}
use Rattle.std.proofs.lemmas.List.{length-take}
use Rattle.std.proofs.lemmas.Option.{none-some, same_Some}
use Rattle.byteorder.specs.Endian.{big_bytes, big_number}
use Rattle.byteorder.specs.Numbers.{big_number-reads_back, length-bytes_high_first}
use Rattle.eventkey.specs.Reading.{◌>>=◌, IsBytes, number_at}
use Rattle.eventkey.proofs.Fields.{IsBytes-drop, IsBytes-take, format4}
use Rattle.eventkey.proofs.Readings.{first_number}
use Rattle.frames.specs.Bodies.{body_bytes, fault_in, frame_bytes, frame_in, framed, kind_in, kind_number, kind_of, load_in, parcel_in, reply_in, seen_as}
use Rattle.frames.specs.Cutting.{Cut, cut, cut_body, cut_kind, cut_length, fails, opened_cut, raw_in}
use Rattle.frames.specs.Laws.{BodiesAreCanonical, FramesAreReadBack, FramesAreReadWhole, FramesAreCanonical, IsBodyOf, NoByteIsLeftOver}
use Rattle.frames.specs.Ranges.{IsInRange}
use Rattle.frames.specs.Streams.{Finds}
use Rattle.frames.specs.declared.Frame.{Frame}
use Rattle.frames.specs.declared.Frame.TheVariants as frame
use Rattle.frames.specs.declared.FrameKind.{FrameKind}
use Rattle.frames.specs.declared.FrameKind.TheVariants as kind
use Rattle.frames.specs.declared.stream.Raw.{Raw}
use Rattle.wire.specs.declared.port.WireFault.{WireFault}
use Rattle.wire.specs.declared.port.WireFault.TheVariants.{BadBody, BadKind, TooLong, Truncated}
use Rattle.frames.proofs.Cuts.{cut_whole}
use Rattle.frames.proofs.Formats.{pick}
use Rattle.frames.proofs.Whole.{alone, fault_again, fault_takes, load_again, load_takes, parcel_again, parcel_takes, reply_again, reply_takes}

-- 1. Bodies

seen_some : {X : Type 0} (f : X → Frame) (o : Option X) (y : Frame) → seen_as f o ≡ Some y → (x : X) × (o ≡ Some x) × (f x ≡ y)
seen_some f (Some x) y e = (x, refl, same_Some (f x) y e)
seen_some f None y e = absurd (none-some y e)

pub bodies_are_canonical : BodiesAreCanonical
bodies_are_canonical kind.Load body f fits e =
    let x = seen_some (λ l. frame.Load l) (load_in body) f e in
    let is = load_takes body x.0 fits x.1 in
    subst (IsBodyOf kind.Load body) x.2 (record { kind_is = refl; encoded = is.0; in_range = is.1 })
bodies_are_canonical kind.Parcel body f fits e =
    let x = seen_some (λ p. frame.Parcel p) (parcel_in body) f e in
    let is = parcel_takes body x.0 fits x.1 in
    subst (IsBodyOf kind.Parcel body) x.2 (record { kind_is = refl; encoded = is.0; in_range = is.1 })
bodies_are_canonical kind.Reply body f fits e =
    let x = seen_some (λ r. frame.Reply r) (reply_in body) f e in
    let is = reply_takes body x.0 fits x.1 in
    subst (IsBodyOf kind.Reply body) x.2 (record { kind_is = refl; encoded = is.0; in_range = is.1 })
bodies_are_canonical kind.Fault body f fits e =
    let x = seen_some (λ n. frame.Fault n) (fault_in body) f e in
    subst (IsBodyOf kind.Fault body) x.2 (record { kind_is = refl; encoded = fault_takes body x.0 x.1; in_range = tt })

-- what is read from the bytes of a body, with and without further bytes
alone_seen : {X : Type 0} (f : X → Frame) (rest : List ℕ) (x : X) → seen_as f (alone rest x) ≡ alone rest (f x)
alone_seen f rest x = go (nat_eq (length rest) 0)
  where
    go : (b : Bool) → seen_as f (cond b (Some x) None) ≡ cond b (Some (f x)) None
    go true = refl
    go false = refl

body_again : (f : Frame) (rest : List ℕ) → IsInRange f → frame_in (kind_in f) (body_bytes f ++ rest) ≡ alone rest f
body_again (frame.Load l) rest is = ap (seen_as (λ l. frame.Load l)) (load_again l rest is) ∙ alone_seen (λ l. frame.Load l) rest l
body_again (frame.Parcel p) rest is = ap (seen_as (λ p. frame.Parcel p)) (parcel_again p rest is) ∙ alone_seen (λ p. frame.Parcel p) rest p
body_again (frame.Reply r) rest is = ap (seen_as (λ r. frame.Reply r)) (reply_again r rest is) ∙ alone_seen (λ r. frame.Reply r) rest r
body_again (frame.Fault f) rest is = ap (seen_as (λ f. frame.Fault f)) (fault_again f rest) ∙ alone_seen (λ f. frame.Fault f) rest f

not_alone : (f : Frame) (byte : ℕ) (more : List ℕ) → alone (byte ∷ more) f ≡ None
not_alone f byte more = rw (ne_eqb (length (byte ∷ more)) 0 (λ e. omega arith)) refl

pub no_byte_is_left_over : NoByteIsLeftOver
no_byte_is_left_over kind body f byte more fits e =
    let is = bodies_are_canonical kind body f fits e in
    subst (λ k. frame_in k (body ++ byte ∷ more) ≡ None) (sym is.kind_is)
    (subst (λ b. frame_in (kind_in f) (b ++ byte ∷ more) ≡ None) (sym is.encoded) (body_again f (byte ∷ more) is.in_range ∙ not_alone f byte more))

-- 2. Frames

kind_again : (k : FrameKind) → kind_of (kind_number k) ≡ Some k
kind_again kind.Load = refl
kind_again kind.Parcel = refl
kind_again kind.Reply = refl
kind_again kind.Fault = refl

number_of_kind : (b : ℕ) (k : FrameKind) → kind_of b ≡ Some k → b ≡ kind_number k
number_of_kind b k e = elim (pick b 1 kind.Load k _ e) [
  | inl h ↦ h.0 ∙ ap kind_number h.1
  | inr e ↦ elim (pick b 2 kind.Parcel k _ e) [
    | inl h ↦ h.0 ∙ ap kind_number h.1
    | inr e ↦ elim (pick b 3 kind.Reply k _ e) [
      | inl h ↦ h.0 ∙ ap kind_number h.1
      | inr e ↦ elim (pick b 4 kind.Fault k _ e) [
        | inl h ↦ h.0 ∙ ap kind_number h.1
        | inr e ↦ absurd (none-some k e)
      ]
    ]
  ]
]

cut_again : (k : FrameKind) (body rest : List ℕ) → length body ≤ 2 ^ 24 → Finds (cut (framed k body ++ rest)) (Ok (Some (record { kind = k; body = body }))) rest
unfolding framed
cut_again k body rest few =
    let is : big_number 4 (big_bytes 4 (length body)) ≡ length body = ap (big_number 4) (sym (append-nil (big_bytes 4 (length body)))) ∙ big_number-reads_back 4 (length body) [] (omega arith) in
    let head = big_bytes 4 (length body) in
    ap cut (append_assoc head (kind_number k ∷ body) rest)
    ∙ cut_whole head (kind_number k) k body rest (length-bytes_high_first 4 (length body)) (subst (λ n. n ≤ 2 ^ 24) (sym is) few) (kind_again k) (sym is)

open_found : (c : Cut Raw) (k : FrameKind) (body rest : List ℕ) (f : Frame) → Finds c (Ok (Some (record { kind = k; body = body }))) rest → frame_in k body ≡ Some f → Finds (opened_cut c) (Ok (Some f)) rest
open_found c k body rest f e is =
    ap opened_cut e ∙ ap (λ (o : Option Frame). record { found = elim o as (λ _. Result (Option Frame) WireFault) [ Some g ↦ Ok (Some g) | None ↦ Err BadBody ]; rest = rest }) is

pub frames_are_read_back : FramesAreReadBack
frames_are_read_back f rest is few =
    open_found (cut (frame_bytes f ++ rest)) (kind_in f) (body_bytes f) rest f (cut_again (kind_in f) (body_bytes f) rest few)
    (ap (frame_in (kind_in f)) (sym (append-nil (body_bytes f))) ∙ body_again f [] is)

-- the kind and the body are read back from the bytes of one frame
taken_alone : (k : FrameKind) (body : List ℕ) → length body ≤ 2 ^ 24 → raw_in (framed k body) ≡ Some (record { kind = k; body = body })
unfolding raw_in framed
taken_alone k body few =
    rw (format4.again (length body) (kind_number k ∷ body) (omega (arith, few)), first_number (kind_number k) body, kind_again k, le-leb (length body) (2 ^ 24) few, eq-eqb (length body) (length body) refl) refl

pub frames_are_read_whole : FramesAreReadWhole
frames_are_read_whole f is few =
    ap (λ (o : Option Raw). o >>= (λ raw. frame_in raw.kind raw.body)) (taken_alone (kind_in f) (body_bytes f) few)
    ∙ ap (frame_in (kind_in f)) (sym (append-nil (body_bytes f))) ∙ body_again f [] is

-- the bytes begin with this frame
record IsCutOff (bytes : List ℕ) (raw : Raw) (rest : List ℕ) : Type 0 where
  pub encoded : bytes ≡ framed raw.kind raw.body ++ rest
  pub fits : length raw.body ≤ 2 ^ 24
  pub are_bytes : IsBytes raw.body

-- a cut that found a fault did not find a frame
no_frame : {X : Type 0} (fault : WireFault) (after rest : List ℕ) (x : X) → fails fault after ≡ record { found = Ok (Some x); rest = rest } → ⊥
no_frame {X} fault after rest x e = let found : Err fault ≡ Ok (Some x) = ap (λ (c : Cut X). c.found) e in cc

whole_body : (head : List ℕ) (n k : ℕ) (bytes : List ℕ) (kind : FrameKind) (raw : Raw) (rest : List ℕ) → head ≡ big_bytes 4 n → n ≤ 2 ^ 24 → kind_of k ≡ Some kind → n ≤ length bytes → IsBytes bytes →
    Finds (record { found = Ok (Some (record { kind = kind; body = take n bytes })); rest = drop n bytes }) (Ok (Some raw)) rest → IsCutOff (head ++ k ∷ bytes) raw rest
unfolding framed
whole_body head n k bytes kind raw rest h few e enough fits f =
    let body : Raw = record { kind = kind; body = take n bytes } in
    let long : length (take n bytes) ≡ n = omega (arith, length-take n bytes) in
    let found : Ok (Some body) ≡ Ok (Some raw) = ap (λ (c : Cut Raw). c.found) f in
    let is : body ≡ raw = cc in
    let left : drop n bytes ≡ rest = ap (λ (c : Cut Raw). c.rest) f in
    let parts : head ++ k ∷ bytes ≡ (big_bytes 4 (length (take n bytes)) ++ kind_number kind ∷ take n bytes) ++ drop n bytes =
    ap (λ h. h ++ k ∷ bytes) (h ∙ ap (big_bytes 4) (sym long))
    ∙ ap (λ b. big_bytes 4 (length (take n bytes)) ++ b ∷ bytes) (number_of_kind k kind e)
    ∙ ap (λ b. big_bytes 4 (length (take n bytes)) ++ kind_number kind ∷ b) (sym (take-append-drop n bytes))
    ∙ sym (append_assoc (big_bytes 4 (length (take n bytes))) (kind_number kind ∷ take n bytes) (drop n bytes)) in
    subst (λ r. IsCutOff (head ++ k ∷ bytes) raw r) left (subst (λ b. IsCutOff (head ++ k ∷ bytes) b (drop n bytes)) is
    (record { encoded = parts; fits = omega (arith, long); are_bytes = IsBytes-take n bytes fits }))

cut_off_body : (head : List ℕ) (n k : ℕ) (bytes : List ℕ) (kind : Option FrameKind) (raw : Raw) (rest : List ℕ) → head ≡ big_bytes 4 n → n ≤ 2 ^ 24 → kind_of k ≡ kind → IsBytes bytes →
    Finds (cut_body n bytes kind) (Ok (Some raw)) rest → IsCutOff (head ++ k ∷ bytes) raw rest
cut_off_body head n k bytes None raw rest h few e fits f = absurd (no_frame BadKind bytes rest raw f)
cut_off_body head n k bytes (Some kind) raw rest h few e fits f = elim (cases_lt (length bytes) n) [
  | inl lt ↦ absurd (let none : fails Truncated [] ≡ record { found = Ok (Some raw); rest = rest } = rw (lt-ltb (length bytes) n lt) at f in no_frame Truncated [] rest raw none)
  | inr le ↦ (let some : Finds (record { found = Ok (Some (record { kind = kind; body = take n bytes })); rest = drop n bytes }) (Ok (Some raw)) rest = rw (le-ltb (length bytes) n le) at f in
      whole_body head n k bytes kind raw rest h few e le fits some)
]

cut_off_kind : (head : List ℕ) (n : ℕ) (bytes : List ℕ) (raw : Raw) (rest : List ℕ) → head ≡ big_bytes 4 n → n ≤ 2 ^ 24 → IsBytes bytes → Finds (cut_kind n bytes) (Ok (Some raw)) rest → IsCutOff (head ++ bytes) raw rest
cut_off_kind head n [] raw rest h few fits f = absurd (no_frame Truncated [] rest raw f)
cut_off_kind head n (k ∷ bytes) raw rest h few fits f = cut_off_body head n k bytes (kind_of k) raw rest h few refl (IsBytes-drop 1 (k ∷ bytes) fits) f

cut_off_length : (bytes : List ℕ) (length_is : Option (ℕ × List ℕ)) (raw : Raw) (rest : List ℕ) → IsBytes bytes → number_at 4 bytes ≡ length_is → Finds (cut_length length_is) (Ok (Some raw)) rest → IsCutOff bytes raw rest
cut_off_length bytes None raw rest fits e f = absurd (no_frame Truncated [] rest raw f)
cut_off_length bytes (Some n) raw rest fits e f =
    let is = format4.takes bytes n fits e in
    elim (cases_lt (2 ^ 24) n.0) [
      | inl lt ↦ absurd (let none : fails TooLong n.1 ≡ record { found = Ok (Some raw); rest = rest } = rw (lt-ltb (2 ^ 24) n.0 lt) at f in no_frame TooLong n.1 rest raw none)
      | inr le ↦ (let some : Finds (cut_kind n.0 n.1) (Ok (Some raw)) rest = rw (le-ltb (2 ^ 24) n.0 le) at f in
          subst (λ b. IsCutOff b raw rest) (sym is.0.parts) (cut_off_kind (big_bytes 4 n.0) n.0 n.1 raw rest refl le is.0.fits some))
    ]

cut_off : (bytes : List ℕ) (raw : Raw) (rest : List ℕ) → IsBytes bytes → Finds (cut bytes) (Ok (Some raw)) rest → IsCutOff bytes raw rest
unfolding cut
cut_off [] raw rest fits f = absurd (let found : Ok None ≡ Ok (Some raw) = ap (λ (c : Cut Raw). c.found) f in cc)
cut_off (b ∷ bytes) raw rest fits f = cut_off_length (b ∷ bytes) (number_at 4 (b ∷ bytes)) raw rest fits refl f

-- the raw frame of a frame that was read
record IsOpenedOf (c : Cut Raw) (f : Frame) (rest : List ℕ) : Type 0 where
  pub raw : Raw
  pub found : Finds c (Ok (Some raw)) rest
  pub is : frame_in raw.kind raw.body ≡ Some f

opened_of_body : (raw : Raw) (after rest : List ℕ) (f : Frame) (o : Option Frame) → frame_in raw.kind raw.body ≡ o →
    Finds (record { found = elim o as (λ _. Result (Option Frame) WireFault) [ Some g ↦ Ok (Some g) | None ↦ Err BadBody ]; rest = after }) (Ok (Some f)) rest →
    IsOpenedOf (record { found = Ok (Some raw); rest = after }) f rest
opened_of_body raw after rest f None o e = absurd (no_frame BadBody after rest f e)
opened_of_body raw after rest f (Some g) o e =
    let found : Ok (Some g) ≡ Ok (Some f) = ap (λ (c : Cut Frame). c.found) e in
    let same : g ≡ f = cc in
    let left : after ≡ rest = ap (λ (c : Cut Frame). c.rest) e in
    record { raw = raw; found = ap (λ r. record { found = Ok (Some raw); rest = r }) left; is = o ∙ ap Some same }

opened_of : (found : Result (Option Raw) WireFault) (after rest : List ℕ) (f : Frame) → Finds (opened_cut (record { found = found; rest = after })) (Ok (Some f)) rest → IsOpenedOf (record { found = found; rest = after }) f rest
opened_of (Ok (Some raw)) after rest f e = opened_of_body raw after rest f (frame_in raw.kind raw.body) refl e
opened_of (Ok None) after rest f e = absurd (let found : Ok None ≡ Ok (Some f) = ap (λ (c : Cut Frame). c.found) e in cc)
opened_of (Err fault) after rest f e = absurd (no_frame fault after rest f e)

pub frames_are_canonical : FramesAreCanonical
frames_are_canonical bytes rest f fits e =
    let o = opened_of (cut bytes).found (cut bytes).rest rest f e in
    let c = cut_off bytes o.raw rest fits o.found in
    let b = bodies_are_canonical o.raw.kind o.raw.body f c.are_bytes o.is in
    record {
      encoded = c.encoded ∙ ap (λ k. framed k o.raw.body ++ rest) b.kind_is ∙ ap (λ x. framed (kind_in f) x ++ rest) b.encoded;
      in_range = b.in_range;
      fits = subst (λ x. length x ≤ 2 ^ 24) b.encoded c.fits;
    }
