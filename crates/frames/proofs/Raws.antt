-- The exits of reading one frame: which bytes of the head and of the kind arrived, and what the
-- frame is.
use Rattle.std.proofs.Common.{◌≡◌, ℕ, ◌<◌, ◌≤◌, ◌^◌, List, [], ◌∷◌, ◌++◌, length, take, Option, Some, None, Result, Ok, Err, inl, inr, sym, ap, subst, ◌∙◌, arith, append-nil, append_assoc, slice_index}
use Rattle.std.proofs.lemmas.List.{take_all, length-take}
use Rattle.std.specs.Io.KnownBytes.{Consumes, IsAtEnd}
use Rattle.std.specs.Result.{IsErrAnd}
use Rattle.std.proofs.KnownBytes.{Consumes-trans}
use Rattle.byteorder.specs.Endian.{big_number}
use Rattle.frames.specs.Bodies.{kind_of}
use Rattle.frames.specs.Cutting.{Cut, cut}
use Rattle.frames.specs.Streams.{Comes, GivesFewer, GivesUpTo, IsCutBy, IsHalfway, IsWithin, OnBytes}
use Rattle.frames.specs.declared.FrameKind.{FrameKind}
use Rattle.wire.specs.declared.port.WireFault.{WireFault}
use Rattle.wire.specs.declared.port.WireFault.TheVariants.{BadKind, TooLong, Truncated}
use Rattle.frames.proofs.Cuts.{cut_bad_kind, cut_long, cut_no_body, cut_no_kind, cut_none, cut_short, cut_whole, on_bytes, on_end, stops_in_body}

-- what the contract of `fill` says on success
pub record Came (old new : Option (List ℕ)) (buffer : List ℕ) (n came : ℕ) : Type 0 where
  pub size : length buffer ≡ n
  pub bytes : Consumes old new (take came buffer)
  pub ended : came < length buffer → IsAtEnd new

pub came_all : (old new : Option (List ℕ)) (buffer : List ℕ) (n came : ℕ) → Came old new buffer n came → n ≤ came → Consumes old new buffer
came_all old new buffer n came c le = subst (Consumes old new) (take_all came buffer (omega (arith, c.size))) c.bytes

came_none : (old new : Option (List ℕ)) (buffer : List ℕ) (n came : ℕ) → Came old new buffer n came → came ≡ 0 → Consumes old new []
came_none old new buffer n came c e = subst (λ k. Consumes old new (take k buffer)) e c.bytes

pub raw_none : (old new : Option (List ℕ)) (head : List ℕ) (came : ℕ) → Came old new head 4 came → came ≡ 0 → OnBytes old new (IsCutBy cut (Ok None))
raw_none old new head came c e = on_end old new [] (IsCutBy cut (Ok None)) (came_none old new head 4 came c e) (c.ended (omega (arith, e, c.size))) cut_none

pub raw_short : (old new : Option (List ℕ)) (head : List ℕ) (came : ℕ) → Came old new head 4 came → 0 < came → came < 4 → OnBytes old new (IsCutBy cut (Err Truncated))
raw_short old new head came c some few =
    on_end old new (take came head) (IsCutBy cut (Err Truncated)) c.bytes (c.ended (omega (arith, c.size)))
    (cut_short (take came head) (omega (arith, c.size, length-take came head)) (omega (arith, c.size, length-take came head)))

pub raw_long : (old new : Option (List ℕ)) (head : List ℕ) (came : ℕ) → Came old new head 4 came → 4 ≤ came → 2 ^ 24 < big_number 4 head → OnBytes old new (IsCutBy cut (Err TooLong))
raw_long old new head came c all long = on_bytes old new head (IsCutBy cut (Err TooLong)) (came_all old new head 4 came c all) (λ rest. cut_long head rest c.size long)

-- the head was read, and its length is not too long
pub record HasHead (old mid : Option (List ℕ)) (head : List ℕ) : Type 0 where
  pub size : length head ≡ 4
  pub bytes : Consumes old mid head
  pub fits : big_number 4 head ≤ 2 ^ 24

pub raw_no_kind : (old mid new : Option (List ℕ)) (head number : List ℕ) (came : ℕ) → HasHead old mid head → Came mid new number 1 came → came ≡ 0 → OnBytes old new (IsCutBy cut (Err Truncated))
raw_no_kind old mid new head number came h c e =
    let both = subst (Consumes old new) (append-nil head) (Consumes-trans old mid new head [] h.bytes (came_none mid new number 1 came c e)) in
    on_end old new head (IsCutBy cut (Err Truncated)) both (c.ended (omega (arith, e, c.size))) (cut_no_kind head h.size h.fits)

-- the same, and the number of the kind was read
pub record HasKind (old mid : Option (List ℕ)) (head number : List ℕ) : Type 0 where
  pub size : length head ≡ 4
  pub one : length number ≡ 1
  pub bytes : Consumes old mid (head ++ number)
  pub fits : big_number 4 head ≤ 2 ^ 24

pub has_kind : (old mid new : Option (List ℕ)) (head number : List ℕ) (came : ℕ) → HasHead old mid head → Came mid new number 1 came → 0 < came → HasKind old new head number
has_kind old mid new head number came h c some =
    record { size = h.size; one = c.size; bytes = Consumes-trans old mid new head number h.bytes (came_all mid new number 1 came c (omega (arith, some))); fits = h.fits }

pub raw_bad_kind : (old new : Option (List ℕ)) (head number : List ℕ) → HasKind old new head number → kind_of (slice_index number 0) ≡ None → OnBytes old new (IsCutBy cut (Err BadKind))
raw_bad_kind old new head [] h e = absurd (let one = h.one in omega arith)
raw_bad_kind old new head (k ∷ []) h e =
    on_bytes old new (head ++ k ∷ []) (IsCutBy cut (Err BadKind)) h.bytes (λ rest. ap cut (append_assoc head (k ∷ []) rest) ∙ cut_bad_kind head k rest h.size h.fits e)
raw_bad_kind old new head (k ∷ (j ∷ more)) h e = absurd (let one = h.one in omega arith)

pub raw_no_body : (old mid new : Option (List ℕ)) (head number : List ℕ) (kind : FrameKind) → HasKind old mid head number → kind_of (slice_index number 0) ≡ Some kind → GivesFewer (big_number 4 head) mid new →
    OnBytes old new (IsCutBy cut (Err Truncated))
raw_no_body old mid new head [] kind h e f = absurd (let one = h.one in omega arith)
raw_no_body old mid new head (k ∷ []) kind h e (taken, few, given, ended) =
    on_end old new ((head ++ k ∷ []) ++ taken) (IsCutBy cut (Err Truncated)) (Consumes-trans old mid new (head ++ k ∷ []) taken h.bytes given) ended
    (ap cut (append_assoc head (k ∷ []) taken) ∙ cut_no_body head k kind taken h.size h.fits e few)
raw_no_body old mid new head (k ∷ (j ∷ more)) kind h e f = absurd (let one = h.one in omega arith)

pub raw_whole : (old mid new : Option (List ℕ)) (head number body : List ℕ) (kind : FrameKind) → HasKind old mid head number → kind_of (slice_index number 0) ≡ Some kind → length body ≡ big_number 4 head →
    Consumes mid new body → OnBytes old new (IsCutBy cut (Ok (Some (record { kind = kind; body = body }))))
raw_whole old mid new head [] body kind h e whole given = absurd (let one = h.one in omega arith)
raw_whole old mid new head (k ∷ []) body kind h e whole given =
    on_bytes old new ((head ++ k ∷ []) ++ body) (IsCutBy cut (Ok (Some (record { kind = kind; body = body })))) (Consumes-trans old mid new (head ++ k ∷ []) body h.bytes given)
    (λ rest. ap cut (append_assoc (head ++ k ∷ []) body rest ∙ append_assoc head (k ∷ []) (body ++ rest)) ∙ cut_whole head k kind body rest h.size h.fits e whole)
raw_whole old mid new head (k ∷ (j ∷ more)) body kind h e whole given = absurd (let one = h.one in omega arith)

-- reading the body stopped part of the way
pub raw_part : (old mid new : Option (List ℕ)) (head number : List ℕ) (kind : FrameKind) → HasKind old mid head number → kind_of (slice_index number 0) ≡ Some kind → GivesUpTo (big_number 4 head) mid new →
    OnBytes old new IsWithin
raw_part old mid new head [] kind h e some = absurd (let one = h.one in omega arith)
raw_part old mid new head (k ∷ []) kind h e some = stops_in_body old mid new head k kind h.size h.fits e h.bytes some
raw_part old mid new head (k ∷ (j ∷ more)) kind h e some = absurd (let one = h.one in omega arith)

pub cut_halfway : {X : Type 0} (cut : List ℕ → Cut X) (old new : Option (List ℕ)) (fault : WireFault) (result : Result (Option X) WireFault) → IsErrAnd result (λ e. e ≡ fault) → IsHalfway fault → OnBytes old new IsWithin →
    OnBytes old new (IsCutBy cut result)
cut_halfway cut old new fault (Ok x) e h within = absurd e
cut_halfway cut old new fault (Err f) e (inl io) within = subst (λ g. OnBytes old new (IsCutBy cut (Err g))) (sym (e ∙ io)) within
cut_halfway cut old new fault (Err f) e (inr memory) within = subst (λ g. OnBytes old new (IsCutBy cut (Err g))) (sym (e ∙ memory)) within

-- the bytes of a body that was read, or is missing
module _ {X : Type 0} (seen : X → List ℕ) (n : ℕ) (old new : Option (List ℕ)) (found : Option X) where
  pub body_missing : Comes seen n old new (Ok found) → found ≡ None → GivesFewer n old new
  body_missing c e = subst (λ (o : Option X). Comes seen n old new (Ok o)) e c

  pub body_there : (x : X) → Comes seen n old new (Ok found) → found ≡ Some x → (length (seen x) ≡ n) × Consumes old new (seen x)
  body_there x c e = subst (λ (o : Option X). Comes seen n old new (Ok o)) e c
