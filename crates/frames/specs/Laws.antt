-- The laws of frames, stated over definitions alone.
use Rattle.std.specs.Prelude.{◌≡◌, ◌≤◌, ◌^◌, List, ℕ, ◌∷◌, ◌++◌, length, Ok, None, Some}
use Rattle.eventkey.specs.Reading.{IsBytes}
use Rattle.frames.specs.Bodies.{body_bytes, frame_bytes, frame_in, kind_in, most_body_bytes}
use Rattle.frames.specs.Cutting.{frame_cut, whole_in}
use Rattle.frames.specs.Ranges.{IsInRange}
use Rattle.frames.specs.Streams.{Finds}
use Rattle.frames.specs.declared.Frame.{Frame}
use Rattle.frames.specs.declared.FrameKind.{FrameKind}

-- what is written is read back, whatever follows
abbrev pub FramesAreReadBack : Type 0
FramesAreReadBack = (f : Frame) (rest : List ℕ) → IsInRange f → length (body_bytes f) ≤ most_body_bytes →
    Finds (frame_cut (frame_bytes f ++ rest)) (Ok (Some f)) rest

-- the same for bytes that are one frame and nothing more
abbrev pub FramesAreReadWhole : Type 0
FramesAreReadWhole =
    (f : Frame) → IsInRange f → length (body_bytes f) ≤ most_body_bytes → whole_in (frame_bytes f) ≡ Some f

-- a frame that was read: the bytes begin with its encoding, it is in range, and its body fits
pub record IsEncoded (bytes : List ℕ) (f : Frame) (rest : List ℕ) : Type 0 where
  pub encoded : bytes ≡ frame_bytes f ++ rest
  pub in_range : IsInRange f
  pub fits : length (body_bytes f) ≤ most_body_bytes

abbrev pub FramesAreCanonical : Type 0
FramesAreCanonical = (bytes rest : List ℕ) (f : Frame) → IsBytes bytes →
    Finds (frame_cut bytes) (Ok (Some f)) rest → IsEncoded bytes f rest

-- the same for a body alone
pub record IsBodyOf (kind : FrameKind) (body : List ℕ) (f : Frame) : Type 0 where
  pub kind_is : kind ≡ kind_in f
  pub encoded : body ≡ body_bytes f
  pub in_range : IsInRange f

abbrev pub BodiesAreCanonical : Type 0
BodiesAreCanonical =
    (kind : FrameKind) (body : List ℕ) (f : Frame) → IsBytes body → frame_in kind body ≡ Some f →
    IsBodyOf kind body f

-- a body with further bytes after it is refused
abbrev pub NoByteIsLeftOver : Type 0
NoByteIsLeftOver = (kind : FrameKind) (body : List ℕ) (f : Frame) (byte : ℕ) (more : List ℕ) →
    IsBytes body → frame_in kind body ≡ Some f → frame_in kind (body ++ byte ∷ more) ≡ None
