-- The laws of hellos, stated over definitions alone.
use Rattle.std.specs.Prelude.{◌≡◌, List, ℕ, ◌++◌, Ok, Some}
use Rattle.eventkey.specs.Reading.{IsBytes}
use Rattle.frames.specs.Hellos.{IsHello, hello_cut, hello_frame}
use Rattle.frames.specs.Streams.{Finds}
use Rattle.frames.specs.declared.greeting.Hello.{Hello}

-- what is written is read back, whatever follows
abbrev pub HellosAreReadBack : Type 0
HellosAreReadBack = (h : Hello) (rest : List ℕ) → IsHello h →
    Finds (hello_cut (hello_frame h ++ rest)) (Ok (Some h)) rest

-- a hello that was read: the bytes begin with its encoding, and it is in range
pub record IsHelloOf (bytes : List ℕ) (h : Hello) (rest : List ℕ) : Type 0 where
  pub encoded : bytes ≡ hello_frame h ++ rest
  pub in_range : IsHello h

abbrev pub HellosAreCanonical : Type 0
HellosAreCanonical = (bytes rest : List ℕ) (h : Hello) → IsBytes bytes →
    Finds (hello_cut bytes) (Ok (Some h)) rest → IsHelloOf bytes h rest
