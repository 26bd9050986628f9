-- The first frame of a run and the answer of its nodes (a kind of its own beside the kinds of
-- `Bodies`): in which simulation a program takes part. All numbers are big-endian.
use Rattle.std.specs.Prelude.{ℕ, ◌^◌, ◌<◌, ◌≤◌, Bool, nat_le, nat_lt, nat_eq, ◌&&◌, if◌then◌else◌}
use Rattle.std.specs.Prelude.{List, [], ◌∷◌, ◌++◌, length, take, drop, Option, Some, None}
use Rattle.std.specs.Prelude.{Result, Ok, Err}
use Rattle.std.specs.Cmp.Lexicographic.{pointwise}
use Rattle.std.specs.List.{AllByRecursion as Every}
use Rattle.byteorder.specs.Endian.{big_bytes, big_number}
use Rattle.eventkey.specs.Reading.{◌>>=◌, number_at}
use Rattle.model.specs.Encoding.{words_at, words_bytes}
use Rattle.model.specs.Meaning.{Meaning}
use Rattle.frames.specs.Cutting.{Cut, fails}
use Rattle.frames.specs.declared.greeting.Hello.{Hello}
use Rattle.wire.specs.declared.port.WireFault.{WireFault}
use Rattle.wire.specs.declared.port.WireFault.TheVariants.{BadBody, BadKind, TooLong, Truncated}
use Rattle.frames.specs.Bodies.{most_body_bytes}

-- 1. What it says

-- the simulation of a model up to an end, over frames of format 2
abbrev pub hello_of : Meaning → ℕ → Hello
hello_of m end = record { format = 2; lps = m.lps; end = end; identity = m.identity }

-- the same format, number of processes, end and identity
abbrev pub agrees : Hello → Hello → Bool
agrees a b = nat_eq a.format b.format
    && (nat_eq a.lps b.lps && (nat_eq a.end b.end && pointwise nat_eq a.identity b.identity))

-- which hellos have an encoding
pub record IsHello (h : Hello) : Type 0 where
  pub format : h.format < 2 ^ 32
  pub lps : h.lps < 2 ^ 32
  pub some : 1 ≤ h.end
  pub end : h.end ≤ 2 ^ 40
  pub few : length h.identity ≤ 8
  pub words : Every (λ (word : ℕ). word < 2 ^ 64) h.identity

-- 2. Its bytes

unfoldable pub hello_bytes : Hello → List ℕ
hello_bytes h =
    big_bytes 4 h.format ++ (big_bytes 4 h.lps ++ (big_bytes 8 h.end ++ words_bytes h.identity))

-- the length of the body, the kind, and the body
unfoldable pub hello_frame : Hello → List ℕ
hello_frame h = big_bytes 4 (length (hello_bytes h)) ++ (16 ∷ hello_bytes h)

-- the hello that all of the bytes of a body encode
unfoldable pub hello_in : List ℕ → Option Hello
hello_in bytes = do
  format ← number_at 4 bytes
  lps ← number_at 4 format.1
  end ← number_at 8 lps.1
  identity ← words_at end.1
  if (nat_le 1 end.0 && (nat_le end.0 (2 ^ 40) && nat_le (length identity.0) 8))
      && nat_eq (length identity.1) 0 then
      Some (record { format = format.0; lps = lps.0; end = end.0; identity = identity.0 })
      else None

-- 3. What is first in a stream

-- whether it is a hello: then the stated length of its body, at most 2^24, and the bytes after
-- its kind
abbrev pub hello_kind : ℕ → List ℕ → Option (ℕ × List ℕ)
hello_kind n [] = None
hello_kind n (k ∷ bytes) = if nat_eq k 16 && nat_le n most_body_bytes then Some (n, bytes) else None

abbrev pub hello_behind : Option (ℕ × List ℕ) → Option (ℕ × List ℕ)
hello_behind None = None
hello_behind (Some n) = hello_kind n.0 n.1

unfoldable pub hello_length : List ℕ → Option (ℕ × List ℕ)
hello_length bytes = hello_behind (number_at 4 bytes)

-- the hello whose body was read, or `BadBody`
abbrev pub opened_hello : Option Hello → Result (Option Hello) WireFault
opened_hello (Some h) = Ok (Some h)
opened_hello None = Err BadBody

-- the hello with a body of `n` bytes, with which these bytes begin
abbrev pub hello_body : ℕ → List ℕ → Cut Hello
hello_body n bytes = if nat_lt (length bytes) n then fails Truncated []
    else record { found = opened_hello (hello_in (take n bytes)); rest = drop n bytes }

-- what is wrong if there is no hello: nothing at the end of a stream
abbrev pub no_hello : List ℕ → Result (Option Hello) WireFault
no_hello bytes =
    if nat_eq (length bytes) 0 then Ok None
    else if nat_lt (length bytes) 5 then Err Truncated
    else if nat_lt most_body_bytes (big_number 4 bytes) then Err TooLong else Err BadKind

abbrev pub hello_at : List ℕ → Option (ℕ × List ℕ) → Cut Hello
hello_at bytes (Some n) = hello_body n.0 n.1
hello_at bytes None = record { found = no_hello bytes; rest = [] }

-- the hello that is first, or the fault there; the bytes behind a fault are not stated
abbrev pub hello_cut : List ℕ → Cut Hello
hello_cut bytes = hello_at bytes (hello_length bytes)
