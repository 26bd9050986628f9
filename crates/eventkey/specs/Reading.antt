-- Reading bytes from left to right (numbers are big-endian). A reader returns a value and the bytes
-- after it, or nothing.
use Rattle.std.specs.Prelude.{ℕ, zero, suc, List, [], ◌∷◌, length, drop, get_or, ◌<◌, Option, Some}
use Rattle.std.specs.Prelude.{None, Result, Ok, Err, if◌then◌else◌, nat_lt, ◌≡◌}
use Rattle.byteorder.specs.Endian.{big_number}

abbrev pub IsBytes : List ℕ → Type 0
IsBytes bytes = (i : ℕ) → get_or bytes i 0 < 256

infixl 10 ◌>>=◌
abbrev pub ◌>>=◌ : {A B : Type 0} → Option A → (A → Option B) → Option B
(Some x) >>= f = f x
None >>= f = None

abbrev pub Reader : Type 0 → Type 0
Reader X = List ℕ → Option (X × List ℕ)

-- a big-endian number of n bytes
unfoldable pub number_at : ℕ → Reader ℕ
number_at n bytes =
    if nat_lt (length bytes) n then None else Some (big_number n bytes, drop n bytes)

-- n values, one after the other
unfoldable pub items_at : {X : Type 0} → Reader X → ℕ → Reader (List X)
items_at item zero bytes = Some ([], bytes)
items_at item (suc n) bytes = do
  first ← item bytes
  others ← items_at item n first.1
  Some (first.0 ∷ others.0, others.1)

-- the result of a read of the first n bytes, with the bytes after them
abbrev pub with_rest : {X E : Type 0} → ℕ → List ℕ → Result X E → Option (X × List ℕ)
with_rest n bytes (Ok x) = Some (x, drop n bytes)
with_rest n bytes (Err fault) = None

-- a call that may run out of memory returns what the reader reads, unless it fails
abbrev pub Gives : {X Y E : Type 0} → (X → Y) → Result (Option X) E → Option Y → Type 0
Gives seen (Ok (Some x)) read = read ≡ Some (seen x)
Gives seen (Ok None) read = read ≡ None
Gives seen (Err fault) read = Unit {0}
