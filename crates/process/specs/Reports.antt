-- The bytes of reported handlings: their encoding, and their readers. All
-- numbers are big-endian.
use Rattle.std.specs.List.{flat_map, AllByRecursion as Every}
use Rattle.std.specs.Prelude.{ℕ, ◌^◌, ◌≤◌, ◌≡◌, nat_le, if◌then◌else◌, List, [], ◌∷◌, ◌++◌, length}
use Rattle.std.specs.Prelude.{Option, Some, None}
use Rattle.byteorder.specs.Endian.{big_bytes}
use Rattle.eventkey.specs.Encoding.{message_at, message_bytes}
use Rattle.eventkey.specs.Message.{IsRanged}
use Rattle.eventkey.specs.Reading.{◌>>=◌, Reader, number_at, items_at}
use Rattle.model.specs.Encoding.{words_at, words_bytes}
use Rattle.model.specs.Meaning.{IsWords}
use Rattle.process.specs.declared.Done.{Done}

-- 1. One report

-- the number of items, in `n` bytes, and the items
abbrev pub counted_bytes : {X : Type 0} → ℕ → (X → List ℕ) → List X → List ℕ
counted_bytes n encoded xs = big_bytes n (length xs) ++ flat_map encoded xs

-- the message, the sent messages, the state words and the send number
unfoldable pub done_bytes : Done → List ℕ
done_bytes d =
    message_bytes d.message
    ++ (counted_bytes 1 message_bytes d.sent ++ (words_bytes d.after ++ big_bytes 8 d.number_after))

-- a count in `n` bytes, at most `most`, and that number of items
abbrev pub counted_at : {X : Type 0} → ℕ → ℕ → Reader X → Reader (List X)
counted_at n most item bytes = do
  count ← number_at n bytes
  if nat_le count.0 most then items_at item count.0 count.1 else None

unfoldable pub done_at : Reader Done
done_at bytes = do
  message ← message_at bytes
  sent ← counted_at 1 8 message_at message.1
  after ← words_at sent.1
  number ← number_at 8 after.1
  if nat_le number.0 (2 ^ 63) then
      Some (
        record { message = message.0; sent = sent.0; after = after.0; number_after = number.0 },
        number.1,
      )
      else None

-- the handlings that have an encoding
pub record IsDone (d : Done) : Type 0 where
  pub message : IsRanged d.message
  pub few : length d.sent ≤ 8
  pub sent : Every IsRanged d.sent
  pub after : IsWords d.after
  pub number : d.number_after ≤ 2 ^ 63

-- 2. Many reports, one after the other

-- what a reader found, or the given value if it found nothing
abbrev pub found_or : {X : Type 0} → X → Option (X × List ℕ) → X
found_or none (Some x) = x.0
found_or none None = none

-- the reports that the bytes begin with
abbrev pub reports_in : ℕ → List ℕ → List Done
reports_in count bytes = found_or [] (items_at done_at count bytes)

-- the bytes are the encoding of that number of reports
pub record AreReports (count : ℕ) (bytes : List ℕ) : Type 0 where
  pub whole : bytes ≡ flat_map done_bytes (reports_in count bytes)
  pub many : length (reports_in count bytes) ≡ count
  pub ranged : Every IsDone (reports_in count bytes)

abbrev pub nothing : Done
nothing = record {
  message = record { time = 0; from = 0; number = 0; to = 0; a = 0; b = 0; c = 0; d = 0 };
  sent = [];
  after = [];
  number_after = 0;
}

-- the report that the bytes begin with
abbrev pub report_in : List ℕ → Done
report_in bytes = found_or nothing (done_at bytes)

-- the bytes are the encoding of one report
pub record IsReport (bytes : List ℕ) : Type 0 where
  pub whole : bytes ≡ done_bytes (report_in bytes)
  pub ranged : IsDone (report_in bytes)

-- 3. For callers

-- the first of the reports was taken, if there was one
abbrev pub IsFirstOf : List Done → List Done → Option Done → Type 0
IsFirstOf old new (Some d) = old ≡ d ∷ new
IsFirstOf old new None = (old ≡ []) × (new ≡ [])

-- the bytes after what was read, if something was
abbrev pub Skips : {X : Type 0} → Option (X × List ℕ) → Option (List ℕ) → Type 0
Skips {X = X} read (Some rest) = (x : X) × (read ≡ Some (x, rest))
Skips read None = read ≡ None
