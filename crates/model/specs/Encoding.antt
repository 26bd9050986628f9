-- The encoding of state words, and how it is read. Numbers are big-endian.
use Rattle.std.specs.Prelude.{ℕ, nat_le, if◌then◌else◌, List, ◌++◌, length, None}
use Rattle.std.specs.List.{flat_map}
use Rattle.byteorder.specs.Endian.{big_bytes}
use Rattle.eventkey.specs.Reading.{◌>>=◌, Reader, number_at, items_at}

-- the encoding of state words: their number in one byte, then each in 8 bytes
unfoldable pub words_bytes : List ℕ → List ℕ
words_bytes words = big_bytes 1 (length words) ++ flat_map (big_bytes 8) words

-- reads state words, at most 16
unfoldable pub words_at : Reader (List ℕ)
words_at bytes = do
  count ← number_at 1 bytes
  if nat_le count.0 16 then items_at (number_at 8) count.0 count.1 else None
