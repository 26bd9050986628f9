-- The mistakes of a text that is not a model file.
use Rattle.std.specs.Prelude.{◌≡◌, ℕ, ◌+◌, ◌-◌, ◌^◌, ◌≤◌, ◌==◌, List, None, Some, IsUtf8, count_by}
use Rattle.std.specs.Prelude.{length, min, take}
use Rattle.texts.specs.ModelFile.{Wrong}
use Rattle.texts.specs.declared.mistakes.Mistakes.{Mistakes}
use Rattle.texts.specs.declared.mistakes.Mistakes.TheVariants.{Keys, Toml}
use Rattle.toml.specs.Data.{Members}
use Rattle.toml.specs.Parse.{parse_document}

-- the line of a place, counted from 1: the number of line feeds before it, plus one
abbrev pub line_at : List ℕ → ℕ → ℕ
line_at text place = min (count_by (λ byte. byte == 10) (take place text) + 1) (2 ^ 64 - 1)

-- the line of some place in the text
abbrev pub IsLineOf : List ℕ → ℕ → Type 0
IsLineOf text line = (place : ℕ) × (place ≤ length text) × (line ≡ line_at text place)

-- these are the mistakes of a text: either it is not TOML, with an error on a line of it, or these
-- are the mistakes in its table
abbrev pub AreMistakes : (Members → List Wrong) → List ℕ → Mistakes → Type 0
AreMistakes wrong text (Toml line column why) =
    (IsUtf8 text → parse_document text ≡ None) × IsLineOf text line
AreMistakes wrong text (Keys found) =
    IsUtf8 text × ((table : Members) × (parse_document text ≡ Some table) × (found ≡ wrong table))
