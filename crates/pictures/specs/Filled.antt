-- Lines of pictures and tables: texts with placeholders for numbers.
use Rattle.std.specs.Prelude.{ℕ, List, [], ◌∷◌, ◌++◌, ◌==◌, if◌then◌else◌, decimal}

-- the text with these numbers in decimal digits, each in place of one `$`, from left to right; if
-- there are fewer numbers than `$`, the last `$` stay
unfoldable pub filled : List ℕ → List ℕ → List ℕ
filled [] numbers = []
filled (byte ∷ bytes) [] = byte ∷ bytes
filled (byte ∷ bytes) (n ∷ ns) =
    if byte == 36 then decimal n ++ filled bytes ns else byte ∷ filled bytes (n ∷ ns)
