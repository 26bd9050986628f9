-- Marks: one for each place of a list.
use Rattle.std.specs.Prelude.{Bool, true, false, List, [], ◌∷◌}

-- the items without a mark
abbrev pub unmarked : {X : Type 0} → List Bool → List X → List X
unmarked [] xs = xs
unmarked (mark ∷ marks) [] = []
unmarked (true ∷ marks) (x ∷ xs) = unmarked marks xs
unmarked (false ∷ marks) (x ∷ xs) = x ∷ unmarked marks xs
