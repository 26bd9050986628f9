-- The drawing of a run's course, in terms of the values that the code has.
use Rattle.std.proofs.Common.{◌≡◌, ◌≤◌, ◌^◌, ◌+◌, ◌∙◌, ℕ, List, [], ◌∷◌, ap, arith}
use Rattle.pictures.specs.Course.{course_text, least_round, most_antimessages, picture_text, slice_of, window_of}
use Rattle.pictures.specs.declared.courses.Slice.{Slice}
use Rattle.pictures.specs.declared.courses.Window.{Window}
use Rattle.pictures.specs.declared.turns.Row.{Row}

pub least_round-le : (rows : List Row) → least_round rows ≤ 2 ^ 32
least_round-le [] = omega arith
least_round-le (r ∷ rs) = omega arith

-- the whole picture
pub course_is : (rows : List Row) (w : Window) (whole : Slice) (most : ℕ) → w ≡ window_of rows →
    whole ≡ slice_of rows w.first (w.first + w.rounds) → most ≡ most_antimessages rows w w.columns →
    picture_text rows w whole most ≡ course_text rows
course_is rows w whole most w_is whole_is most_is =
    ap (λ m. picture_text rows w whole m) most_is
    ∙ ap (λ (s : Slice). picture_text rows w s (most_antimessages rows w w.columns)) whole_is
    ∙ ap (λ (v : Window). picture_text rows v (slice_of rows v.first (v.first + v.rounds)) (most_antimessages rows v v.columns)) w_is
