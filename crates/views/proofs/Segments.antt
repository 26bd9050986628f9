-- What is read and printed of a segment.
use Rattle.std.specs.List.{slice_get}
use Rattle.std.proofs.Common.{◌≡◌, ◌∙◌, ℕ, List, [], ◌∷◌, Option, Some, None, IfSome, ap, inl, inr, length, refl, sym, take}
use Rattle.segments.specs.Archiving.{IsBegunAt, IsTimeIn, events_before}
use Rattle.commitlog.specs.declared.records.Entry.{Entry}
use Rattle.model.specs.declared.origin.Origin.{Origin}
use Rattle.segments.specs.Segments.{origin_in}
use Rattle.upkeep.specs.Rows.{row_of}
use Rattle.views.specs.Reading.{BeginsInRow, BeginsWith, IsBelieved, IsShownOrigin, believed_line}

pub shown_origin : (lps : ℕ) (image : List (List ℕ)) (origin : Option Origin) (time : ℕ) (lines : Option (ℕ × ℕ)) → BeginsWith lps image origin → IfSome origin (λ o. IsBegunAt image time)
    → (origin ≡ None → lines ≡ None) → IfSome origin (λ o. lines ≡ Some (time, events_before o.numbers (length o.pending))) → IsShownOrigin lps image origin lines
shown_origin lps image None time lines begins at none some = none refl
shown_origin lps image (Some o) time lines begins at none some =
    (time, events_before o.numbers (length o.pending), record { begins = begins; at = at; events_are = refl }, some)

-- the line of an origin that is believed
pub believed_is : (At : ℕ → Type 0) (origin : Option Origin) (time : ℕ) (line : Option ℕ) → IfSome origin (λ o. At time) → (origin ≡ None → line ≡ None) → IfSome origin (λ o. line ≡ Some time) → IsBelieved At origin (believed_line line)
believed_is At None time line at none some = ap believed_line (none refl)
believed_is At (Some o) time line at none some = (time, at, ap believed_line some)

-- an origin of the first two records in a row is that of the row
pub begins_in_row : (lps : ℕ) (image : List (List ℕ)) (origin : Option Origin) (first : List Entry) → first ≡ take 2 (row_of image) → IfSome origin (λ o. origin_in lps first ≡ Some o) → BeginsInRow lps image origin
begins_in_row lps image None first are is = tt
begins_in_row lps image (Some o) first are is = sym (origin_of_two (row_of image)) ∙ ap (origin_in lps) (sym are) ∙ is
  where
    origin_of_two : (entries : List Entry) → origin_in lps (take 2 entries) ≡ origin_in lps entries
    origin_of_two [] = refl
    origin_of_two (entry ∷ rest) = refl

-- the time of the second of them too
pub time_in_row : (image : List (List ℕ)) (origin : Option Origin) (first : List Entry) (time : ℕ) → first ≡ take 2 (row_of image) → IfSome origin (λ o. IsTimeIn first time) → IfSome origin (λ o. IsTimeIn (row_of image) time)
time_in_row image None first time are is = tt
time_in_row image (Some o) first time are (inl zero) = inl zero
time_in_row image (Some o) first time are (inr there) = inr (sym (second_of_two (row_of image)) ∙ ap (λ (l : List Entry). slice_get l 1) (sym are) ∙ there)
  where
    second_of_two : (entries : List Entry) → slice_get (take 2 entries) 1 ≡ slice_get entries 1
    second_of_two [] = refl
    second_of_two (a ∷ []) = refl
    second_of_two (a ∷ b ∷ rest) = refl
