-- How many events each cell of a heat map has.
use Rattle.std.specs.List.{filter, flat_map}
use Rattle.std.proofs.Common.{◌≡◌, ◌≢◌, ◌==◌, ◌&&◌, ◌+◌, ◌-◌, ◌*◌, ◌<◌, ◌++◌, ◌∷◌, [], ℕ, Bool, List, ap, arith, eq-eqb, false, get_or, if◌then◌else◌, inl, inr, length, max, refl, replicate, set, suc, sym, true, zero, ◌∙◌}
use Rattle.std.specs.Prelude.{nat_le, nat_lt}
use Rattle.std.proofs.lemmas.Bool.{and_from, cases_eq, le-leb, lt-ltb}
use Rattle.std.proofs.lemmas.List.{get_or-replicate, get_or-set_other, get_or-set_same, length-append, length-replicate, length-set}
use Rattle.std.proofs.lemmas.List.Concat.{flat_map-append}
use Rattle.std.proofs.lemmas.List.Elements.{filter-append}
use Rattle.eventkey.proofs.Lists.{not_same}
use Rattle.eventkey.specs.Message.{Message}
use Rattle.model.specs.World.{below}
use Rattle.pictures.specs.Drawing.{frame_of, grid_text}
use Rattle.pictures.specs.Load.{AreCells, IsInCell, IsLoad, cell_at, cell_count, cell_text, cells_text, head_text, is_in_row, load_text, map_text, most_in_row, most_in_rows, slice_at, slices_of}
use Rattle.pictures.specs.Run.{Run}
use Rattle.pictures.specs.declared.drawn.Frame.{Frame}
use Rattle.pictures.specs.declared.drawn.View.{View}
use Rattle.pictures.specs.declared.drawn.TheConstants.{STYLE, TAIL}
use Rattle.pictures.specs.declared.loads.LoadMap.{LoadMap}

-- 1. One more event

-- the frame has the event in a cell
abbrev pub is_in_cell : Frame → ℕ → ℕ → Message → Bool
is_in_cell f row slice x = is_in_row f row x && (slice_at f x.time == slice)

cell-one : (f : Frame) (row slice : ℕ) (events : List Message) (x : Message) → length (filter (is_in_cell f row slice) (events ++ x ∷ [])) ≡ length (filter (is_in_cell f row slice) events) + length (filter (is_in_cell f row slice) (x ∷ []))
cell-one f row slice events x =
    ap length (filter-append (is_in_cell f row slice) events (x ∷ [])) ∙ length-append (filter (is_in_cell f row slice) events) (filter (is_in_cell f row slice) (x ∷ []))

cell-passed : (f : Frame) (row slice : ℕ) (events : List Message) (x : Message) → is_in_cell f row slice x ≡ false → length (filter (is_in_cell f row slice) (events ++ x ∷ [])) ≡ length (filter (is_in_cell f row slice) events)
cell-passed f row slice events x other = cell-one f row slice events x ∙ ap (λ b. length (filter (is_in_cell f row slice) events) + length (if b then x ∷ [] else [])) other ∙ omega arith

cell-counted : (f : Frame) (row slice : ℕ) (events : List Message) (x : Message) → is_in_cell f row slice x ≡ true → length (filter (is_in_cell f row slice) (events ++ x ∷ [])) ≡ length (filter (is_in_cell f row slice) events) + 1
cell-counted f row slice events x here = cell-one f row slice events x ∙ ap (λ b. length (filter (is_in_cell f row slice) events) + length (if b then x ∷ [] else [])) here

pub cells_none : (f : Frame) → AreCells f [] (replicate (64 * f.rows) 0)
cells_none f = record {
  long = length-replicate {A = ℕ} (64 * f.rows) 0;
  each = λ row slice l few. get_or-replicate (64 * f.rows) (64 * row + slice) 0 0 (omega arith);
}

pub cells_outside : (f : Frame) (events : List Message) (x : Message) (cells : List ℕ) → ((row : ℕ) → row < f.rows → is_in_row f row x ≡ false) → AreCells f events cells → AreCells f (events ++ x ∷ []) cells
cells_outside f events x cells out are = record {
  long = are.long;
  each = λ row slice l few. are.each row slice l few ∙ sym (cell-passed f row slice events x (ap (λ b. b && (slice_at f x.time == slice)) (out row l)));
}

and-false : (a b : Bool) → b ≡ false → (a && b) ≡ false
and-false true b e = e
and-false false b e = refl

in_row : (f : Frame) (x : Message) (place : ℕ) → IsInCell f x place → is_in_row f (x.to - f.first) x ≡ true
in_row f x place at =
    let first = at.first in
    let same : x.to ≡ f.first + (x.to - f.first) = omega arith in
    and_from (nat_le f.from x.time) _ (le-leb f.from x.time at.from) (and_from (nat_lt x.time f.to) _ (lt-ltb x.time f.to at.to) (eq-eqb x.to (f.first + (x.to - f.first)) same))

other_row : (f : Frame) (x : Message) (place row : ℕ) → IsInCell f x place → row ≢ x.to - f.first → is_in_row f row x ≡ false
other_row f x place row at ne =
    let first = at.first in
    let apart : (x.to == f.first + row) ≡ false = not_same x.to (f.first + row) (λ e. ne (omega (arith, e))) in
    and-false (nat_le f.from x.time) _ (and-false (nat_lt x.time f.to) _ apart)

pub cell_fits : (f : Frame) (x : Message) (place : ℕ) → IsInCell f x place → place < 64 * f.rows
cell_fits f x place at = let row = at.row in let slice = at.slice in omega (arith, at.is)

pub cells_inside : (f : Frame) (events : List Message) (x : Message) (cells : List ℕ) (place n : ℕ) → IsInCell f x place → n ≡ get_or cells place 0 + 1 → AreCells f events cells → AreCells f (events ++ x ∷ []) (set cells place n)
cells_inside f events x cells place n at n_is are = record {
  long = length-set cells place n ∙ are.long;
  each = λ row slice l few. elim (cases_eq (64 * row + slice) place) [
    | inl e ↦
        let high = at.slice in
        let row_is : row ≡ x.to - f.first = omega (arith, at.is, e) in
        let slice_is : slice_at f x.time ≡ slice = omega (arith, at.is, e) in
        let here : is_in_cell f row slice x ≡ true = and_from (is_in_row f row x) (slice_at f x.time == slice) (ap (λ k. is_in_row f k x) row_is ∙ in_row f x place at) (eq-eqb (slice_at f x.time) slice slice_is) in
        ap (λ k. get_or (set cells place n) k 0) e ∙ get_or-set_same cells place n 0 (omega (arith, are.long, cell_fits f x place at)) ∙ n_is
        ∙ ap (λ k. get_or cells k 0 + 1) (sym e) ∙ ap (λ k. k + 1) (are.each row slice l few) ∙ sym (cell-counted f row slice events x here)
    | inr ne ↦ get_or-set_other cells place (64 * row + slice) n 0 ne ∙ are.each row slice l few ∙ sym (cell-passed f row slice events x (elsewhere row slice ne))
  ];
}
  where
    elsewhere : (row slice : ℕ) → 64 * row + slice ≢ place → is_in_cell f row slice x ≡ false
    elsewhere row slice ne = elim (cases_eq row (x.to - f.first)) [
      | inl e ↦ and-false (is_in_row f row x) (slice_at f x.time == slice) (not_same (slice_at f x.time) slice (λ s. ne (omega (arith, at.is, e, s))))
      | inr other ↦ ap (λ b. b && (slice_at f x.time == slice)) (other_row f x place row at other)
    ]

-- 2. The text of the same numbers is the same

flat_map-below : (f g : ℕ → List ℕ) (n : ℕ) → ((k : ℕ) → k < n → f k ≡ g k) → flat_map f (below n) ≡ flat_map g (below n)
flat_map-below f g zero same = refl
flat_map-below f g (suc n) same =
    flat_map-append f (below n) (n ∷ []) ∙ ap (λ ys. ys ++ flat_map f (n ∷ [])) (flat_map-below f g n (λ k l. same k (omega arith)))
    ∙ ap (λ ys. flat_map g (below n) ++ (ys ++ [])) (same n (omega arith)) ∙ sym (flat_map-append g (below n) (n ∷ []))

row_same : (a b : ℕ → ℕ) (n : ℕ) → ((k : ℕ) → k < n → a k ≡ b k) → most_in_row a n ≡ most_in_row b n
row_same a b zero same = refl
row_same a b (suc n) same = ap (λ m. max m (a n)) (row_same a b n (λ k l. same k (omega arith))) ∙ ap (max (most_in_row b n)) (same n (omega arith))

rows_same : (a b : ℕ → ℕ → ℕ) (slices n : ℕ) → ((row slice : ℕ) → row < n → slice < slices → a row slice ≡ b row slice) → most_in_rows a slices n ≡ most_in_rows b slices n
rows_same a b slices zero same = refl
rows_same a b slices (suc n) same =
    ap (λ m. max m (most_in_row (a n) slices)) (rows_same a b slices n (λ row slice l few. same row slice (omega arith) few))
    ∙ ap (max (most_in_rows b slices n)) (row_same (a n) (b n) slices (λ slice few. same n slice (omega arith) few))

pub load_is : (r : Run) (v : View) (l : LoadMap) (f : Frame) (processes most : ℕ) → IsLoad r v l → f ≡ frame_of r v → processes ≡ length r.first → most ≡ most_in_rows (cell_at l.cells.items) (slices_of f) f.rows
    → map_text processes (cell_at l.cells.items) f most ≡ load_text r v
load_is r v l f processes most is frame processes_are most_is =
    let g : Frame = frame_of r v in
    let a : ℕ → ℕ → ℕ = cell_at l.cells.items in
    let b : ℕ → ℕ → ℕ = cell_count r g in
    let same : (row slice : ℕ) → row < g.rows → slice < slices_of g → a row slice ≡ b row slice = λ row slice inside few. is.cells.each row slice inside (omega arith) in
    let whole : ℕ = most_in_rows b (slices_of g) g.rows in
    let whole_is : most ≡ whole = most_is ∙ ap (λ (h : Frame). most_in_rows a (slices_of h) h.rows) frame ∙ rows_same a b (slices_of g) g.rows same in
    let rows : flat_map (cells_text a g whole) (below g.rows) ≡ flat_map (cells_text b g whole) (below g.rows) =
    flat_map-below (cells_text a g whole) (cells_text b g whole) g.rows (λ row inside. flat_map-below (λ slice. cell_text g whole row slice (a row slice)) (λ slice. cell_text g whole row slice (b row slice)) (slices_of g) (λ slice few. ap (cell_text g whole row slice) (same row slice inside few))) in
    ap (λ p. map_text p a f most) processes_are ∙ ap (λ (h : Frame). map_text (length r.first) a h most) frame ∙ ap (map_text (length r.first) a g) whole_is
    ∙ ap (λ ys. head_text (length r.first) g whole ++ STYLE.now ++ grid_text g ++ ys ++ TAIL.now) rows
