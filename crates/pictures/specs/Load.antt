-- The load of a run: how many events each process handled in each slice of virtual time, as a heat
-- map.
use Rattle.std.specs.List.{filter}
use Rattle.std.specs.Prelude.{ℕ, ◌≡◌, ◌≤◌, ◌<◌, ◌+◌, ◌-◌, ◌*◌, ◌/◌, ◌%◌, ◌^◌, ◌&&◌, ◌==◌, Bool, List}
use Rattle.std.specs.Prelude.{[], ◌∷◌, ◌++◌, flat_map, get_or, length, max, min, nat_le, nat_lt, suc, zero}
use Rattle.eventkey.specs.Message.{Message}
use Rattle.model.specs.World.{below}
use Rattle.pictures.specs.Drawing.{bottom_of, frame_of, grid_text, span_of}
use Rattle.pictures.specs.Filled.{filled}
use Rattle.pictures.specs.Run.{Run}
use Rattle.pictures.specs.declared.drawn.Frame.{Frame}
use Rattle.pictures.specs.declared.drawn.View.{View}
use Rattle.pictures.specs.declared.drawn.TheConstants.{STYLE, TAIL}
use Rattle.pictures.specs.declared.loads.LoadMap.{LoadMap}
use Rattle.pictures.specs.declared.loads.TheConstants.{CELL, LOAD_HEAD}

-- the number of slices of time, at most 64
abbrev pub slices_of : Frame → ℕ
slices_of f = min 64 (span_of f)

-- the slice that a time of the frame is in
abbrev pub slice_at : Frame → ℕ → ℕ
slice_at f time = (time - f.from) * slices_of f / span_of f

-- the first time of a slice
abbrev pub slice_start : Frame → ℕ → ℕ
slice_start f slice = f.from + (slice * span_of f + slices_of f - 1) / slices_of f

-- the process of the row handled this event in the frame
abbrev pub is_in_row : Frame → ℕ → Message → Bool
is_in_row f row x = nat_le f.from x.time && (nat_lt x.time f.to && (x.to == f.first + row))

-- how many events the process of a row handled in a slice
abbrev pub cell_count : Run → Frame → ℕ → ℕ → ℕ
cell_count r f row slice =
    length (filter (λ (x : Message). is_in_row f row x && (slice_at f x.time == slice)) r.events)

-- the greatest of the first numbers
abbrev pub most_in_row : (ℕ → ℕ) → ℕ → ℕ
most_in_row count zero = 0
most_in_row count (suc slice) = max (most_in_row count slice) (count slice)

-- the greatest of the first slices of the first rows, where each cell has a number
abbrev pub most_in_rows : (ℕ → ℕ → ℕ) → ℕ → ℕ → ℕ
most_in_rows count slices zero = 0
most_in_rows count slices (suc row) =
    max (most_in_rows count slices row) (most_in_row (count row) slices)

-- the depth of colour of a cell in tenths: ten for the most events, and none for no event; counts
-- above 2^56 count as 2^56
abbrev pub level_of : ℕ → ℕ → ℕ
level_of most count =
    (10 * min (2 ^ 56) count + min (2 ^ 56) most - 1) / max 1 (min (2 ^ 56) most)

abbrev pub cell_text : Frame → ℕ → ℕ → ℕ → ℕ → List ℕ
cell_text f most row slice count = filled CELL.now
    ((60 + slice * 900 / slices_of f) ∷ (51 + 20 * row)
    ∷ ((slice + 1) * 900 / slices_of f - slice * 900 / slices_of f)
    ∷ (level_of most count / 10) ∷ (level_of most count % 10)
    ∷ (f.first + row) ∷ slice_start f slice ∷ slice_start f (slice + 1) ∷ count ∷ [])

abbrev pub cells_text : (ℕ → ℕ → ℕ) → Frame → ℕ → ℕ → List ℕ
cells_text count f most row =
    flat_map (λ slice. cell_text f most row slice (count row slice)) (below (slices_of f))

-- the first and the last tick, the most events of a cell, the number of slices, and how many of the
-- processes are shown, from which on
abbrev pub head_text : ℕ → Frame → ℕ → List ℕ
head_text processes f most = filled LOAD_HEAD.now
    ((bottom_of f + 40) ∷ (bottom_of f + 40) ∷ f.from ∷ (f.to - 1) ∷ most ∷ slices_of f
    ∷ f.rows ∷ processes ∷ f.first ∷ [])

-- the map of a frame, where each cell has a number of events
abbrev pub map_text : ℕ → (ℕ → ℕ → ℕ) → Frame → ℕ → List ℕ
map_text processes count f most =
    head_text processes f most
    ++ STYLE.now ++ grid_text f
    ++ flat_map (cells_text count f most) (below f.rows) ++ TAIL.now

abbrev pub load_text : Run → View → List ℕ
load_text r v =
    let f = frame_of r v in
    let count = cell_count r f in
    map_text (length r.first) count f (most_in_rows count (slices_of f) f.rows)

-- the number that is kept of a cell
abbrev pub cell_at : List ℕ → ℕ → ℕ → ℕ
cell_at cells row slice = get_or cells (64 * row + slice) 0

-- how many of these events each cell of a frame has
pub record AreCells (f : Frame) (events : List Message) (cells : List ℕ) : Type 0 where
  pub long : length cells ≡ 64 * f.rows
  pub each : (row slice : ℕ) → row < f.rows → slice < 64 → cell_at cells row slice
      ≡ length (filter (λ (x : Message). is_in_row f row x && (slice_at f x.time == slice)) events)

-- the frame has this event in the cell of this place
pub record IsInCell (f : Frame) (x : Message) (place : ℕ) : Type 0 where
  pub from : f.from ≤ x.time
  pub to : x.time < f.to
  pub first : f.first ≤ x.to
  pub row : x.to - f.first < f.rows
  pub slice : slice_at f x.time < 64
  pub is : place ≡ 64 * (x.to - f.first) + slice_at f x.time

-- the load of a run in a view
pub record IsLoad (r : Run) (v : View) (l : LoadMap) : Type 0 where
  pub time : l.time ≡ r.time
  pub processes : l.processes ≡ length r.first
  pub view : l.view ≡ v
  pub cells : AreCells (frame_of r v) r.events l.cells.items
