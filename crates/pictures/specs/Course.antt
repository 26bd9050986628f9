-- The course of a run, from the rows of its trace: in at most 90 columns over its rounds, GVT, the
-- events committed per message handled, antimessages and commits. Rounds above 2^32 count as 2^32,
-- and other numbers and sums above 2^56 as 2^56.
use Rattle.std.specs.List.{filter}
use Rattle.std.specs.Prelude.{ℕ, ◌+◌, ◌-◌, ◌*◌, ◌/◌, ◌^◌, ◌&&◌, ◌==◌, Bool, suc, zero, List, []}
use Rattle.std.specs.Prelude.{◌∷◌, ◌++◌, codes, flat_map, if◌then◌else◌, length, max, min, nat_le, nat_lt}
use Rattle.model.specs.World.{below}
use Rattle.pictures.specs.Filled.{filled}
use Rattle.pictures.specs.declared.courses.Bar.{Bar}
use Rattle.pictures.specs.declared.courses.Bars.{Bars}
use Rattle.pictures.specs.declared.courses.Slice.{Slice}
use Rattle.pictures.specs.declared.courses.Window.{Window}
use Rattle.pictures.specs.declared.courses.TheConstants.{BAR_CLASS, BAR_EDGES, COURSE_FOOT}
use Rattle.pictures.specs.declared.courses.TheConstants.{COURSE_HEAD, TITLE}
use Rattle.pictures.specs.declared.drawn.TheConstants.{STYLE}
use Rattle.pictures.specs.declared.turns.Row.{Row}

abbrev pub round_of : Row → ℕ
round_of r = min (2 ^ 32) r.round

abbrev pub capped : ℕ → ℕ
capped n = min (2 ^ 56) n

-- 1. A list of rows

-- the first and the last round
abbrev pub least_round : List Row → ℕ
least_round [] = 2 ^ 32
least_round (r ∷ rs) = min (round_of r) (least_round rs)

abbrev pub last_round : List Row → ℕ
last_round [] = 0
last_round (r ∷ rs) = max (round_of r) (last_round rs)

abbrev pub sum_of : (Row → ℕ) → List Row → ℕ
sum_of f [] = 0
sum_of f (r ∷ rs) = f r + sum_of f rs

abbrev pub greatest_of : (Row → ℕ) → List Row → ℕ
greatest_of f [] = 0
greatest_of f (r ∷ rs) = max (f r) (greatest_of f rs)

-- the rows with another last commit than the row before, where the last commit before the first row
-- is at this time
abbrev pub committing : ℕ → List Row → List Row
committing time [] = []
committing time (r ∷ rs) =
    if r.committed == time then committing r.committed rs else r ∷ committing r.committed rs

-- the number of the first row, or 0 if there are no rows
abbrev pub at_first : (Row → ℕ) → List Row → ℕ
at_first f [] = 0
at_first f (r ∷ rs) = f r

-- 2. A range of rounds

-- the round of the row is from `from` on and before `to`
abbrev pub is_between : ℕ → ℕ → Row → Bool
is_between from to r = nat_le from (round_of r) && nat_lt (round_of r) to

abbrev pub sum_between : (Row → ℕ) → ℕ → ℕ → List Row → ℕ
sum_between f from to rows = capped (sum_of f (filter (is_between from to) rows))

-- the greatest number before a round
abbrev pub reached : (Row → ℕ) → ℕ → List Row → ℕ
reached f to rows = capped (greatest_of f (filter (is_between 0 to) rows))

-- how many events were committed before a round, including those before the first row
abbrev pub events_before : ℕ → List Row → ℕ
events_before to rows =
    max (capped (at_first (λ r. r.events) rows)) (reached (λ r. r.events) to rows)

abbrev pub slice_of : List Row → ℕ → ℕ → Slice
slice_of rows from to = record {
  from = from;
  to = to;
  gvt = reached (λ r. r.gvt) to rows;
  events = events_before to rows - events_before from rows;
  handled = sum_between (λ r. r.handled) from to rows;
  antimessages = sum_between (λ r. r.antimessages) from to rows;
  commits = capped
      (length (filter (is_between from to) (committing (at_first (λ r. r.committed) rows) rows)));
}

-- the events committed as a percentage of the messages handled, at most 100
abbrev pub efficiency_of : Slice → ℕ
efficiency_of s = if s.handled == 0 then 0 else min 100 (100 * s.events / s.handled)

-- 3. The columns

abbrev pub window_of : List Row → Window
window_of rows = record {
  first = min (least_round rows) (last_round rows);
  rounds = last_round rows + 1 - least_round rows;
  columns = min 90 (last_round rows + 1 - least_round rows);
}

-- the first round of a column
abbrev pub column_start : Window → ℕ → ℕ
column_start w k = w.first + k * w.rounds / w.columns

abbrev pub column_of : List Row → Window → ℕ → Slice
column_of rows w k = slice_of rows (column_start w k) (column_start w (k + 1))

-- the most antimessages of one of the first columns
abbrev pub most_antimessages : List Row → Window → ℕ → ℕ
most_antimessages rows w zero = 0
most_antimessages rows w (suc k) =
    max (most_antimessages rows w k) (column_of rows w k).antimessages

-- 4. The picture

-- the pixels of a number, on a scale where the greatest one has 100
abbrev pub pixels_of : ℕ → ℕ → ℕ
pixels_of n greatest = 100 * n / max 1 greatest

-- a column's left edge and width
abbrev pub column_left : Window → ℕ → ℕ
column_left w k = 60 + k * 900 / w.columns

abbrev pub column_width : Window → ℕ → ℕ
column_width w k = (k + 1) * 900 / w.columns - k * 900 / w.columns

-- the bar of the whole column
abbrev pub column_bar : Window → ℕ → Bar
column_bar w k = record { x = column_left w k; y = 40; width = column_width w k; height = 420 }

-- a column's bar of this height, whose upper edge is at `y`
abbrev pub bar_within : Bar → ℕ → ℕ → Bar
bar_within column y height =
    record { x = column.x; y = y; width = column.width; height = height }

-- a column's bar of this height, which stands on the line at `foot`
abbrev pub standing_on : Bar → ℕ → ℕ → Bar
standing_on column foot height = bar_within column (foot - height) height

-- the bars of a column; `gvt` and `antimessages` are the greatest numbers of their scales
abbrev pub bars_of : Window → ℕ → ℕ → ℕ → Slice → Bars
bars_of w gvt antimessages k s = record {
  slice = column_bar w k;
  gvt = standing_on (column_bar w k) 160 (pixels_of s.gvt gvt);
  efficiency = standing_on (column_bar w k) 300 (efficiency_of s);
  antimessages = standing_on (column_bar w k) 440 (pixels_of s.antimessages antimessages);
  commit = bar_within (column_bar w k) 450 (8 * min 1 s.commits);
}

-- the words that a browser shows for a slice
abbrev pub title_text : Slice → List ℕ
title_text s = filled TITLE.now
    (s.from ∷ (s.to - 1) ∷ s.gvt ∷ s.handled ∷ s.events ∷ efficiency_of s ∷ s.antimessages
    ∷ s.commits ∷ [])

-- a bar of this class
abbrev pub bar_text : List ℕ → Bar → List ℕ
bar_text class bar = BAR_CLASS.now ++ class
    ++ filled BAR_EDGES.now (bar.x ∷ bar.y ∷ bar.width ∷ bar.height ∷ [])

abbrev pub bars_text : Bars → List ℕ
bars_text bars = bar_text (codes "slice") bars.slice ++ bar_text (codes "gvt") bars.gvt
    ++ bar_text (codes "efficiency") bars.efficiency
    ++ bar_text (codes "antimessages") bars.antimessages
    ++ bar_text (codes "commit") bars.commit

-- a column
abbrev pub slice_text : Window → ℕ → ℕ → ℕ → Slice → List ℕ
slice_text w gvt antimessages k s =
    title_text s ++ bars_text (bars_of w gvt antimessages k s) ++ codes "</g>\n"

abbrev pub column_text : List Row → Window → ℕ → ℕ → ℕ → List ℕ
column_text rows w gvt antimessages k =
    slice_text w gvt antimessages k (column_of rows w k)

-- under the columns: scales, the first and the last round, and the sums of the whole run
abbrev pub foot_text : Window → ℕ → ℕ → Slice → List ℕ
foot_text w antimessages rows s = filled COURSE_FOOT.now
    (s.gvt ∷ antimessages ∷ w.first ∷ (w.first + w.rounds - 1) ∷ w.rounds ∷ rows ∷ s.handled
    ∷ s.events ∷ efficiency_of s ∷ s.antimessages ∷ s.commits ∷ [])

abbrev pub columns_text : List Row → Window → Slice → ℕ → List ℕ
columns_text rows w whole antimessages =
    flat_map (column_text rows w whole.gvt antimessages) (below w.columns)

abbrev pub picture_text : List Row → Window → Slice → ℕ → List ℕ
picture_text rows w whole antimessages =
    filled COURSE_HEAD.now (w.rounds ∷ []) ++ STYLE.now ++ columns_text rows w whole antimessages
    ++ foot_text w antimessages (length rows) whole

abbrev pub course_text : List Row → List ℕ
course_text rows =
    let w = window_of rows in
    picture_text rows w (slice_of rows w.first (w.first + w.rounds))
    (most_antimessages rows w w.columns)
