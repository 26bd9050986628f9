-- The space-time diagram of a run: virtual time along x, a line for each process, a dot for each
-- event, and a line for each message from its sending to its receiving. Coordinates are whole
-- pixels. Under the diagram a legend names the marks.
use Rattle.std.specs.List.{filter}
use Rattle.std.specs.Prelude.{ℕ, ◌≡◌, ◌+◌, ◌-◌, ◌*◌, ◌/◌, ◌^◌, ◌&&◌, Bool, List, [], ◌∷◌, ◌++◌}
use Rattle.std.specs.Prelude.{Option, Some, None, drop, flat_map, if◌then◌else◌, length, map, max}
use Rattle.std.specs.Prelude.{min, nat_le, nat_lt, take, unwrap_or}
use Rattle.eventkey.specs.Message.{Message}
use Rattle.model.specs.World.{below}
use Rattle.pictures.specs.Filled.{filled}
use Rattle.pictures.specs.Run.{Run, sent_at}
use Rattle.pictures.specs.declared.diagrams.Diagram.{Diagram}
use Rattle.pictures.specs.declared.diagrams.Marks.{Marks}
use Rattle.pictures.specs.declared.diagrams.Sending.{Sending}
use Rattle.pictures.specs.declared.drawn.Frame.{Frame}
use Rattle.pictures.specs.declared.drawn.View.{View}
use Rattle.pictures.specs.declared.drawn.TheConstants.{AXES, DOT, HEAD, LEGEND, LINE, NOTE}
use Rattle.pictures.specs.declared.drawn.TheConstants.{PENDING, ROW, RULE, STEPS, STYLE, TAIL, TICK}

-- a message of a run, with the time at which it was sent
abbrev pub sending : Run → Message → Sending
sending r x = record { message = x; sent = sent_at r x }

abbrev pub sendings : Run → List Message → List Sending
sendings r xs = map (sending r) xs

-- the part of a run that a view has: a range of ticks, in a view without an end up to the tick that
-- the run reached, and at most 64 processes from the first one of the view on
abbrev pub frame_of : Run → View → Frame
frame_of r v =
    let from = min v.from (2 ^ 41) in
    record {
      from = from;
      to = max from (min (unwrap_or v.to (r.time + 1)) (2 ^ 41));
      first = v.first;
      rows = min 64 (min (v.last + 1) (length r.first) - v.first);
    }

-- the number of ticks that the frame shows, at least 1
abbrev pub span_of : Frame → ℕ
span_of f = max 1 (f.to - f.from)

-- the x coordinate of a time; a time outside the frame is at the edge
abbrev pub x_of : Frame → ℕ → ℕ
x_of f time = 60 + min (time - f.from) (span_of f) * 900 / span_of f

-- the y coordinate of a process; a process outside the frame is beyond the edge
abbrev pub y_of : Frame → ℕ → ℕ
y_of f process =
    if nat_lt process f.first then 40 else 60 + 20 * min (process - f.first) f.rows

abbrev pub bottom_of : Frame → ℕ
bottom_of f = 60 + 20 * f.rows

-- a message that is received in the frame before this time, and sent before the frame's end
abbrev pub is_shown : Frame → ℕ → Sending → Bool
is_shown f before s =
    nat_le f.from s.message.time && (nat_lt s.message.time before && (nat_lt s.sent f.to
    && (nat_le f.first s.message.to && nat_lt (s.message.to - f.first) f.rows)))

-- the first 2,000 messages that are shown
abbrev pub first_shown : Frame → ℕ → List Sending → List Sending
first_shown f before xs = take 2000 (filter (is_shown f before) xs)

-- the time after the last one of these events, or `end` if there are none
abbrev pub last_end : ℕ → List Sending → ℕ
last_end end [] = end
last_end end (s ∷ ss) = last_end (s.message.time + 1) ss

-- where the picture of a frame ends that draws these events: if the view has no end, with the last
abbrev pub drawn_end : Frame → Option ℕ → List Sending → ℕ
drawn_end f (Some to) events = f.to
drawn_end f None events = last_end f.to events

-- the part of a run that the picture of a view has
abbrev pub drawn_frame : Run → View → Frame
drawn_frame r v =
    let f = frame_of r v in
    record f { to = drawn_end f v.to (first_shown f f.to (sendings r r.events)) }

-- the numbers of a mark: the coordinates of sending and receiving, then the message itself
abbrev pub mark_numbers : Frame → Sending → List ℕ
mark_numbers f s =
    let x = s.message in
    x_of f s.sent ∷ y_of f x.from ∷ x_of f x.time ∷ y_of f x.to
    ∷ s.sent ∷ x.time ∷ x.from ∷ x.number ∷ x.to ∷ x.a ∷ x.b ∷ x.c ∷ x.d ∷ []

-- the marks of messages, without the first `skip` numbers
abbrev pub marks_text : Frame → List ℕ → ℕ → List Sending → List ℕ
marks_text f text skip ss = flat_map (λ s. filled text (drop skip (mark_numbers f s))) ss

-- the least of these ascending steps of which ten cover the span, or 10^12
unfoldable pub step_from : ℕ → List ℕ → ℕ
step_from span [] = 1000000000000
step_from span (step ∷ steps) =
    if nat_le span (10 * step) then step else step_from span steps

abbrev pub step_of : Frame → ℕ
step_of f = step_from (span_of f) STEPS

-- the first multiple of the step in the frame
abbrev pub first_tick : Frame → ℕ
first_tick f = (f.from + step_of f - 1) / step_of f * step_of f

-- the number of its multiples in the frame
abbrev pub tick_count : Frame → ℕ
tick_count f = (f.to + step_of f - first_tick f) / step_of f

abbrev pub tick_text : Frame → ℕ → List ℕ
tick_text f time = filled TICK.now
    (x_of f time ∷ x_of f time ∷ bottom_of f ∷ x_of f time ∷ (bottom_of f + 16) ∷ time ∷ [])

abbrev pub ticks_text : Frame → List ℕ
ticks_text f = flat_map (λ k. tick_text f (first_tick f + k * step_of f)) (below (tick_count f))

abbrev pub row_text : Frame → ℕ → List ℕ
row_text f k = filled ROW.now
    ((60 + 20 * k) ∷ (60 + 20 * k) ∷ (64 + 20 * k) ∷ (f.first + k) ∷ [])

abbrev pub rows_text : Frame → List ℕ
rows_text f = flat_map (row_text f) (below f.rows)

-- the titles of the axes: under the labels of the ticks, and beside those of the processes
abbrev pub axes_text : Frame → List ℕ
axes_text f = filled AXES.now ((bottom_of f + 34) ∷ (50 + 10 * f.rows) ∷ [])

-- the background of the marks
abbrev pub grid_text : Frame → List ℕ
grid_text f = ticks_text f ++ rows_text f ++ axes_text f

-- a line at the virtual time up to which the run went, if it is in the frame
abbrev pub rule_text : ℕ → Frame → List ℕ
rule_text time f =
    if nat_le f.from time && nat_le time f.to then filled RULE.now
    (x_of f time ∷ x_of f time ∷ bottom_of f ∷ time ∷ []) else []

-- how many events the frame of a view shows
abbrev pub shown_count : Run → Frame → ℕ
shown_count r f = length (filter (is_shown f f.to) (sendings r r.events))

-- how many of the view's events are drawn, and which of the processes
abbrev pub note_text : ℕ → Frame → ℕ → List ℕ
note_text processes f count = filled NOTE.now
    (min 2000 count ∷ count ∷ f.first ∷ (f.first + f.rows - 1) ∷ processes ∷ [])

-- what each mark means, and the virtual time up to which the run went
abbrev pub legend_text : ℕ → Frame → List ℕ
legend_text time f = filled LEGEND.now ((bottom_of f + 34) ∷ time ∷ [])

abbrev pub head_text : Frame → List ℕ
head_text f = filled HEAD.now ((bottom_of f + 40) ∷ (bottom_of f + 40) ∷ f.from ∷ f.to ∷ [])

-- the picture of a frame, where the view has `count` events, of which these are drawn
abbrev pub picture_text : ℕ → ℕ → ℕ → Frame → List Sending → List Sending → List ℕ
picture_text time processes count f events pending =
    head_text f ++ STYLE.now ++ grid_text f
    ++ marks_text f PENDING.now 0 pending
    ++ marks_text f LINE.now 0 events
    ++ marks_text f DOT.now 2 events
    ++ rule_text time f ++ note_text processes f count ++ legend_text time f ++ TAIL.now

abbrev pub drawing_text : Run → View → List ℕ
drawing_text r v =
    let f = drawn_frame r v in
    picture_text r.time (length r.first) (shown_count r (frame_of r v)) f
    (first_shown f f.to (sendings r r.events))
    (first_shown f (2 ^ 64 - 1) (sendings r r.pending))

-- what is kept of these messages: how many a frame shows, and the first of them
pub record AreMarks (f : Frame) (before : ℕ) (xs : List Sending) (m : Marks) : Type 0 where
  pub count : m.count ≡ length (filter (is_shown f before) xs)
  pub first : m.first.items ≡ first_shown f before xs

-- what is kept of a run for its picture in a view
pub record IsDiagram (r : Run) (v : View) (d : Diagram) : Type 0 where
  pub time : d.time ≡ r.time
  pub processes : d.processes ≡ length r.first
  pub view : d.view ≡ v
  pub count : d.count ≡ shown_count r (frame_of r v)
  pub to : d.to ≡ (drawn_frame r v).to
  pub events : d.events.items
      ≡ first_shown (drawn_frame r v) (drawn_frame r v).to (sendings r r.events)
  pub pending : d.pending.items
      ≡ first_shown (drawn_frame r v) (2 ^ 64 - 1) (sendings r r.pending)
