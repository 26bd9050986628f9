-- The marks of a diagram, and of a simulation that forgets its events.
use Rattle.std.specs.List.{AllByRecursion as Every}
use Rattle.std.specs.Prelude.{None, nat_le, nat_lt}
use Rattle.std.proofs.Common.{◌≡◌, ◌+◌, ◌-◌, ◌<◌, ◌≤◌, ◌^◌, ◌++◌, ◌∷◌, [], ℕ, Bool, List, Option, Some, ap, append-nil, arith, false, filter, get_or, if◌then◌else◌, inl, inr, length, max, min, refl, subst, suc, sym, take, true, zero, ◌∙◌}
use Rattle.std.proofs.Math.ListN.{get_or-append}
use Rattle.std.proofs.lemmas.Bool.{and_from, and_parts, cases_Bool, cases_lt, le-leb, leb-true, lt-ltb, ltb-true}
use Rattle.std.proofs.lemmas.List.{length-append, length-take, map-append, take-append-le, take_all, take_more}
use Rattle.std.proofs.lemmas.List.Elements.{filter-append}
use Rattle.eventkey.proofs.Lists.{Every-all, Every-weaker}
use Rattle.eventkey.specs.Message.{Message}
use Rattle.model.specs.Meaning.{IsLawful, Meaning}
use Rattle.model.specs.Runner.{IsIdle, Simulation}
use Rattle.model.specs.World.{World, opening, step}
use Rattle.pictures.specs.Drawing.{AreMarks, IsDiagram, drawn_end, drawn_frame, drawing_text, first_shown, frame_of, is_shown, last_end, picture_text, sending, sendings, shown_count}
use Rattle.pictures.specs.Marking.{HasMarks, IsMarked}
use Rattle.pictures.specs.Run.{IsRunOf, Run, is_from, sending_times, sent_at, with_event}
use Rattle.pictures.specs.Senders.{AreSenders, HaveTime, HaveTimes}
use Rattle.pictures.specs.Stepping.{with_log}
use Rattle.pictures.specs.declared.diagrams.Diagram.{Diagram}
use Rattle.pictures.specs.declared.diagrams.Marks.{Marks}
use Rattle.pictures.specs.declared.diagrams.Sending.{Sending}
use Rattle.pictures.specs.declared.drawn.Frame.{Frame}
use Rattle.pictures.specs.declared.drawn.View.{View}
use Rattle.pictures.specs.declared.senders.Sender.{Sender}
use Rattle.pictures.proofs.Counts.{length-filter-le}
use Rattle.pictures.proofs.Running.{event_addressed, goes_on, numbers_after, opening_has, opening_run, pending_stepped, run_forgotten, run_stepped, run_ended, senders_whole, sends_at, sent_after, whole_run, length-run}
use Rattle.pictures.proofs.Traces.{length-opening}

-- 1. The first of the messages that pass a test

module _ {X : Type 0} (n : ℕ) (ys old : List X) (x : X) (is : old ≡ take n ys) where
  first_more : length old < n → take n (ys ++ x ∷ []) ≡ old ++ x ∷ []
  first_more few =
      let short : length ys < n = omega (arith, ap length is, length-take n ys) in
      take_all n (ys ++ x ∷ []) (omega (arith, length-append ys (x ∷ []))) ∙ ap (λ zs. zs ++ x ∷ []) (sym (is ∙ take_all n ys (omega arith)))

  first_enough : n ≤ length old → take n (ys ++ x ∷ []) ≡ old
  first_enough many = take-append-le n ys (x ∷ []) (omega (arith, ap length is, length-take n ys)) ∙ sym is

module _ {X : Type 0} (p q : X → Bool) (stronger : (x : X) → p x ≡ true → q x ≡ true) where
  -- of the first ones that pass the weaker test, all pass the stronger one
  same_first : (n : ℕ) (xs : List X) → length (filter p (take n (filter q xs))) ≡ length (take n (filter q xs)) → take n (filter p xs) ≡ take n (filter q xs)
  same_first zero xs e = refl
  same_first (suc n) [] e = refl
  same_first (suc n) (x ∷ xs) e = elim (cases_Bool (q x)) [
    | inl here ↦ elim (cases_Bool (p x)) [
      | inl both ↦ (let f = rw (here, both) at e in rw (here, both) (ap (λ ys. x ∷ ys) (same_first n xs (omega (arith, f)))))
      | inr only ↦ (let f = rw (here, only) at e in absurd (omega (arith, f, length-filter-le p (take n (filter q xs)))))
    ]
    | inr other ↦ elim (cases_Bool (p x)) [
      | inl both ↦ absurd (let f : true ≡ false = sym (stronger x both) ∙ other in cc)
      | inr only ↦ (let f = rw other at e in rw (other, only) (same_first (suc n) xs f))
    ]
  ]

filter_whole : {X : Type 0} (p : X → Bool) (xs : List X) → length (filter p xs) ≡ length xs → filter p xs ≡ xs
filter_whole p [] e = refl
filter_whole p (x ∷ xs) e = elim (cases_Bool (p x)) [
  | inl here ↦ (let f = rw here at e in rw here (ap (λ ys. x ∷ ys) (filter_whole p xs (omega (arith, f)))))
  | inr other ↦ (let f = rw other at e in absurd (omega (arith, f, length-filter-le p xs)))
]

-- 2. The marks of a frame

pub marks_more : (f : Frame) (before : ℕ) (xs : List Sending) (s : Sending) (old new : Marks) → is_shown f before s ≡ true → new.count ≡ old.count + 1
    → (length old.first.items < 2000 → new.first.items ≡ old.first.items ++ s ∷ []) → (2000 ≤ length old.first.items → new.first.items ≡ old.first.items) → AreMarks f before xs old → AreMarks f before (xs ++ s ∷ []) new
marks_more f before xs s old new shown count more enough are =
    let p : Sending → Bool = is_shown f before in
    let ys : List Sending = filter p xs in
    let all : filter p (xs ++ s ∷ []) ≡ ys ++ s ∷ [] = filter-append p xs (s ∷ []) ∙ ap (λ b. ys ++ (if b then s ∷ [] else [])) shown in
    record {
      count = count ∙ omega (arith, are.count, ap length all, length-append ys (s ∷ []));
      first = elim (cases_lt (length old.first.items) 2000) [
        | inl few ↦ more few ∙ sym (first_more 2000 ys old.first.items s are.first few) ∙ ap (take 2000) (sym all)
        | inr many ↦ enough many ∙ sym (first_enough 2000 ys old.first.items s are.first many) ∙ ap (take 2000) (sym all)
      ];
    }

pub marks_passed : (f : Frame) (before : ℕ) (xs : List Sending) (s : Sending) (m : Marks) → is_shown f before s ≡ false → AreMarks f before xs m → AreMarks f before (xs ++ s ∷ []) m
marks_passed f before xs s m other are =
    let p : Sending → Bool = is_shown f before in
    let all : filter p (xs ++ s ∷ []) ≡ filter p xs = filter-append p xs (s ∷ []) ∙ ap (λ b. filter p xs ++ (if b then s ∷ [] else [])) other ∙ append-nil (filter p xs) in
    record { count = are.count ∙ ap length (sym all); first = are.first ∙ ap (take 2000) (sym all) }

-- 3. Where a picture ends

abbrev pub with_to : ℕ → Frame → Frame
with_to to f = record f { to = to }

shown_within : (f : Frame) (before : ℕ) (s : Sending) → is_shown f before s ≡ true → (f.from ≤ s.message.time) × (s.message.time < before)
shown_within f before s shown =
    let (from, later) = and_parts (nat_le f.from s.message.time) _ shown in
    let (inside, others) = and_parts (nat_lt s.message.time before) _ later in
    (leb-true f.from s.message.time from, ltb-true s.message.time before inside)

shown_sooner : (f : Frame) (to : ℕ) → to ≤ f.to → (s : Sending) → is_shown (with_to to f) to s ≡ true → is_shown f f.to s ≡ true
shown_sooner f to le s shown =
    let (from, later) = and_parts (nat_le f.from s.message.time) _ shown in
    let (inside, others) = and_parts (nat_lt s.message.time to) _ later in
    let (sent, there) = and_parts (nat_lt s.sent to) _ others in
    let early = ltb-true s.message.time to inside in
    let soon = ltb-true s.sent to sent in
    and_from (nat_le f.from s.message.time) _ from (and_from (nat_lt s.message.time f.to) _ (lt-ltb s.message.time f.to (omega arith)) (and_from (nat_lt s.sent f.to) _ (lt-ltb s.sent f.to (omega arith)) there))

last_within : (f : Frame) (n end : ℕ) (xs : List Sending) → f.from ≤ end → end ≤ f.to → (f.from ≤ last_end end (take n (filter (is_shown f f.to) xs))) × (last_end end (take n (filter (is_shown f f.to) xs)) ≤ f.to)
last_within f zero end xs low high = (low, high)
last_within f (suc n) end [] low high = (low, high)
last_within f (suc n) end (s ∷ ss) low high = elim (cases_Bool (is_shown f f.to s)) [
  | inl here ↦ (let at = shown_within f f.to s here in rw here (last_within f n (s.message.time + 1) ss (omega (arith, at.0)) (omega (arith, at.1))))
  | inr other ↦ rw other (last_within f (suc n) end ss low high)
]

end_within : (f : Frame) (o : Option ℕ) (xs : List Sending) → f.from ≤ f.to → (f.from ≤ drawn_end f o (first_shown f f.to xs)) × (drawn_end f o (first_shown f f.to xs) ≤ f.to)
end_within f (Some to) xs le = (le, omega arith)
end_within f None xs le = last_within f 2000 f.to xs le (omega arith)

pub drawn_within : (r : Run) (v : View) → ((frame_of r v).from ≤ (drawn_frame r v).to) × ((drawn_frame r v).to ≤ (frame_of r v).to)
drawn_within r v = end_within (frame_of r v) v.to (sendings r r.events) (omega arith)

-- the events that were kept are enough, if all of them are drawn
pub kept_enough : (r : Run) (v : View) (kept : List Sending) → kept ≡ first_shown (frame_of r v) (frame_of r v).to (sendings r r.events)
    → length (first_shown (drawn_frame r v) (drawn_frame r v).to kept) ≡ length kept
    → first_shown (drawn_frame r v) (drawn_frame r v).to kept ≡ first_shown (drawn_frame r v) (drawn_frame r v).to (sendings r r.events)
kept_enough r v kept is long =
    let f : Frame = frame_of r v in
    let g : Frame = drawn_frame r v in
    let p : Sending → Bool = is_shown g g.to in
    let q : Sending → Bool = is_shown f f.to in
    let few : length kept ≤ 2000 = omega (arith, ap length is, length-take 2000 (filter q (sendings r r.events))) in
    let all : length (filter p kept) ≡ length kept = omega (arith, long, length-take 2000 (filter p kept), length-filter-le p kept) in
    let whole : first_shown g g.to kept ≡ kept = ap (take 2000) (filter_whole p kept all) ∙ take_all 2000 kept few in
    whole ∙ is ∙ sym (same_first p q (shown_sooner f g.to (drawn_within r v).1) 2000 (sendings r r.events) (subst (λ ss. length (filter p ss) ≡ length ss) is all))

pub drawing_is : (r : Run) (v : View) (d : Diagram) (f : Frame) (to : ℕ) → IsDiagram r v d → f ≡ frame_of r v → to ≡ max f.from (min f.to d.to)
    → picture_text d.time d.processes d.count (with_to to f) d.events.items d.pending.items ≡ drawing_text r v
drawing_is r v d f to is frame end =
    let g : Frame = drawn_frame r v in
    let within = drawn_within r v in
    let high : (drawn_frame r v).to ≤ f.to = subst (λ (h : Frame). g.to ≤ h.to) (sym frame) within.1 in
    let low : f.from ≤ g.to = subst (λ (h : Frame). h.from ≤ g.to) (sym frame) within.0 in
    let to_is : to ≡ g.to = omega (arith, end, is.to) in
    let same : with_to to f ≡ g = ap (λ t. with_to t f) to_is ∙ ap (with_to g.to) frame in
    ap (λ t. picture_text t d.processes d.count (with_to to f) d.events.items d.pending.items) is.time
    ∙ ap (λ k. picture_text r.time k d.count (with_to to f) d.events.items d.pending.items) is.processes
    ∙ ap (λ k. picture_text r.time (length r.first) k (with_to to f) d.events.items d.pending.items) is.count
    ∙ ap (λ (h : Frame). picture_text r.time (length r.first) (shown_count r (frame_of r v)) h d.events.items d.pending.items) same
    ∙ ap (λ ss. picture_text r.time (length r.first) (shown_count r (frame_of r v)) g ss d.pending.items) is.events
    ∙ ap (picture_text r.time (length r.first) (shown_count r (frame_of r v)) g (first_shown g g.to (sendings r r.events))) is.pending

-- 4. Pending messages that are not before a time

abbrev pub sending_as : Message → ℕ → Sending
sending_as x sent = record { message = x; sent = sent }

module _ (r : Run) (time : ℕ) (xs : List Message) (i : ℕ) (x : Message) (late : List Sending) (l : i < length xs) (is : x ≡ get_or xs i x) (so_far : late ≡ sendings r (filter (is_from time) (take i xs))) where
  one_more : filter (is_from time) (take (i + 1) xs) ≡ filter (is_from time) (take i xs) ++ (if is_from time x then x ∷ [] else [])
  one_more = ap (filter (is_from time)) (take_more xs i x l ∙ ap (λ y. take i xs ++ y ∷ []) (sym is)) ∙ filter-append (is_from time) (take i xs) (x ∷ [])

  pub late_more : time ≤ x.time → late ++ sending r x ∷ [] ≡ sendings r (filter (is_from time) (take (i + 1) xs))
  late_more le =
      let here = ap (λ b. filter (is_from time) (take i xs) ++ (if b then x ∷ [] else [])) (le-leb time x.time le) in
      ap (λ ss. ss ++ sending r x ∷ []) so_far ∙ sym (ap (sendings r) (one_more ∙ here) ∙ map-append (sending r) (filter (is_from time) (take i xs)) (x ∷ []))

  pub late_passed : x.time < time → late ≡ sendings r (filter (is_from time) (take (i + 1) xs))
  late_passed early = elim (cases_Bool (is_from time x)) [
    | inl e ↦ absurd (let le = leb-true time x.time e in omega arith)
    | inr e ↦ so_far ∙ sym (ap (sendings r) (one_more ∙ ap (λ b. filter (is_from time) (take i xs) ++ (if b then x ∷ [] else [])) e ∙ append-nil (filter (is_from time) (take i xs))))
  ]

-- 5. A simulation that marks its events

pub marked_event : (r : Run) (x : Message) (n : ℕ) (pending : List Message) (f : Frame) (old new : Marks) (s : Sending) → length r.sends ≡ length r.events → x.number < length (sending_times (with_event r x n pending) x.from)
    → s ≡ sending (with_event r x n pending) x → ((ss : List Sending) → AreMarks f f.to ss old → AreMarks f f.to (ss ++ s ∷ []) new) → HasMarks r f old → HasMarks (with_event r x n pending) f new
marked_event r x n pending f old new s same inside is add h = λ later on.
    let next : Run = with_event r x n pending in
    let (more, goes) = on x.from in
    let at : sent_at later x ≡ sent_at next x = ap (λ ts. get_or ts x.number 0) goes ∙ get_or-append (sending_times next x.from) more 0 x.number inside in
    let here : sending later x ≡ s = ap (sending_as x) at ∙ sym is in
    let all : sendings later (r.events ++ x ∷ []) ≡ sendings later r.events ++ s ∷ [] = map-append (sending later) r.events (x ∷ []) ∙ ap (λ t. sendings later r.events ++ t ∷ []) here in
    subst (λ ss. AreMarks f f.to ss new) (sym all) (add (sendings later r.events) (h later (goes_on r later x n pending same on)))

module _ (m : Meaning) (bound : ℕ) (f : Frame) where
  pub marked_open : (end : ℕ) (s : Simulation) (senders : List Sender) (marks : Marks) (numbers : List ℕ) → s ≡ record { end = end; world = opening m } → numbers ≡ s.world.numbers
      → ((r : Run) → r.first ≡ numbers → r.events ≡ [] → AreSenders r senders) → ((r : Run) (x : Message) → r.first ≡ numbers → r.events ≡ [] → HaveTime r senders x) → AreMarks f f.to [] marks → IsMarked m bound s.world f senders marks
  marked_open end s senders marks numbers e numbers_are are found none =
      let r : Run = opening_run m in
      let first : (opening m).numbers ≡ numbers = sym (numbers_are ∙ ap (λ (t : Simulation). t.world.numbers) e) in
      let there : IsMarked m bound (opening m) f senders marks = record {
        run = r;
        has = opening_has m bound;
        senders = are r first refl;
        pending = Every-all (HaveTime r senders) (λ x. found r x first refl) (opening m).pending;
        marks = λ later on. none;
      } in
      subst (λ (t : Simulation). IsMarked m bound t.world f senders marks) (sym e) there

  -- there is an entry for the receiver of an event
  pub marked_fits : (w v : World) (senders : List Sender) (marks : Marks) (x : Message) (rest : List Message) (numbers : List ℕ) → IsLawful m → bound ≤ 2 ^ 40 → IsMarked m bound w f senders marks → w.pending ≡ x ∷ rest → step m bound w ≡ Some v
      → numbers ≡ v.numbers → (x.to < length numbers) × (x.to < length senders)
  marked_fits w v senders marks x rest numbers law short is first e numbers_are =
      let there = event_addressed m bound is.run w x rest law short is.has first in
      let long = numbers_after m bound is.run w v x rest numbers law short is.has first e numbers_are in
      let lps = length-opening m law is.run.first is.has.first in
      (omega (arith, long), omega (arith, lps, is.senders.long))

  pub marked_step : (w v : World) (x : Message) (rest : List Message) (old new : List Sender) (a b : Marks) (numbers : List ℕ) → IsLawful m → bound ≤ 2 ^ 40 → IsMarked m bound w f old a → w.pending ≡ x ∷ rest → step m bound w ≡ Some v
      → numbers ≡ v.numbers
      → ((r : Run) (n : ℕ) (pending : List Message) → AreSenders r old → length r.sends ≡ length r.events → get_or numbers x.to 0 ≡ length (sending_times r x.to) + n → HaveTimes r (with_event r x n pending) old new)
      → ((r : Run) (n : ℕ) (pending : List Message) → AreSenders r old → length r.sends ≡ length r.events → get_or numbers x.to 0 ≡ length (sending_times r x.to) + n → HaveTime r old x → HasMarks r f a → HasMarks (with_event r x n pending) f b)
      → IsMarked m bound v f new b
  marked_step w v x rest old new a b numbers law short is first e numbers_are times add =
      let r : Run = is.run in
      let n : ℕ = sends_at m w x in
      let same = length-run m bound r w is.has in
      let count = sent_after m bound r w v x rest numbers law short is.has first e numbers_are in
      let all : Every (HaveTime r old) (x ∷ rest) = subst (Every (HaveTime r old)) first is.pending in
      let next : Run = with_event r x n v.pending in
      let have = times r n v.pending is.senders same count in
      record {
        run = next;
        has = run_stepped m bound r w v x rest law short is.has first e;
        senders = have.senders;
        pending = Every-weaker (HaveTime r old) (HaveTime next new) have.found v.pending (pending_stepped m bound r w v x rest old is.has is.senders first e is.pending);
        marks = add r n v.pending is.senders same count all.0 is.marks;
      }

  pub marked_forgotten : (end : ℕ) (w : World) (s : Simulation) (old new : List Sender) (marks : Marks) → IsMarked m bound w f old marks → s ≡ record { end = end; world = with_log [] w }
      → ((r : Run) → AreSenders r old → Every (HaveTime r old) w.pending → AreSenders r new) → ((r : Run) → AreSenders r old → Every (HaveTime r old) w.pending → Every (HaveTime r new) w.pending) → IsMarked m bound s.world f new marks
  marked_forgotten end w s old new marks is e senders pending =
      let there : IsMarked m bound (with_log [] w) f new marks = record { run = is.run; has = run_forgotten m bound is.run w is.has; senders = senders is.run is.senders is.pending; pending = pending is.run is.senders is.pending; marks = is.marks } in
      subst (λ (t : Simulation). IsMarked m bound t.world f new marks) (sym e) there

-- the run that was marked, when no event is left
pub marked_run : (m : Meaning) (end to : ℕ) (f : Frame) (w : World) (senders : List Sender) (marks : Marks) → IsMarked m (min to end) w f senders marks → IsIdle (min to end) w
    → (r : Run) × IsRunOf m end to r × AreMarks f f.to (sendings r r.events) marks × (r.pending ≡ w.pending) × AreSenders r senders × Every (HaveTime r senders) w.pending
marked_run m end to f w senders marks is idle =
    let r : Run = whole_run (min to end) is.run w in (
      r,
      run_ended m end to is.run w is.has idle,
      is.marks r (λ lp. ([], sym (append-nil (sending_times r lp)))),
      refl,
      senders_whole (min to end) is.run w senders is.senders,
      is.pending,
    )
