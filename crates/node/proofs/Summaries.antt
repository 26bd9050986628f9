-- The times of summaries in lists of their own.
use Rattle.std.proofs.Common.{◌≡◌, ℕ, zero, suc, ◌<◌, ◌≤◌, ◌^◌, min, true, false, List, [], ◌∷◌, length, get_or, set, replicate, refl, sym, subst, ◌∙◌, ap, arith, Option, Some, None, IfSome}
use Rattle.std.proofs.lemmas.Bool.{cond-true, le-ltb, lt-ltb}
use Rattle.std.proofs.lemmas.List.{get_or-map, length-map, map-set, set-get_or}
use Rattle.std.specs.Prelude.{nat_lt}
use Rattle.eventkey.proofs.Lists.{map-replicate}
use Rattle.node.specs.Blocks.{AreBlocks, IsQuietFrom, lows_of, oldest_of, with_oldest}
use Rattle.node.specs.Node.{earliest}
use Rattle.node.specs.Seats.{is_due}
use Rattle.node.specs.Times.{AreFrom, least_in, never, ticks_of, time_of}
use Rattle.node.specs.Tournament.{IsLowInRange, absent, least_among}
use Rattle.node.specs.declared.summary.Summary.{Summary}

-- 1. One time

ticks_earliest : (x y : Option ℕ) → IfSome x (λ time. time < 2 ^ 41) → IfSome y (λ time. time < 2 ^ 41) → ticks_of (earliest x y) ≡ min (ticks_of x) (ticks_of y)
ticks_earliest None None h k = omega arith
ticks_earliest None (Some y) h k = omega arith
ticks_earliest (Some x) None h k = omega arith
ticks_earliest (Some x) (Some y) h k = refl

earliest_in_range : (x y : Option ℕ) → IfSome x (λ time. time < 2 ^ 41) → IfSome y (λ time. time < 2 ^ 41) → IfSome (earliest x y) (λ time. time < 2 ^ 41)
earliest_in_range None y h k = k
earliest_in_range (Some x) None h k = h
earliest_in_range (Some x) (Some y) h k = omega arith

same_time : (time : Option ℕ) → IfSome time (λ t. t < 2 ^ 41) → time_of (ticks_of time) ≡ time
same_time None h = refl
same_time (Some t) h = cond-true (nat_lt t never) (Some t) None (lt-ltb t never (omega arith))

not_due : (floor : ℕ) (time : Option ℕ) → floor ≤ ticks_of time → is_due floor time ≡ false
not_due floor None h = refl
not_due floor (Some t) h = le-ltb t floor h

now_due : (floor : ℕ) (time : Option ℕ) → floor ≤ never → ticks_of time < floor → is_due floor time ≡ true
now_due floor None most h = absurd (omega arith)
now_due floor (Some t) most h = lt-ltb t floor h

-- 2. The least time

lows_set : (xs : List Summary) (i : ℕ) (x : Summary) → IsLowInRange x → ((k : ℕ) → IsLowInRange (get_or xs k absent)) → (k : ℕ) → IsLowInRange (get_or (set xs i x) k absent)
lows_set [] i x h f k = f k
lows_set (c ∷ cs) zero x h f zero = h
lows_set (c ∷ cs) zero x h f (suc k) = f (suc k)
lows_set (c ∷ cs) (suc i) x h f zero = f zero
lows_set (c ∷ cs) (suc i) x h f (suc k) = lows_set cs i x h (λ j. f (suc j)) k

least_in_range : (xs : List Summary) → ((k : ℕ) → IsLowInRange (get_or xs k absent)) → IsLowInRange (least_among xs)
least_in_range [] h = tt
least_in_range (x ∷ xs) h = earliest_in_range x.low (least_among xs).low (h zero) (least_in_range xs (λ k. h (suc k)))

least_ticks : (xs : List Summary) → ((k : ℕ) → IsLowInRange (get_or xs k absent)) → least_in (lows_of xs) ≡ ticks_of (least_among xs).low
least_ticks [] h = refl
least_ticks (x ∷ xs) h =
    let rest : (k : ℕ) → IsLowInRange (get_or xs k absent) = λ k. h (suc k) in
    ap (min (ticks_of x.low)) (least_ticks xs rest)
    ∙ sym (ticks_earliest x.low (least_among xs).low (h zero) (least_in_range xs rest))

pub low_is : (xs : List Summary) (lows oldest : List ℕ) (ticks : ℕ) (low : Option ℕ) → AreBlocks xs lows oldest → ticks ≡ least_in lows → low ≡ time_of ticks → low ≡ (least_among xs).low
low_is xs lows oldest ticks low h least is =
    is
    ∙ ap time_of (least ∙ ap least_in h.lows_are ∙ least_ticks xs h.ranged)
    ∙ same_time (least_among xs).low (least_in_range xs h.ranged)

pub low_ranged : (xs : List Summary) (lows oldest : List ℕ) (low : Option ℕ) → AreBlocks xs lows oldest → low ≡ (least_among xs).low → IfSome low (λ time. time < 2 ^ 41)
low_ranged xs lows oldest low h is = subst (λ (t : Option ℕ). IfSome t (λ time. time < 2 ^ 41)) (sym is) (least_in_range xs h.ranged)

low_at : (xs : List Summary) (lows oldest : List ℕ) (k : ℕ) → AreBlocks xs lows oldest → k < length xs → get_or lows k 0 ≡ ticks_of (get_or xs k absent).low
low_at xs lows oldest k h l = ap (λ (ts : List ℕ). get_or ts k 0) h.lows_are ∙ get_or-map (λ (s : Summary). ticks_of s.low) xs k absent 0 l

-- 3. Changes

pub none_at : (count k : ℕ) → get_or (replicate count absent) k absent ≡ absent
none_at zero k = refl
none_at (suc count) zero = refl
none_at (suc count) (suc k) = none_at count k

-- empty summaries
pub blocks_new : (places : ℕ) (xs : List Summary) (lows oldest : List ℕ) → xs ≡ replicate places absent → lows ≡ replicate places never → oldest ≡ replicate places never → AreBlocks xs lows oldest
blocks_new places xs lows oldest is low old = record {
  lows_are = low ∙ sym (ap lows_of is ∙ map-replicate (λ (s : Summary). ticks_of s.low) places absent);
  oldest_are = old ∙ sym (ap oldest_of is ∙ map-replicate (λ (s : Summary). ticks_of s.oldest) places absent);
  ranged = λ k. subst (λ (ys : List Summary). IsLowInRange (get_or ys k absent)) (sym is) (subst IsLowInRange (sym (none_at places k)) tt);
}

-- a summary changes
pub blocks_with : (xs : List Summary) (lows oldest : List ℕ) (place : ℕ) (x : Summary) → AreBlocks xs lows oldest → IsLowInRange x → AreBlocks (set xs place x) (set lows place (ticks_of x.low)) (set oldest place (ticks_of x.oldest))
blocks_with xs lows oldest place x h fits = record {
  lows_are = ap (λ (ts : List ℕ). set ts place (ticks_of x.low)) h.lows_are ∙ sym (map-set (λ (s : Summary). ticks_of s.low) xs place x);
  oldest_are = ap (λ (ts : List ℕ). set ts place (ticks_of x.oldest)) h.oldest_are ∙ sym (map-set (λ (s : Summary). ticks_of s.oldest) xs place x);
  ranged = lows_set xs place x fits h.ranged;
}

-- the oldest time of a summary changes
pub blocks_with_oldest : (xs : List Summary) (lows oldest : List ℕ) (place : ℕ) (time : Option ℕ) → AreBlocks xs lows oldest → place < length xs → AreBlocks (set xs place (with_oldest time (get_or xs place absent))) lows (set oldest place (ticks_of time))
blocks_with_oldest xs lows oldest place time h there =
    let was : Summary = get_or xs place absent in
    let new = blocks_with xs lows oldest place (with_oldest time was) h (h.ranged place) in
    let same : set lows place (ticks_of was.low) ≡ lows = ap (set lows place) (sym (low_at xs lows oldest place h there)) ∙ set-get_or lows place 0 in
    subst (λ (ts : List ℕ). AreBlocks (set xs place (with_oldest time was)) ts (set oldest place (ticks_of time))) same new

-- 4. Times below the floor

pub length-oldest : (xs : List Summary) (lows oldest : List ℕ) → AreBlocks xs lows oldest → length oldest ≡ length xs
length-oldest xs lows oldest h = ap length h.oldest_are ∙ length-map xs (λ (s : Summary). ticks_of s.oldest)

time_at : (xs : List Summary) (lows oldest : List ℕ) (k : ℕ) → AreBlocks xs lows oldest → k < length xs → get_or oldest k 0 ≡ ticks_of (get_or xs k absent).oldest
time_at xs lows oldest k h l = ap (λ (ts : List ℕ). get_or ts k 0) h.oldest_are ∙ get_or-map (λ (s : Summary). ticks_of s.oldest) xs k absent 0 l

pub quiet_by_times : (floor : ℕ) (xs : List Summary) (lows oldest : List ℕ) (from to : ℕ) → AreBlocks xs lows oldest → to ≤ length xs → AreFrom floor oldest from to → IsQuietFrom floor xs from to
quiet_by_times floor xs lows oldest from to h most late k a b =
    let time = time_at xs lows oldest k h (omega arith) in
    let from_floor = late k a b in
    not_due floor (get_or xs k absent).oldest (omega arith)

pub due_by_time : (floor : ℕ) (xs : List Summary) (lows oldest : List ℕ) (k : ℕ) → AreBlocks xs lows oldest → floor ≤ never → k < length xs → get_or oldest k 0 < floor → is_due floor (get_or xs k absent).oldest ≡ true
due_by_time floor xs lows oldest k h most l below =
    let time = time_at xs lows oldest k h l in
    now_due floor (get_or xs k absent).oldest most (omega arith)
