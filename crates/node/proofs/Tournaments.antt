-- The winner at the root of a tournament has the least message, and replaying the matches above a
-- leaf keeps it so.
use Rattle.std.proofs.Common.{◌≡◌, ◌≢◌, ◌⊎◌, ℕ, zero, suc, ◌+◌, ◌*◌, ◌/◌, ◌<◌, ◌≤◌, ◌^◌, List, [], ◌∷◌, length, get_or, set, ◌++◌, ◌-◌, take, replicate, refl, sym, subst, ◌∙◌, ap, arith, inl, inr, Option, None}
use Rattle.std.proofs.lemmas.Bool.{cases_eq}
use Rattle.std.proofs.lemmas.List.{get_or-set_other, get_or-set_same, length-set, get_or_default, length-replicate}
use Rattle.std.proofs.Math.Seq.{take-nil}
use Rattle.eventkey.specs.Message.{Message}
use Rattle.node.specs.Node.{lesser}
use Rattle.node.specs.declared.summary.Summary.{Summary}
use Rattle.node.specs.Tournament.{HasWon, IsBelow, IsTournament, absent, least_among, next_at, up, winner_next}
use Rattle.node.proofs.Lesser.{lesser_assoc, lesser_comm, lesser_none}
use Rattle.node.proofs.Summaries.{none_at}

-- 1. The root

abbrev Won : (ℕ → Option Message) → ℕ → Type 0
Won f k = f k ≡ lesser (f (2 * k)) (f (2 * k + 1))

-- the least message at n cells from this one on
abbrev least_from : (ℕ → Option Message) → ℕ → ℕ → Option Message
least_from f start zero = None
least_from f start (suc n) = lesser (f start) (least_from f (start + 1) n)

least_from-last : (f : ℕ → Option Message) (start n : ℕ) → least_from f start (suc n) ≡ lesser (least_from f start n) (f (start + n))
least_from-last f start zero = lesser_none (f start) ∙ ap f {x = start} {y = start + 0} (omega arith)
least_from-last f start (suc n) =
    ap (lesser (f start)) (least_from-last f (start + 1) n)
    ∙ sym (lesser_assoc (f start) (least_from f (start + 1) n) (f (start + 1 + n)))
    ∙ ap (λ (k : ℕ). lesser (least_from f start (suc n)) (f k)) {x = start + 1 + n} {y = start + suc n} (omega arith)

-- one match down: the winner leaves the window, and the two cells below it join
least_from-down : (f : ℕ → Option Message) (k : ℕ) → Won f (suc k) → least_from f (suc k) (suc k) ≡ least_from f (suc (suc k)) (suc (suc k))
least_from-down f k won =
    let start : ℕ = suc k + 1 in
    let rest : Option Message = least_from f start k in
    let left : Option Message = f (2 * suc k) in
    let right : Option Message = f (2 * suc k + 1) in
    let two : least_from f start (suc (suc k)) ≡ lesser (lesser rest left) right =
    least_from-last f start (suc k)
    ∙ ap (λ (m : Option Message). lesser m (f (start + suc k))) (least_from-last f start k)
    ∙ ap (λ (j : ℕ). lesser (lesser rest (f j)) (f (start + suc k))) {x = start + k} {y = 2 * suc k} (omega arith)
    ∙ ap (λ (j : ℕ). lesser (lesser rest left) (f j)) {x = start + suc k} {y = 2 * suc k + 1} (omega arith)
    in
    ap (λ (m : Option Message). lesser m rest) won
    ∙ lesser_comm (lesser left right) rest
    ∙ sym (lesser_assoc rest left right)
    ∙ sym two
    ∙ ap (λ (j : ℕ). least_from f j (suc (suc k))) {x = start} {y = suc (suc k)} (omega arith)

root_at : (f : ℕ → Option Message) (k leaves : ℕ) → ((j : ℕ) → 1 ≤ j → j < leaves → Won f j) → suc k ≤ leaves → least_from f 1 1 ≡ least_from f (suc k) (suc k)
root_at f zero leaves h few = refl
root_at f (suc k) leaves h few = root_at f k leaves h (omega arith) ∙ least_from-down f k (h (suc k) (omega arith) (omega arith))

root_for : (f : ℕ → Option Message) (leaves : ℕ) → ((j : ℕ) → 1 ≤ j → j < leaves → Won f j) → 1 ≤ leaves → f 1 ≡ least_from f leaves leaves
root_for f zero h some = absurd (omega arith)
root_for f (suc n) h some = sym (lesser_none (f 1)) ∙ root_at f n (suc n) h (omega arith)

leaves_least : (f : ℕ → Option Message) (xs : List Summary) (start : ℕ) → ((p : ℕ) → p < length xs → f (start + p) ≡ next_at xs p) → least_from f start (length xs) ≡ (least_among xs).next
leaves_least f [] start h = refl
leaves_least f (x ∷ xs) start h =
    ap (λ (m : Option Message). lesser m (least_from f (start + 1) (length xs))) (ap f {x = start} {y = start + 0} (omega arith) ∙ h zero (omega arith))
    ∙ ap (lesser x.next) (leaves_least f xs (start + 1) (λ p l. ap f {x = start + 1 + p} {y = start + suc p} (omega arith) ∙ h (suc p) (omega arith)))

up_most : (levels k : ℕ) → up levels k ≤ k
up_most zero k = omega arith
up_most (suc levels) k = let less = up_most levels k in omega arith

up_one : (levels k : ℕ) → up (suc levels) k ≡ up levels (k / 2)
up_one zero k = refl
up_one (suc levels) k = ap (λ (j : ℕ). j / 2) (up_one levels k)

own_from : (levels leaves place cell : ℕ) → place < leaves → up levels (leaves + place) ≡ cell → leaves ≤ cell → place ≡ cell - leaves
own_from zero leaves place cell there e l = omega arith
own_from (suc levels) leaves place cell there e l = absurd (let most = up_most levels (leaves + place) in omega arith)

-- the cell of a leaf has the place of the leaf
own_place : (leaves place cell : ℕ) → IsBelow leaves place cell → leaves ≤ cell → place ≡ cell - leaves
own_place leaves place cell h l = own_from h.levels leaves place cell h.there h.above l

pub root_is_least : (leaves : List Summary) (winners : List ℕ) → IsTournament leaves winners → 1 ≤ length leaves → winner_next leaves winners 1 ≡ (least_among leaves).next
root_is_least leaves winners h some =
    let n : ℕ = length leaves in
    root_for (winner_next leaves winners) n h.won some
    ∙ leaves_least (winner_next leaves winners) leaves n (λ p l. ap (next_at leaves) (own_place n (get_or winners (n + p) 0) (n + p) (h.below (n + p) (omega arith) (omega arith)) (omega arith) ∙ omega arith))

-- 2. Matches replayed

-- while the matches above a cell are replayed, all matches but those above it are won
pub record IsReplaying (leaves : List Summary) (winners : List ℕ) (cell : ℕ) : Type 0 where
  pub size : length winners ≡ 2 * length leaves
  pub few : length leaves < 2 ^ 32
  pub some : 1 ≤ cell
  pub inside : cell < 2 * length leaves
  pub below : (k : ℕ) → 1 ≤ k → k < 2 * length leaves → IsBelow (length leaves) (get_or winners k 0) k
  pub won : (k : ℕ) → 1 ≤ k → k < length leaves → ((levels : ℕ) → up (suc levels) cell ≢ k) → HasWon leaves winners k

-- a changed leaf is the winner only at cells above it
not_there : (leaves leaf place cell : ℕ) → IsBelow leaves place cell → ((levels : ℕ) → up levels (leaves + leaf) ≢ cell) → place ≢ leaf
not_there leaves leaf place cell h none e = none h.levels (ap (λ (p : ℕ). up h.levels (leaves + p)) (sym e) ∙ h.above)

other_next : (leaves : List Summary) (leaf place : ℕ) (x : Summary) → place ≢ leaf → next_at (set leaves leaf x) place ≡ next_at leaves place
other_next leaves leaf place x other = ap (λ (s : Summary). s.next) (get_or-set_other leaves leaf place x absent other)

pub replay_begins : (leaves : List Summary) (winners : List ℕ) (leaf : ℕ) (x : Summary) → IsTournament leaves winners → leaf < length leaves →
    IsReplaying (set leaves leaf x) winners (length leaves + leaf)
replay_begins leaves winners leaf x h l =
    let n : ℕ = length leaves in
    let same : length (set leaves leaf x) ≡ n = length-set leaves leaf x in
    let size = h.size in
    let few = h.few in
    let still : (k : ℕ) → 1 ≤ k → k < 2 * n → ((levels : ℕ) → up levels (n + leaf) ≢ k) → winner_next (set leaves leaf x) winners k ≡ winner_next leaves winners k =
    λ k a b none. other_next leaves leaf (get_or winners k 0) x (not_there n leaf (get_or winners k 0) k (h.below k a b) none)
    in
    record {
      size = omega arith;
      few = omega arith;
      some = omega arith;
      inside = omega arith;
      below = λ k a b. subst (λ (m : ℕ). IsBelow m (get_or winners k 0) k) (sym same) (h.below k a (omega arith));
      won = λ k a b none.
          still k a (omega arith) (λ levels. not_at n leaf k levels none (omega arith))
          ∙ h.won k a (omega arith)
          ∙ sym (ap (λ (m : Option Message). lesser m (winner_next (set leaves leaf x) winners (2 * k + 1))) (still (2 * k) (omega arith) (omega arith) (λ levels e. none levels (let two = e in omega arith)))
          ∙ ap (lesser (winner_next leaves winners (2 * k))) (still (2 * k + 1) (omega arith) (omega arith) (λ levels e. none levels (let two = e in omega arith))));
    }
  where
    not_at : (n leaf k levels : ℕ) → ((j : ℕ) → up (suc j) (n + leaf) ≢ k) → k < n → up levels (n + leaf) ≢ k
    not_at n leaf k zero none l e = omega arith
    not_at n leaf k (suc levels) none l e = none levels e

-- a leaf below a cell is below the cell above that
pub below_up : (leaves place cell above : ℕ) → IsBelow leaves place cell → cell / 2 ≡ above → IsBelow leaves place above
below_up leaves place cell above h e = record { there = h.there; levels = suc h.levels; above = ap (λ (k : ℕ). k / 2) h.above ∙ e }

pub replay_goes_on : (leaves : List Summary) (winners : List ℕ) (cell place : ℕ) → 1 < cell → IsReplaying leaves winners cell →
    (place ≡ get_or winners (2 * (cell / 2)) 0) ⊎ (place ≡ get_or winners (2 * (cell / 2) + 1) 0) →
    next_at leaves place ≡ lesser (winner_next leaves winners (2 * (cell / 2))) (winner_next leaves winners (2 * (cell / 2) + 1)) →
    IsReplaying leaves (set winners (cell / 2) place) (cell / 2)
replay_goes_on leaves winners cell place many h either first =
    let n : ℕ = length leaves in
    let c : ℕ = cell / 2 in
    let inside = h.inside in
    let size = h.size in
    let at : c < n = omega arith in
    let one : 1 ≤ c = omega arith in
    let still : (k : ℕ) → k ≢ c → winner_next leaves (set winners c place) k ≡ winner_next leaves winners k =
    λ k other. ap (next_at leaves) (get_or-set_other winners c k place 0 other)
    in
    let here : winner_next leaves (set winners c place) c ≡ next_at leaves place = ap (next_at leaves) (get_or-set_same winners c place 0 (omega arith)) in
    let match : (k : ℕ) → 1 ≤ k → 2 * k ≢ c → 2 * k + 1 ≢ c → winner_next leaves (set winners c place) k ≡ lesser (winner_next leaves winners (2 * k)) (winner_next leaves winners (2 * k + 1)) → HasWon leaves (set winners c place) k =
    λ k a left right e. e ∙ sym (ap (λ (m : Option Message). lesser m (winner_next leaves (set winners c place) (2 * k + 1))) (still (2 * k) left) ∙ ap (lesser (winner_next leaves winners (2 * k))) (still (2 * k + 1) right))
    in
    record {
      size = length-set winners c place ∙ h.size;
      few = h.few;
      some = one;
      inside = omega arith;
      below = λ k a b. elim (cases_eq k c) [
        | inl e ↦ subst (λ (j : ℕ). IsBelow n (get_or (set winners c place) j 0) j) (sym e)
            (subst (λ (p : ℕ). IsBelow n p c) (sym (get_or-set_same winners c place 0 (omega arith))) (elim either [
              | inl f ↦ subst (λ (p : ℕ). IsBelow n p c) (sym f) (below_up n (get_or winners (2 * c) 0) (2 * c) c (h.below (2 * c) (omega arith) (omega arith)) (omega arith))
              | inr f ↦ subst (λ (p : ℕ). IsBelow n p c) (sym f) (below_up n (get_or winners (2 * c + 1) 0) (2 * c + 1) c (h.below (2 * c + 1) (omega arith) (omega arith)) (omega arith))
            ]))
        | inr e ↦ subst (λ (p : ℕ). IsBelow n p k) (sym (get_or-set_other winners c k place 0 e)) (h.below k a b)
      ];
      won = λ k a b none. elim (cases_eq k c) [
        | inl e ↦ (let P : ℕ → Type 0 = λ j. HasWon leaves (set winners c place) j in subst P (sym e) (match c one (λ f. omega arith) (λ f. omega arith) (here ∙ first)))
        | inr e ↦ match k a (λ f. none 0 (omega arith)) (λ f. none 0 (omega arith)) (still k e ∙ h.won k a b (λ levels f. not_above cell k levels none e f))
      ];
    }
  where
    not_above : (cell k levels : ℕ) → ((j : ℕ) → up (suc j) (cell / 2) ≢ k) → k ≢ cell / 2 → up (suc levels) cell ≢ k
    not_above cell k zero none other f = other (sym f)
    not_above cell k (suc levels) none other f = none levels (sym (up_one (suc levels) cell) ∙ f)

none_above_root : (levels : ℕ) → up (suc levels) 1 ≡ 0
none_above_root levels = let most = up_most levels 1 in omega arith

pub replay_ends : (leaves : List Summary) (winners : List ℕ) (cell : ℕ) → cell ≤ 1 → IsReplaying leaves winners cell → IsTournament leaves winners
replay_ends leaves winners cell last h =
    let some = h.some in
    let root : cell ≡ 1 = omega arith in
    record {
      size = h.size;
      few = h.few;
      below = h.below;
      won = λ k a b. h.won k a b (λ levels e. let none = none_above_root levels in let same = ap (λ (c : ℕ). up (suc levels) c) root ∙ none in omega arith);
    }

-- a leaf changes, but its next message does not
pub same_matches : (leaves : List Summary) (winners : List ℕ) (leaf : ℕ) (x : Summary) → IsTournament leaves winners → leaf < length leaves → x.next ≡ next_at leaves leaf →
    IsTournament (set leaves leaf x) winners
same_matches leaves winners leaf x h l keeps =
    let same : length (set leaves leaf x) ≡ length leaves = length-set leaves leaf x in
    let size = h.size in
    let few = h.few in
    let still : (place : ℕ) → next_at (set leaves leaf x) place ≡ next_at leaves place = λ place. elim (cases_eq place leaf) [
      | inl e ↦ ap (next_at (set leaves leaf x)) e ∙ ap (λ (s : Summary). s.next) (get_or-set_same leaves leaf x absent l) ∙ keeps ∙ ap (next_at leaves) (sym e)
      | inr e ↦ other_next leaves leaf place x e
    ] in
    record {
      size = omega arith;
      few = omega arith;
      below = λ k a b. subst (λ (m : ℕ). IsBelow m (get_or winners k 0) k) (sym same) (h.below k a (omega arith));
      won = λ k a b.
          still (get_or winners k 0)
          ∙ h.won k a (omega arith)
          ∙ sym (ap (λ (m : Option Message). lesser m (winner_next (set leaves leaf x) winners (2 * k + 1))) (still (get_or winners (2 * k) 0))
          ∙ ap (lesser (winner_next leaves winners (2 * k))) (still (get_or winners (2 * k + 1) 0)));
    }

-- for an element that is there, the default of an index does not matter
pub leaf_at : (leaves : List Summary) (k : ℕ) (x : Summary) → x ≡ get_or leaves k x → k < length leaves → x ≡ get_or leaves k absent
leaf_at leaves k x e h = e ∙ get_or_default leaves k x absent h

pub place_at : (winners : List ℕ) (k x : ℕ) → x ≡ get_or winners k x → k < length winners → x ≡ get_or winners k 0
place_at winners k x e h = e ∙ get_or_default winners k x 0 h

-- 3. A tournament of empty summaries

-- the cells from this one on have leaves below them
pub record IsSeeded (leaves cell : ℕ) (winners : List ℕ) : Type 0 where
  pub size : length winners ≡ 2 * leaves
  pub most : cell ≤ 2 * leaves
  pub below : (k : ℕ) → cell ≤ k → k < 2 * leaves → IsBelow leaves (get_or winners k 0) k

pub seeded_none : (leaves : ℕ) (winners : List ℕ) → length winners ≡ 2 * leaves → IsSeeded leaves (2 * leaves) winners
seeded_none leaves winners size = record { size = size; most = omega arith; below = λ k a b. absurd (omega arith) }

pub seeded_with : (leaves cell place : ℕ) (winners : List ℕ) → suc cell ≤ 2 * leaves → IsSeeded leaves (suc cell) winners → IsBelow leaves place cell → IsSeeded leaves cell (set winners cell place)
seeded_with leaves cell place winners many h is =
    let size = h.size in
    record {
      size = length-set winners cell place ∙ h.size;
      most = omega arith;
      below = λ k a b. elim (cases_eq k cell) [
        | inl e ↦ subst (λ (j : ℕ). IsBelow leaves (get_or (set winners cell place) j 0) j) (sym e) (subst (λ (p : ℕ). IsBelow leaves p cell) (sym (get_or-set_same winners cell place 0 (omega arith))) is)
        | inr e ↦ subst (λ (p : ℕ). IsBelow leaves p k) (sym (get_or-set_other winners cell k place 0 e)) (h.below k (omega arith) b)
      ];
    }

-- a leaf is below its own cell
pub own_below : (leaves cell : ℕ) → leaves ≤ cell → cell < 2 * leaves → IsBelow leaves (cell - leaves) cell
own_below leaves cell from before = record { there = omega arith; levels = 0; above = omega arith }

-- the winner of the left of two cells
pub left_below : (leaves cell : ℕ) (winners : List ℕ) → 1 ≤ cell → cell < leaves → IsSeeded leaves (suc cell) winners → IsBelow leaves (get_or winners (2 * cell) 0) cell
left_below leaves cell winners some inside h = below_up leaves (get_or winners (2 * cell) 0) (2 * cell) cell (h.below (2 * cell) (omega arith) (omega arith)) (omega arith)

pub seeded_is_tournament : (leaves cell : ℕ) (summaries : List Summary) (winners : List ℕ) → leaves < 2 ^ 32 → cell ≤ 1 → summaries ≡ replicate leaves absent → IsSeeded leaves cell winners → IsTournament summaries winners
seeded_is_tournament leaves cell summaries winners few last is h =
    let same : length (replicate leaves absent) ≡ leaves = length-replicate leaves absent in
    let size = h.size in
    let none : (place : ℕ) → next_at (replicate leaves absent) place ≡ None = λ place. ap (λ (s : Summary). s.next) (none_at leaves place) in
    subst (λ (xs : List Summary). IsTournament xs winners) (sym is) (record {
      size = omega arith;
      few = omega arith;
      below = λ k a b. subst (λ (m : ℕ). IsBelow m (get_or winners k 0) k) (sym same) (h.below k (omega arith) (omega arith));
      won = λ k a b.
          none (get_or winners k 0)
          ∙ sym (ap (λ (m : Option Message). lesser m (winner_next (replicate leaves absent) winners (2 * k + 1))) (none (get_or winners (2 * k) 0)) ∙ none (get_or winners (2 * k + 1) 0));
    })

-- an empty vector grown to `count` elements
pub grown : {A : Type 0} (x : A) (count : ℕ) (before after : List A) (len : ℕ) → before ≡ [] → len ≡ 0 → after ≡ take count before ++ replicate (count - len) x → after ≡ replicate count x
grown {A} x count before after len e l h =
    h
    ∙ ap (λ (xs : List A). take count xs ++ replicate (count - len) x) e
    ∙ ap (λ (xs : List A). xs ++ replicate (count - len) x) (take-nil count)
    ∙ ap (λ n. replicate n x) (omega arith)
