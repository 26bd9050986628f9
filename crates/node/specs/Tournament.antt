-- A tournament (Knuth, The Art of Computer Programming 3, tree selection): leaves, and a tree of
-- the places of winners, so that the leaf with the least message is known at any time.
use Rattle.std.specs.Prelude.{ℕ, List, [], ◌∷◌, Option, None, IfSome, length, get_or, ◌+◌, ◌*◌, ◌/◌}
use Rattle.std.specs.Prelude.{◌≡◌, ◌≤◌, ◌<◌, ◌^◌, zero, suc}
use Rattle.eventkey.specs.Message.{Message}
use Rattle.node.specs.Node.{earliest, lesser}
use Rattle.node.specs.declared.summary.Summary.{Summary}

-- the empty summary
abbrev pub absent : Summary
absent = record { next = None; low = None; oldest = None }

-- the lesser of two summaries, part by part
abbrev pub meet : Summary → Summary → Summary
meet a b = record {
  next = lesser a.next b.next;
  low = earliest a.low b.low;
  oldest = earliest a.oldest b.oldest;
}

-- the least of these summaries, part by part
abbrev pub least_among : List Summary → Summary
least_among [] = absent
least_among (x ∷ xs) = meet x (least_among xs)

-- the least waiting time of a summary lies in its range
abbrev pub IsLowInRange : Summary → Type 0
IsLowInRange s = IfSome s.low (λ time. time < 2 ^ 41)

-- the next message of the leaf at a place
abbrev pub next_at : List Summary → ℕ → Option Message
next_at leaves place = (get_or leaves place absent).next

-- the next message of the winner at a cell
abbrev pub winner_next : List Summary → List ℕ → ℕ → Option Message
winner_next leaves winners cell = next_at leaves (get_or winners cell 0)

-- the winner at cell k won the match between those at the cells 2 k and 2 k + 1
abbrev pub HasWon : List Summary → List ℕ → ℕ → Type 0
HasWon leaves winners k =
    winner_next leaves winners k
    ≡ lesser (winner_next leaves winners (2 * k)) (winner_next leaves winners (2 * k + 1))

-- the cell this number of levels above a cell
abbrev pub up : ℕ → ℕ → ℕ
up zero k = k
up (suc levels) k = up levels k / 2

-- the leaf at this place, of this number of leaves, is at this cell or below it
pub record IsBelow (leaves place cell : ℕ) : Type 0 where
  pub there : place < leaves
  pub levels : ℕ
  pub above : up levels (leaves + place) ≡ cell

-- Cell 1 is the root. The cells from the number of leaves on are those of the leaves, and each cell
-- before them has the winner of the two below it, whose next message comes first.
pub record IsTournament (leaves : List Summary) (winners : List ℕ) : Type 0 where
  pub size : length winners ≡ 2 * length leaves
  pub few : length leaves < 2 ^ 32
  pub below :
      (k : ℕ) → 1 ≤ k → k < 2 * length leaves → IsBelow (length leaves) (get_or winners k 0) k
  pub won : (k : ℕ) → 1 ≤ k → k < length leaves → HasWon leaves winners k
