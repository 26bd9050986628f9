-- Picks: the places in transit whose messages are posted to a node.
use Rattle.std.specs.Prelude.{ℕ, Bool, false, List, [], ◌∷◌, nat_eq, ◌||◌, true, ◌&&◌, not, map}
use Rattle.std.specs.Prelude.{get_or, ◌+◌, if◌then◌else◌, length, nat_lt}
use Rattle.eventkey.specs.Message.{zero_message}
use Rattle.eventkey.specs.Signed.{plus}
use Rattle.eventkey.specs.declared.Signed.{Signed}
use Rattle.node.specs.Node.{sits_on}

-- Posting: the picked messages become the parcel of a node that has none outstanding

abbrev pub has : ℕ → List ℕ → Bool
has i [] = false
has i (k ∷ ks) = nat_eq i k || has i ks

abbrev pub are_distinct : List ℕ → Bool
are_distinct [] = true
are_distinct (i ∷ is) = not (has i is) && are_distinct is

abbrev pub nothing : Signed  -- what a pick that is not a place in transit names
nothing = plus zero_message

abbrev pub picked : List Signed → List ℕ → List Signed
picked transit picks = map (λ (i : ℕ). get_or transit i nothing) picks

abbrev pub not_picked : List ℕ → ℕ → List Signed → List Signed  -- without the picks, from place i
not_picked picks i [] = []
not_picked picks i (s ∷ ss) =
    if has i picks then not_picked picks (i + 1) ss else s ∷ not_picked picks (i + 1) ss

abbrev pub can_pick : ℕ → ℕ → List Signed → List ℕ → Bool  -- places with messages for the node
can_pick nodes node transit [] = true
can_pick nodes node transit (i ∷ is) =
    (nat_lt i (length transit) && sits_on nodes node (get_or transit i nothing).message.to)
    && can_pick nodes node transit is
