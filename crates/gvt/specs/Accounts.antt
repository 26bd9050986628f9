-- What the ledger keeps for each node.
use Rattle.std.specs.Prelude.{ℕ, List, [], ◌∷◌, map, Option, Some, None, option_map}
use Rattle.node.specs.declared.Parcel.{Parcel}
use Rattle.gvt.specs.Ledger.{least_low}
use Rattle.gvt.specs.declared.account.Account.{Account}
use Rattle.gvt.specs.declared.account.Posted.{Posted}

-- the node's outstanding parcel
abbrev pub parcel_at : Account → Option Parcel
parcel_at account = option_map (λ (posted : Posted). posted.parcel.value) account.posted

abbrev pub parcels_in : List Account → List (Option Parcel)
parcels_in accounts = map parcel_at accounts

abbrev pub lows_in : List Account → List (Option ℕ)
lows_in accounts = map (λ (account : Account). account.low) accounts

abbrev pub floors_in : List Account → List ℕ
floors_in accounts = map (λ (account : Account). account.answered) accounts

-- the least time of an outstanding parcel, if there is one
abbrev pub low_posted : Option Posted → Option ℕ
low_posted None = None
low_posted (Some posted) = posted.least

-- the floor of some nodes, lowered by the account of one more
abbrev pub with_node : ℕ → Account → ℕ
with_node floor account =
    least_low (least_low floor (account.low ∷ [])) (low_posted account.posted ∷ [])
