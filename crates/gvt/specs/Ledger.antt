-- The ledger of a running system: what travels, what each node reported last, and the floor that
-- follows (global virtual time: Jefferson 1985, Fujimoto 1990).
use Rattle.std.specs.Prelude.{ℕ, List, [], ◌∷◌, min, Option, Some, None, ◌++◌, map, flat_map, Bool}
use Rattle.std.specs.Prelude.{is_some, get_or, set, length, ◌&&◌, replicate}
use Rattle.eventkey.specs.Bag.{least_time}
use Rattle.eventkey.specs.declared.Signed.{Signed}
use Rattle.node.specs.declared.Parcel.{Parcel}
use Rattle.node.specs.declared.Reply.{Reply}
use Rattle.gvt.specs.Picks.{are_distinct, can_pick, not_picked, picked}

-- the least of a time and of the lows that nodes reported
abbrev pub least_low : ℕ → List (Option ℕ) → ℕ
least_low t [] = t
least_low t (None ∷ lows) = least_low t lows
least_low t (Some low ∷ lows) = least_low (min t low) lows

-- the messages of an outstanding parcel; none if no parcel is outstanding
abbrev pub delivered_by : Option Parcel → List Signed
delivered_by None = []
delivered_by (Some parcel) = parcel.deliver

-- the floor: the least of the end, the times in transit, the times in outstanding parcels and the
-- last lows of the nodes
abbrev pub ledger_floor : ℕ → List Signed → List (Option Parcel) → List (Option ℕ) → ℕ
ledger_floor end transit parcels lows =
    least_low
    (least_time end (map (λ (s : Signed). s.message) (transit ++ flat_map delivered_by parcels)))
    lows

abbrev pub least_floor : ℕ → List ℕ → ℕ  -- of a time and of floors that nodes answered
least_floor t [] = t
least_floor t (f ∷ fs) = least_floor (min t f) fs

-- A ledger. Its last three lists have one entry per node.
pub record Ledger : Type 0 where
  pub end : ℕ
  pub transit : List Signed
  pub parcels : List (Option Parcel)  -- those outstanding
  pub lows : List (Option ℕ)  -- as each node last reported
  pub floors : List ℕ  -- of the parcel that each node answered last

abbrev pub floor_of : Ledger → ℕ
floor_of ledger = ledger_floor ledger.end ledger.transit ledger.parcels ledger.lows

abbrev pub nodes_of : Ledger → ℕ
nodes_of ledger = length ledger.floors

-- the parcel that the node has not answered yet
abbrev pub outstanding : Ledger → ℕ → Option Parcel
outstanding ledger node = get_or ledger.parcels node None

abbrev pub is_busy : Ledger → ℕ → Bool
is_busy ledger node = is_some (outstanding ledger node)

-- the picks are distinct places in transit, and each has a message for the node
abbrev pub may_pick : Ledger → ℕ → List ℕ → Bool
may_pick ledger node picks =
    can_pick (nodes_of ledger) node ledger.transit picks && are_distinct picks

-- the ledger before anything travels
abbrev pub first_ledger : ℕ → ℕ → ℕ → List (Option ℕ) → Ledger
first_ledger nodes end floor lows = record {
  end = end;
  transit = [];
  parcels = replicate nodes None;
  lows = lows;
  floors = replicate nodes floor;
}

-- the parcel of these picks, with the floor before it is posted
abbrev pub parcel_of : Ledger → List ℕ → ℕ → Parcel
parcel_of ledger picks budget = record {
  deliver = picked ledger.transit picks;
  budget = budget;
  floor = floor_of ledger;
}

-- the ledger after that parcel is posted to the node
abbrev pub after_post : Ledger → ℕ → List ℕ → ℕ → Ledger
after_post ledger node picks budget = record ledger {
  transit = not_picked picks 0 ledger.transit;
  parcels = set ledger.parcels node (Some (parcel_of ledger picks budget));
}

-- the ledger after the node answers this parcel with this reply
abbrev pub after_take : Ledger → ℕ → Parcel → Reply → Ledger
after_take ledger node parcel reply = record ledger {
  transit = ledger.transit ++ reply.out;
  parcels = set ledger.parcels node None;
  lows = set ledger.lows node reply.low;
  floors = set ledger.floors node parcel.floor;
}
