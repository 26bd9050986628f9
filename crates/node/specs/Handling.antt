-- A node between parcels: what it is loaded from, what it refuses, and what it is after a parcel.
use Rattle.std.specs.List.{AllByRecursion as Every, list_any}
use Rattle.std.specs.Cmp.Lexicographic.{pointwise}
use Rattle.std.specs.Prelude.{ℕ, Bool, List, [], ◌∷◌, Option, Some, None, Result, Ok, Err, IfSome}
use Rattle.std.specs.Prelude.{map, filter, true, false, not, nat_eq, nat_lt, ◌&&◌, ◌||◌}
use Rattle.std.specs.Prelude.{if◌then◌else◌, ◌≡◌, ◌<◌, ◌≤◌, ◌⊎◌, ◌^◌, length}
use Rattle.eventkey.specs.declared.Signed.{Signed}
use Rattle.model.specs.Meaning.{Meaning}
use Rattle.model.specs.World.{below}
use Rattle.process.specs.Process.{Process}
use Rattle.process.specs.View.{IsDoneInRange, has_early, has_foreign, loaded}
use Rattle.node.specs.Node.{Work, released_processes, reply_of, run_here, sits_on, start, work_here}
use Rattle.node.specs.declared.Load.{Load}
use Rattle.node.specs.declared.NodeFault.{NodeFault}
use Rattle.node.specs.declared.NodeFault.TheVariants.{BelowFloor, FloorFell, NoMemory, NotMine}
use Rattle.node.specs.declared.NodeFault.TheVariants.{NumberLimit, Spent}
use Rattle.node.specs.declared.Parcel.{Parcel}
use Rattle.node.specs.declared.Part.{Part}
use Rattle.node.specs.declared.Reply.{Reply}

-- a node between parcels
pub record Node : Type 0 where
  pub node : ℕ  -- its number
  pub nodes : ℕ  -- the number of nodes
  pub lps : ℕ  -- the number of processes of the model, on all nodes
  pub end : ℕ
  pub floor : ℕ
  pub spent : Bool
  pub processes : List Process  -- its own, ascending

-- the numbers of the processes of this node, ascending
abbrev pub own_lps : ℕ → ℕ → ℕ → List ℕ
own_lps nodes node lps = filter (sits_on nodes node) (below lps)

-- Loading

-- the numbers of a part lie in their ranges
pub record IsInRange (p : Part) : Type 0 where
  pub words : length p.words ≤ 16
  pub number : p.number ≤ 2 ^ 63

-- the parts are those of the node's processes, ascending
abbrev pub is_own_load : ℕ → Load → Bool
is_own_load lps load = pointwise nat_eq (map (λ (p : Part). p.lp) load.parts)
    (own_lps load.nodes load.node lps)

-- the reason why a load is refused, if it is: a part or a message is not the node's, or a message
-- is not for the process of its part; or a message is pending before the floor
abbrev pub load_refusal : ℕ → Load → Option NodeFault
load_refusal lps load =
    if not (is_own_load lps load) || list_any (λ (p : Part). has_foreign p.lp p.pending) load.parts
    then Some NotMine
    else if list_any (λ (p : Part). has_early load.floor p.pending) load.parts then Some BelowFloor
    else None

abbrev pub loaded_node : ℕ → Load → Node
loaded_node lps load = record {
  node = load.node;
  nodes = load.nodes;
  lps = lps;
  end = load.end;
  floor = load.floor;
  spent = false;
  processes = map (λ (p : Part). loaded p.words p.number p.pending) load.parts;
}

-- the node made from a load and a model with this number of processes, or the refusal
abbrev pub load_answer : ℕ → Load → Result Node NodeFault
load_answer lps load = elim (load_refusal lps load) [
  | Some fault ↦ Err fault
  | None ↦ Ok
      (loaded_node lps load)
]

-- the result is that of the load, or the load is accepted and an allocation failed
abbrev pub IsLoaded : ℕ → Load → Result Node NodeFault → Type 0
IsLoaded lps load result = (result ≡ load_answer lps load) ⊎ ((load_refusal lps load ≡ None)
    × (result ≡ Err NoMemory))

-- Handling a parcel

-- process lp is one of the node's
abbrev pub is_own : Node → ℕ → Bool
is_own n lp = sits_on n.nodes n.node lp && nat_lt lp n.lps

-- the fault of the first delivery at fault: it is for a process of another node, or is before the
-- node's floor
abbrev pub first_fault : Node → List Signed → Option NodeFault
first_fault n [] = None
first_fault n (s ∷ ss) =
    if is_own n s.message.to then (if nat_lt s.message.time n.floor then Some BelowFloor else
    first_fault n ss) else Some NotMine

-- the reason why a node refuses the whole parcel, if it does
abbrev pub refusal : Node → Parcel → Option NodeFault
refusal n parcel = if n.spent then Some Spent else if nat_lt parcel.floor n.floor then Some
    FloorFell else first_fault n parcel.deliver

-- the node after this work, without the handlings below the floor
abbrev pub after : ℕ → Work → Node → Node
after floor w n = record n { floor = floor; processes = released_processes floor w }

-- a node that is spent
abbrev pub spent_node : Node → Node
spent_node n = record n { spent = true; processes = [] }

-- The result of a parcel, and the node after it.
pub record Answer : Type 0 where
  pub result : Result Reply NodeFault
  pub node : Node

-- the answer after this work, or the number limit if there is none
abbrev pub answer_by : ℕ → Node → Option Work → Answer
answer_by floor n None = record { result = Err NumberLimit; node = spent_node n }
answer_by floor n (Some w) = record { result = Ok (reply_of floor w); node = after floor w n }

abbrev pub answer : Meaning → Node → Parcel → Answer
answer m n parcel = elim (refusal n parcel) [
  | Some fault ↦ record { result = Err fault; node = n }
  | None ↦ answer_by parcel.floor n (work_here m n.end n.nodes parcel n.processes)
]

-- The result and the new node are those of the answer; or the parcel is accepted, an allocation
-- failed, and the node is spent.
abbrev pub IsAnswered : Meaning → Parcel → Node → Node → Result Reply NodeFault → Type 0
IsAnswered m parcel old new result =
    ((result ≡ (answer m old parcel).result) × (new ≡ (answer m old parcel).node))
    ⊎ ((refusal old parcel ≡ None) × (result ≡ Err NoMemory) × (new ≡ spent_node old))

-- The parcel delivers nothing, and the first message that the node would handle has no room for its
-- send numbers. The node finds this without allocating.
pub record IsLimitedAtOnce (m : Meaning) (parcel : Parcel) (n : Node) : Type 0 where
  pub accepted : refusal n parcel ≡ None
  pub empty : parcel.deliver ≡ []
  pub some : 0 < parcel.budget
  pub limited : run_here m n.end n.nodes 1 (start n.processes) ≡ None

-- the numbers of a reply lie in their ranges
pub record IsReplyInRange (reply : Reply) : Type 0 where
  pub low : IfSome reply.low (λ time. time < 2 ^ 41)
  pub fossils : Every IsDoneInRange reply.fossils
