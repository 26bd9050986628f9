-- The moves of a running system: post, take, commit and checkpoint (Jefferson 1985; commits and the
-- coordinator are additions).
use Rattle.std.specs.Prelude.{Bool, List, None, Option, Some, [], filter, get_or, flat_map}
use Rattle.std.specs.Prelude.{if◌then◌else◌, is_some, length, map, nat_lt, not, option_and_then}
use Rattle.std.specs.Prelude.{option_map, set, unwrap_or, ℕ, ◌&&◌, ◌++◌, ◌∷◌}
use Rattle.eventkey.specs.Bag.{add_all, remove_all, remove_one}
use Rattle.eventkey.specs.Message.{Message}
use Rattle.gvt.specs.Ledger.{least_floor}
use Rattle.gvt.specs.Picks.{are_distinct, can_pick, not_picked, picked}
use Rattle.model.specs.Meaning.{Meaning}
use Rattle.model.specs.World.{World, at_time, handled}
use Rattle.node.specs.Node.{Work, released_processes, reply_of, work_here}
use Rattle.node.specs.declared.Parcel.{Parcel}
use Rattle.process.specs.Process.{Process, fossils_of}
use Rattle.process.specs.declared.Done.{Done}
use Rattle.gvt.specs.declared.Answer.{Answer}
use Rattle.gvt.specs.declared.Answer.TheVariants.{AlreadyAt, Checkpointed, Committed, Posted}
use Rattle.gvt.specs.declared.Answer.TheVariants.{Taken}
use Rattle.gvt.specs.System.{System, gvt, node_of, nodes_of, opened, reported_sends}

-- 1. Post

abbrev pub is_busy : System → ℕ → Bool  -- the node has a parcel that is not answered
is_busy p node = is_some (get_or p.parcels node None)

abbrev pub can_post : System → ℕ → List ℕ → Bool  -- picks: each once, in transit, for the node
can_post p node picks =
    (nat_lt node (nodes_of p) && not (is_busy p node))
    && (can_pick (nodes_of p) node p.transit picks && are_distinct picks)

abbrev pub system_after_post : ℕ → ℕ → List ℕ → ℕ → System → System  -- picks leave transit
system_after_post end node picks budget p =
    let ss = picked p.transit picks in
    let new : Parcel = record { deliver = ss; budget = budget; floor = gvt end p } in
    record p { transit = not_picked picks 0 p.transit; parcels = set p.parcels node (Some new) }

-- 2. Take

abbrev pub system_after_answer : ℕ → Parcel → System → Work → System  -- after this work
system_after_answer node parcel p w = record p {
  gathered = p.gathered ++ flat_map (λ (q : Process). fossils_of parcel.floor q) w.processes;
  nodes = set p.nodes node (released_processes parcel.floor w);
  transit = p.transit ++ w.out;
  parcels = set p.parcels node None;
  floors = set p.floors node parcel.floor;
}

abbrev pub take_from : Meaning → ℕ → ℕ → System → Option Parcel → Option System  -- the node's parcel
take_from m end node p None = None
take_from m end node p (Some parcel) =
    option_map (system_after_answer node parcel p)
    (work_here m end (nodes_of p) parcel (node_of p node))

-- 3. Commit

abbrev pub reported_before : ℕ → List Done → List Done  -- the reports before a time; below, the others
reported_before c ds = filter (λ (d : Done). nat_lt d.message.time c) ds

abbrev pub reported_from : ℕ → List Done → List Done
reported_from c ds = filter (λ (d : Done). not (nat_lt d.message.time c)) ds

abbrev pub merged : ℕ → List Done → List Message  -- reported before a time, in message order
merged c ds = add_all (map (λ (d : Done). d.message) (reported_before c ds)) []

abbrev pub after_messages : Meaning → World → List Message → World  -- each one leaves pending
after_messages m w [] = w
after_messages m w (x ∷ xs) = after_messages m (handled m w x (remove_one x w.pending)) xs

abbrev pub commit : Meaning → ℕ → System → System  -- the front moves to a time, by the reports
commit m c p = record p {
  front = at_time c (after_messages m p.front (merged c p.gathered));
  gathered = reported_from c p.gathered;
}

abbrev pub system_after_commit : Meaning → ℕ → System → System  -- to the least floor
system_after_commit m end p =
    let c = least_floor end p.floors in if nat_lt p.front.time c then commit m c p else p

-- the state of each process after the last of its reported handlings
abbrev pub reported_states : List Done → List (List ℕ) → List (List ℕ)
reported_states [] states = states
reported_states (d ∷ ds) states = reported_states ds (set states d.message.to d.after)

abbrev pub reported_numbers : List Done → List ℕ → List ℕ
reported_numbers [] numbers = numbers
reported_numbers (d ∷ ds) numbers = reported_numbers ds (set numbers d.message.to d.number_after)

-- the world at c, made from the reports without the model
abbrev pub reported_front : ℕ → List Done → World → World
reported_front c ds w = record {
  time = c;
  states = reported_states (reported_before c ds) w.states;
  numbers = reported_numbers (reported_before c ds) w.numbers;
  pending = remove_all (merged c ds) (add_all (reported_sends (reported_before c ds)) w.pending);
  log = w.log ++ merged c ds;
}

-- 4. Moves

pub data Move : Type 0 where  -- a step of a session
  Post : ℕ → List ℕ → ℕ → Move  -- node, picks, budget
  Take : ℕ → Move
  Commit : Move
  Checkpoint : Move

abbrev pub move : Meaning → ℕ → Move → System → Option System  -- None if it is refused
move m end (Post node picks budget) p =
    if can_post p node picks then Some (system_after_post end node picks budget p) else None
move m end (Take node) p = take_from m end node p (get_or p.parcels node None)
move m end Commit p = Some (system_after_commit m end p)
move m end Checkpoint p = Some p

-- the reason why a move is refused
pub data Refusal : Type 0 where
  Busy : Refusal  -- a parcel of the node is not answered
  Idle : Refusal  -- the node has no parcel
  NoSuchNode : Refusal
  NoSuchPick : Refusal  -- a pick is outside transit, is for another node, or occurs twice
  NumberLimit : Refusal  -- a handling would take a send number past 2^63

-- the reason why a take is refused, by the parcel of the node
abbrev pub take_refusal : Meaning → ℕ → ℕ → System → Option Parcel → Option Refusal
take_refusal m end node p None = Some Idle
take_refusal m end node p (Some parcel) =
    if is_some (work_here m end (nodes_of p) parcel (node_of p node)) then None
    else Some NumberLimit

-- the first reason that holds, in the order of the checks; none if the move is made
abbrev pub refusal : Meaning → ℕ → Move → System → Option Refusal
refusal m end (Post node picks budget) p =
    if not (nat_lt node (nodes_of p)) then Some NoSuchNode
    else if is_busy p node then Some Busy
    else if can_pick (nodes_of p) node p.transit picks && are_distinct picks then None
    else Some NoSuchPick
refusal m end (Take node) p =
    if not (nat_lt node (nodes_of p)) then Some NoSuchNode
    else take_refusal m end node p (get_or p.parcels node None)
refusal m end Commit p = None
refusal m end Checkpoint p = None

-- the answer of a take, by the parcel of the node
abbrev pub take_answer : Meaning → ℕ → ℕ → System → Option Parcel → Option Answer
take_answer m end node p None = None
take_answer m end node p (Some parcel) =
    option_map
    (λ (w : Work). Taken w.ran (length w.out) (length (reply_of parcel.floor w).fossils))
    (work_here m end (nodes_of p) parcel (node_of p node))

abbrev pub commit_answer : ℕ → System → Answer
commit_answer end p =
    let c = least_floor end p.floors in
    if nat_lt p.front.time c then Committed c (length (reported_before c p.gathered))
    else AlreadyAt p.front.time

-- the answer of a move; none if it is refused
abbrev pub answer_of : Meaning → ℕ → Move → System → Option Answer
answer_of m end (Post node picks budget) p =
    if can_post p node picks then Some (Posted (gvt end p)) else None
answer_of m end (Take node) p = take_answer m end node p (get_or p.parcels node None)
answer_of m end Commit p = Some (commit_answer end p)
answer_of m end Checkpoint p = Some (Checkpointed p.front.time)

-- 5. Lists of moves

-- the system state after these moves, one after another; none if one of them is refused
abbrev pub moves_made : Meaning → ℕ → List Move → System → Option System
moves_made m end [] p = Some p
moves_made m end (k ∷ ks) p =
    option_and_then (λ (q : System). moves_made m end ks q) (move m end k p)

abbrev pub after_moves : Meaning → ℕ → List Move → System → System  -- refused ones change nothing
after_moves m end [] p = p
after_moves m end (k ∷ ks) p = after_moves m end ks (unwrap_or (move m end k p) p)

-- a run of a system: the number of nodes with which it opens, and its moves
pub record Run : Type 0 where
  pub nodes : ℕ
  pub moves : List Move

-- the front after these runs, each opened with the front that the one before it left
abbrev pub after_runs : Meaning → ℕ → List Run → World → World
after_runs m end [] w = w
after_runs m end (r ∷ rs) w =
    after_runs m end rs (after_moves m end r.moves (opened m.lps r.nodes w)).front
