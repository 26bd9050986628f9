-- The state of a running system: the committed front, and what each node has beyond it.
use Rattle.std.specs.List.{AllByRecursion as Every}
use Rattle.std.specs.Prelude.{List, None, Option, [], filter, flat_map, get_or, length, map}
use Rattle.std.specs.Prelude.{replicate, ℕ, ◌%◌, ◌/◌, ◌++◌, ◌+◌, ◌<◌, ◌==◌, ◌≡◌}
use Rattle.eventkey.specs.Bag.{copies, least_time}
use Rattle.eventkey.specs.Message.{IsRanged, Message}
use Rattle.eventkey.specs.Signed.{of_sign}
use Rattle.eventkey.specs.declared.Sign.TheVariants.{Minus, Plus}
use Rattle.eventkey.specs.declared.Signed.{Signed}
use Rattle.gvt.specs.Ledger.{delivered_by}
use Rattle.model.specs.Meaning.{Meaning}
use Rattle.model.specs.World.{World, below, number_of, state_of}
use Rattle.node.specs.Handling.{own_lps}
use Rattle.node.specs.Node.{low_of}
use Rattle.node.specs.declared.Parcel.{Parcel}
use Rattle.process.specs.Process.{Process, nobody, sent_by}
use Rattle.process.specs.Consistent.{IsConsistentProcess}
use Rattle.process.specs.declared.Done.{Done}
use Rattle.queues.specs.Record.{messages}

pub record System : Type 0 where  -- a node with an unanswered parcel is as before the parcel
  pub front : World
  pub gathered : List Done  -- reported by nodes and taken by no commit yet, in order of the reports
  pub nodes : List (List Process)  -- for each node its processes, ascending
  pub transit : List Signed
  pub parcels : List (Option Parcel)  -- for each node, the parcel that it has not answered
  pub floors : List ℕ  -- for each node, the floor that it answered last

abbrev pub nodes_of : System → ℕ  -- the number of nodes
nodes_of p = length p.nodes

abbrev pub node_of : System → ℕ → List Process  -- the processes of a node
node_of p node = get_or p.nodes node []

-- process lp, on node lp mod the number of nodes, at place lp div that number
abbrev pub process_at : System → ℕ → Process
process_at p lp = get_or (node_of p (lp % nodes_of p)) (lp / nodes_of p) nobody

-- the floor that the node of process lp answered last
abbrev pub floor_at : System → ℕ → ℕ
floor_at p lp = get_or p.floors (lp % nodes_of p) 0

-- the handlings that a process reported and no commit has taken yet
abbrev pub reported_by : ℕ → List Done → List Done
reported_by lp gathered = filter (λ (d : Done). d.message.to == lp) gathered

abbrev pub processes_of : System → List Process  -- all of them, node by node
processes_of p = flat_map (λ (qs : List Process). qs) p.nodes

-- each node has its processes, a place for a parcel and a floor, and every reported handling is of
-- a process of the model
pub record IsSeatedBy (lps : ℕ) (p : System) : Type 0 where
  pub seats : (node : ℕ) → node < nodes_of p →
      length (node_of p node) ≡ length (own_lps (nodes_of p) node lps)
  pub parcels : length p.parcels ≡ nodes_of p
  pub floors : length p.floors ≡ nodes_of p
  pub reported : Every (λ (d : Done). d.message.to < lps) p.gathered

-- Consistent with the model: along each process, from the front's state on, the reported handlings
-- and those it has are what the model does, in message order.
abbrev pub IsConsistent : Meaning → System → Type 0
IsConsistent m p = (lp : ℕ) → lp < m.lps →
    IsConsistentProcess m lp p.front.time (state_of p.front lp) (number_of p.front lp) (floor_at p lp)
    (reported_by lp p.gathered) (process_at p lp)

abbrev pub travelling : System → List Signed  -- in transit and in parcels that are not answered
travelling p = p.transit ++ flat_map delivered_by p.parcels

abbrev pub reported_messages : List Done → List Message
reported_messages ds = map (λ (d : Done). d.message) ds

-- the messages that the reported handlings sent
abbrev pub reported_sends : List Done → List Message
reported_sends ds = flat_map (λ (d : Done). d.sent) ds

-- all messages sent by handlings that are not committed
abbrev pub all_sent : System → List Message
all_sent p = reported_sends p.gathered ++ flat_map sent_by (processes_of p)

-- Balance. For each message: its copies handled, waiting and travelling, less the antimessages that
-- wait or travel for it, are as many as the front has pending and all uncommitted handlings sent.
abbrev pub IsBalanced : Meaning → System → Type 0
IsBalanced m p = (x : Message) → x.to < m.lps →
    copies x (reported_messages p.gathered) + copies x (messages (process_at p x.to).done)
    + copies x (process_at p x.to).waiting + copies x (of_sign Plus (travelling p))
    ≡ copies x p.front.pending + copies x (all_sent p)
    + copies x (process_at p x.to).antis + copies x (of_sign Minus (travelling p))

-- The numbers of all messages lie in their ranges.
abbrev pub IsProcessInRange : Process → Type 0
IsProcessInRange q =
    Every IsRanged (messages q.done) × Every IsRanged q.waiting × Every IsRanged q.antis

abbrev pub IsSystemInRange : System → Type 0
IsSystemInRange p =
    Every IsRanged (reported_messages p.gathered)
    × Every (λ (qs : List Process). Every IsProcessInRange qs) p.nodes
    × Every (λ (s : Signed). IsRanged s.message) (travelling p)

abbrev pub gvt : ℕ → System → ℕ  -- the least time under way, at most the end (Jefferson 1985)
gvt end p = least_time end
    (flat_map (λ (q : Process). q.waiting ++ q.antis) (processes_of p)
    ++ map (λ (s : Signed). s.message) (travelling p))

abbrev pub opened_process : World → ℕ → Process  -- its pending messages wait
opened_process w lp = record nobody {
  waiting = filter (λ (x : Message). x.to == lp) w.pending;
  state = state_of w lp;
  number = number_of w lp;
}

abbrev pub opened : ℕ → ℕ → World → System  -- from a front, whose pending messages wait
opened lps nodes w = record {
  front = w;
  gathered = [];
  nodes = map (λ (node : ℕ). map (opened_process w) (own_lps nodes node lps)) (below nodes);
  transit = [];
  parcels = replicate nodes None;
  floors = replicate nodes w.time;
}

-- for each node, the least time of what waits there
abbrev pub lows_of : System → List (Option ℕ)
lows_of p = map low_of p.nodes
