-- The laws of a running system, over every list of moves. Each holds for every meaning that keeps
-- the laws of a model.
use Rattle.std.specs.List.{AllByRecursion as Every}
use Rattle.std.specs.Prelude.{◌≡◌, ℕ, ◌^◌, ◌<◌, ◌≤◌, ◌+◌, ◌++◌, ◌&&◌, List, not, get_or, length}
use Rattle.std.specs.Prelude.{map, nat_lt, option_and_then, if◌then◌else◌, Err, Ok, Some, None}
use Rattle.std.specs.Prelude.{is_some, true}
use Rattle.eventkey.specs.Bag.{IsAscending}
use Rattle.eventkey.specs.Message.{Message}
use Rattle.gvt.specs.Ledger.{after_post, after_take, first_ledger, is_busy as is_ledger_busy}
use Rattle.gvt.specs.Ledger.{ledger_floor, least_floor, may_pick, nodes_of as ledger_nodes}
use Rattle.gvt.specs.Picks.{are_distinct, can_pick}
use Rattle.model.specs.Meaning.{IsLawful, Meaning}
use Rattle.model.specs.World.{IsUpto, World, below, number_of, opening, state_of}
use Rattle.node.specs.Handling.{IsInRange as IsPartInRange, answer, spent_node, load_answer}
use Rattle.node.specs.Handling.{refusal as refused_by}
use Rattle.node.specs.Node.{Work, low_of, reply_of, work_here}
use Rattle.node.specs.declared.NodeFault.TheVariants.{NumberLimit}
use Rattle.node.specs.declared.Parcel.{Parcel}
use Rattle.process.specs.Process.{number_after, state_after}
use Rattle.gvt.specs.declared.Answer.{Answer}
use Rattle.gvt.specs.declared.Answer.TheVariants.{AlreadyAt, Checkpointed, Committed, Posted}
use Rattle.gvt.specs.declared.Answer.TheVariants.{Taken}
use Rattle.gvt.specs.Moves.{Busy, Move, NoSuchNode, NoSuchPick, Post, Run, Take, after_moves}
use Rattle.gvt.specs.Moves.{after_runs, answer_of, commit, is_busy, merged, move, moves_made}
use Rattle.gvt.specs.Moves.{system_after_answer, system_after_commit, system_after_post}
use Rattle.gvt.specs.Moves.{refusal, reported_before, reported_front}
use Rattle.gvt.specs.System.{IsBalanced, IsSystemInRange, IsSeatedBy, IsConsistent, System}
use Rattle.gvt.specs.System.{gvt, lows_of, node_of, nodes_of, opened, reported_by}
use Rattle.gvt.specs.Replies.{names_there}
use Rattle.gvt.specs.Sound.{CanOpen, GoesOnFrom, IsOpening, IsSystem}
use Rattle.gvt.specs.Views.{ledger_of, load_of, node_view}

-- 1. Openings

-- A system opens with a sound system state if its front is the sequential simulation up to the
-- front's time.
abbrev pub OpeningIsSound : Type 0
OpeningIsSound = (m : Meaning) (end nodes : ℕ) (w : World) → IsOpening m end nodes w →
    IsSystem m end (opened m.lps nodes w)

-- The first system opens with the world before any step.
abbrev pub FirstOpens : Type 0
FirstOpens = (m : Meaning) (end nodes : ℕ) → IsLawful m → end ≤ 2 ^ 40 → 1 ≤ nodes →
    IsOpening m end nodes (opening m)

-- A later system opens with the front of any system, and any number of nodes.
abbrev pub FrontsOpen : Type 0
FrontsOpen = (m : Meaning) (end nodes : ℕ) (p : System) → IsSystem m end p → 1 ≤ nodes →
    IsOpening m end nodes p.front

-- 2. Moves

-- Every move keeps a system state sound; global virtual time, the floors of the nodes and the
-- front's time never fall.
abbrev pub MovesAreSound : Type 0
MovesAreSound = (m : Meaning) (end : ℕ) (k : Move) (p p' : System) → IsSystem m end p →
    move m end k p ≡ Some p' → IsSystem m end p' × GoesOnFrom end p p'

-- A move is made exactly if it is not refused.
abbrev pub MovesAreMadeOrRefused : Type 0
MovesAreMadeOrRefused = (m : Meaning) (end : ℕ) (k : Move) (p : System) → IsSystem m end p →
    is_some (move m end k p) ≡ not (is_some (refusal m end k p))

-- The meaning of an answer, by the system states before and after the move.
abbrev pub IsAnswerFor : ℕ → System → System → Answer → Type 0
IsAnswerFor end p p' (Posted floor) = floor ≡ gvt end p
IsAnswerFor end p p' (Taken ran out fossils) =
    (length p'.transit ≡ length p.transit + out)
    × (length p'.gathered ≡ length p.gathered + fossils)
IsAnswerFor end p p' (Committed g events) =
    (p.front.time < g) × (p'.front.time ≡ g) × (length p'.front.log ≡ length p.front.log + events)
IsAnswerFor end p p' (AlreadyAt g) = (p' ≡ p) × (p.front.time ≡ g)
IsAnswerFor end p p' (Checkpointed g) = (p' ≡ p) × (p.front.time ≡ g)

-- A move has an answer exactly if it is made, and the answer says what it did.
pub record IsAnswering (m : Meaning) (end : ℕ) (k : Move) (p : System) : Type 0 where
  pub made : is_some (answer_of m end k p) ≡ is_some (move m end k p)
  pub answers : (p' : System) (a : Answer) → move m end k p ≡ Some p' →
      answer_of m end k p ≡ Some a → IsAnswerFor end p p' a

abbrev pub MovesAnswer : Type 0
MovesAnswer = (m : Meaning) (end : ℕ) (k : Move) (p : System) → IsAnswering m end k p

-- 3. Runs

-- After any list of moves of an opened system the system state is sound, and continues from the one
-- after fewer of them.
abbrev pub RunsAreSound : Type 0
RunsAreSound = (m : Meaning) (end nodes : ℕ) (w : World) (ks ls : List Move) →
    IsOpening m end nodes w → IsSystem m end (after_moves m end (ks ++ ls) (opened m.lps nodes w))
    × GoesOnFrom end (after_moves m end ks (opened m.lps nodes w))
    (after_moves m end (ks ++ ls) (opened m.lps nodes w))

-- A list of moves is made exactly if its first part is made and then the rest, with the same
-- result.
abbrev pub MovesMadeJoin : Type 0
MovesMadeJoin = (m : Meaning) (end : ℕ) (ks ls : List Move) (p : System) →
    moves_made m end (ks ++ ls) p
    ≡ option_and_then (λ (q : System). moves_made m end ls q) (moves_made m end ks p)

pub record AreMadeInParts (m : Meaning) (end : ℕ) (ks ls : List Move) (p r : System) : Type 0 where
  pub middle : System
  pub first : moves_made m end ks p ≡ Some middle
  pub others : moves_made m end ls middle ≡ Some r

abbrev pub MovesMadePart : Type 0
MovesMadePart = (m : Meaning) (end : ℕ) (ks ls : List Move) (p r : System) →
    moves_made m end (ks ++ ls) p ≡ Some r → AreMadeInParts m end ks ls p r

-- A list of moves, none of them refused, leads from a system to a system that continues from it.
-- The definition in which refused moves change nothing gives the same result.
pub record AreMade (m : Meaning) (end : ℕ) (ks : List Move) (p q : System) : Type 0 where
  pub system : IsSystem m end q
  pub goes_on : GoesOnFrom end p q
  pub same : after_moves m end ks p ≡ q

abbrev pub MovesMadeAreSound : Type 0
MovesMadeAreSound = (m : Meaning) (end : ℕ) (ks : List Move) (p q : System) → IsSystem m end p →
    moves_made m end ks p ≡ Some q → AreMade m end ks p q

-- After any runs, with any numbers of nodes, the front is the sequential simulation up to its time,
-- which is not past the end, and its log begins with that of the front after fewer runs.
pub record AreFrontsOfOneSimulation (m : Meaning) (end : ℕ) (v w : World) : Type 0 where
  pub front : IsUpto m end w.time w
  pub soon : w.time ≤ end
  pub time_rises : v.time ≤ w.time
  pub log_grows : (more : List Message) × (w.log ≡ v.log ++ more)

abbrev pub RunsAreOneSimulation : Type 0
RunsAreOneSimulation = (m : Meaning) (end : ℕ) (rs ss : List Run) → IsLawful m → end ≤ 2 ^ 40 →
    Every (λ (r : Run). 1 ≤ r.nodes) (rs ++ ss) →
    AreFrontsOfOneSimulation m end (after_runs m end rs (opening m))
    (after_runs m end (rs ++ ss) (opening m))

-- 4. Commits

-- A system state in which a commit may take the handlings reported before c
pub record MayCommit (m : Meaning) (end c : ℕ) (p : System) : Type 0 where
  pub lawful : IsLawful m
  pub short : end ≤ 2 ^ 40
  pub seated : IsSeatedBy m.lps p
  pub in_range : IsSystemInRange p
  pub reported : IsConsistent m p
  pub balanced : IsBalanced m p
  pub front : IsUpto m end p.front.time p.front
  pub some : 1 ≤ nodes_of p
  pub later : p.front.time ≤ c
  pub safe : c ≤ gvt end p
  pub answered : c ≤ least_floor end p.floors

-- every system state of a system is such a state, at any time from its front's on that is at most
-- each node's floor
abbrev pub SystemsMayCommit : Type 0
SystemsMayCommit = (m : Meaning) (end c : ℕ) (p : System) → IsSystem m end p →
    p.front.time ≤ c → c ≤ least_floor end p.floors → MayCommit m end c p

-- A commit at a time that is above neither global virtual time nor any node's floor makes the front
-- the sequential simulation up to that time.
pub record IsCommitted (m : Meaning) (end c : ℕ) (p : System) : Type 0 where
  pub front : IsUpto m end c (commit m c p).front
  pub log : (commit m c p).front.log ≡ p.front.log ++ merged c p.gathered
  pub reported : IsConsistent m (commit m c p)
  pub balanced : IsBalanced m (commit m c p)
  pub in_range : IsSystemInRange (commit m c p)
  pub seated : IsSeatedBy m.lps (commit m c p)
  pub same_gvt : gvt end (commit m c p) ≡ gvt end p

abbrev pub CommitIsSequential : Type 0
CommitIsSequential = (m : Meaning) (end c : ℕ) (p : System) → MayCommit m end c p →
    IsCommitted m end c p

-- The reports determine the front that a commit makes, without a call of the model: each process
-- has the state after its last handling reported before c, and the pending messages are the old
-- ones and all that these handlings sent, less all that they handled.
pub record IsByReports (lps c : ℕ) (p : System) (w : World) : Type 0 where
  pub front : w ≡ reported_front c p.gathered p.front
  pub states : (lp : ℕ) → lp < lps →
      state_of w lp ≡ state_after (reported_before c (reported_by lp p.gathered)) (state_of p.front lp)
  pub numbers : (lp : ℕ) → lp < lps →
      number_of w lp ≡ number_after (reported_before c (reported_by lp p.gathered)) (number_of p.front lp)

abbrev pub CommitIsByReports : Type 0
CommitIsByReports = (m : Meaning) (end c : ℕ) (p : System) → MayCommit m end c p →
    IsByReports m.lps c p (commit m c p).front

-- The move `Commit` of a sound system state whose nodes have all answered a floor c above the
-- front's time: the front becomes the sequential simulation up to c, its log grows by exactly the
-- messages reported below c in message order, and the reports alone determine it.
pub record LogsTheNextEvents (m : Meaning) (end : ℕ) (p : System) : Type 0 where
  pub front : IsUpto m end (least_floor end p.floors) (system_after_commit m end p).front
  pub log :
      (system_after_commit m end p).front.log
      ≡ p.front.log ++ merged (least_floor end p.floors) p.gathered
  pub in_order : IsAscending (merged (least_floor end p.floors) p.gathered)
  pub by_reports :
      IsByReports m.lps (least_floor end p.floors) p (system_after_commit m end p).front

abbrev pub CommitsLogTheNextEvents : Type 0
CommitsLogTheNextEvents = (m : Meaning) (end : ℕ) (p : System) → IsSystem m end p →
    p.front.time < least_floor end p.floors → LogsTheNextEvents m end p

-- 5. Nodes

-- A node does not refuse the parcel posted to it: the parcel's floor is not below the node's, and
-- its messages are for the node's processes and not before its floor.
abbrev pub ParcelsAreAccepted : Type 0
ParcelsAreAccepted = (m : Meaning) (end node : ℕ) (p : System) (parcel : Parcel) →
    IsSystem m end p → get_or p.parcels node None ≡ Some parcel →
    refused_by (node_view m end p node) parcel ≡ None

-- The reply of the node names only processes that exist, and reports only handlings of its own.
abbrev pub RepliesNameWhatIsThere : Type 0
RepliesNameWhatIsThere = (m : Meaning) (end node : ℕ) (p : System) (parcel : Parcel) (w : Work) →
    IsSystem m end p → get_or p.parcels node None ≡ Some parcel →
    work_here m end (nodes_of p) parcel (node_of p node) ≡ Some w →
    names_there m.lps (nodes_of p) node (reply_of parcel.floor w) ≡ true

-- The load of a node at the opening is in range, and the node made from it is that node of the
-- opened system state.
pub record IsLoadedWith (m : Meaning) (end nodes node : ℕ) (w : World) : Type 0 where
  pub in_range : Every IsPartInRange (load_of m.lps end nodes node w).parts
  pub answer : load_answer m.lps (load_of m.lps end nodes node w)
      ≡ Ok (node_view m end (opened m.lps nodes w) node)

abbrev pub OpenedNodes : Type 0
OpenedNodes = (m : Meaning) (end nodes node : ℕ) (w : World) → CanOpen m end nodes w →
    node < nodes → IsLoadedWith m end nodes node w

-- The answer of the node to this parcel: the reply from which the system state after the take is
-- made, with the node as it is in that system state; or, if the take is refused, the number limit,
-- and the node is spent.
pub record IsAnsweredBy (m : Meaning) (end node : ℕ) (p : System) (parcel : Parcel) : Type 0 where
  pub made : (p' : System) → move m end (Take node) p ≡ Some p' →
      (w : Work) × (p' ≡ system_after_answer node parcel p w)
      × (answer m (node_view m end p node) parcel
      ≡ record { result = Ok (reply_of parcel.floor w); node = node_view m end p' node })
  pub refused : move m end (Take node) p ≡ None →
      answer m (node_view m end p node) parcel
      ≡ record { result = Err NumberLimit; node = spent_node (node_view m end p node) }

abbrev pub TakesAreAnswers : Type 0
TakesAreAnswers = (m : Meaning) (end node : ℕ) (p : System) (parcel : Parcel) → IsSystem m end p →
    get_or p.parcels node None ≡ Some parcel → IsAnsweredBy m end node p parcel

-- Any other move leaves the node unchanged.
abbrev pub MovesLeaveNodes : Type 0
MovesLeaveNodes = (m : Meaning) (end node : ℕ) (k : Move) (p p' : System) →
    move m end k p ≡ Some p' → (k ≡ Take node → ⊥) →
    node_view m end p' node ≡ node_view m end p node

-- 6. The ledger

-- The ledger's floor is global virtual time.
abbrev pub LedgerFloorIsGvt : Type 0
LedgerFloorIsGvt = (end : ℕ) (p : System) →
    ledger_floor end p.transit p.parcels (lows_of p) ≡ gvt end p

-- The lows of a system state are those of its nodes, and the ledger's calls make the ledger of the
-- system state, move by move.
pub record LedgersFollow (m : Meaning) (end : ℕ) : Type 0 where
  pub lows : (p : System) →
      lows_of p ≡ map (λ (node : ℕ). low_of (node_view m end p node).processes) (below (nodes_of p))
  pub starts : (nodes : ℕ) (w : World) →
      first_ledger nodes end w.time (lows_of (opened m.lps nodes w))
      ≡ ledger_of end (opened m.lps nodes w)
  pub posts : (p : System) (node : ℕ) (picks : List ℕ) (budget : ℕ) →
      after_post (ledger_of end p) node picks budget
      ≡ ledger_of end (system_after_post end node picks budget p)
  pub takes : (p : System) (node : ℕ) (parcel : Parcel) (w : Work) →
      after_take (ledger_of end p) node parcel (reply_of parcel.floor w)
      ≡ ledger_of end (system_after_answer node parcel p w)
  pub commits : (p : System) → ledger_of end (system_after_commit m end p) ≡ ledger_of end p

abbrev pub LedgersFollowSystems : Type 0
LedgersFollowSystems = (m : Meaning) (end : ℕ) → LedgersFollow m end

-- A ledger allows exactly the posts that the system state allows, and finds the cause of each other
-- refusal.
pub record LedgersAllow (m : Meaning) (end : ℕ) (p : System) : Type 0 where
  pub nodes : ledger_nodes (ledger_of end p) ≡ nodes_of p
  pub busy : (node : ℕ) → is_ledger_busy (ledger_of end p) node ≡ is_busy p node
  pub picks : (node : ℕ) (picks : List ℕ) →
      may_pick (ledger_of end p) node picks
      ≡ (can_pick (nodes_of p) node p.transit picks && are_distinct picks)
  pub refused : (node : ℕ) (picks : List ℕ) (budget : ℕ) →
      refusal m end (Post node picks budget) p
      ≡ (if not (nat_lt node (ledger_nodes (ledger_of end p))) then Some NoSuchNode
      else if is_ledger_busy (ledger_of end p) node then Some Busy
      else if may_pick (ledger_of end p) node picks then None
      else Some NoSuchPick)

abbrev pub LedgersAllowPosts : Type 0
LedgersAllowPosts = (m : Meaning) (end : ℕ) (p : System) → IsSystem m end p → LedgersAllow m end p
