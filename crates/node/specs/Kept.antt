-- What a node keeps true while it handles a parcel: its processes are consistent with the model,
-- nothing before a time comes into being, and each message is accounted for.
use Rattle.std.specs.List.{AllByRecursion as Every}
use Rattle.std.specs.Prelude.{ℕ, ◌%◌, ◌+◌, ◌++◌, ◌/◌, ◌<◌, ◌≡◌, ◌≤◌, ◌^◌, List, Some, flat_map}
use Rattle.std.specs.Prelude.{get_or, length, map}
use Rattle.eventkey.specs.Bag.{copies}
use Rattle.eventkey.specs.Message.{IsRanged, Message}
use Rattle.eventkey.specs.Signed.{of_sign}
use Rattle.eventkey.specs.declared.Sign.TheVariants.{Minus, Plus}
use Rattle.eventkey.specs.declared.Signed.{Signed}
use Rattle.model.specs.Meaning.{IsLawful, IsWords, Meaning}
use Rattle.process.specs.Process.{Process, fossils_of, nobody, release, sent_by}
use Rattle.process.specs.Consistent.{IsHistory, IsConsistentProcess, held}
use Rattle.process.specs.declared.Done.{Done}
use Rattle.queues.specs.Record.{messages}
use Rattle.node.specs.Handling.{Node, loaded_node, own_lps}
use Rattle.node.specs.Node.{Work, work_here}
use Rattle.node.specs.declared.Load.{Load}
use Rattle.node.specs.declared.Parcel.{Parcel}

-- process lp, among the processes of its node
abbrev pub own : ℕ → List Process → ℕ → Process
own nodes qs lp = get_or qs (lp / nodes) nobody

-- The handlings of each process of the node that are not reported yet are what the model does.
abbrev pub HasHistories : Meaning → Node → Type 0
HasHistories m n = (lp : ℕ) → lp < n.lps → lp % n.nodes ≡ n.node → IsHistory m lp
    (own n.nodes n.processes lp)

-- The histories of a node that has just been loaded are what the model does: they are empty.
abbrev pub HistoriesBegin : Type 0
HistoriesBegin = (m : Meaning) (lps : ℕ) (load : Load) → HasHistories m (loaded_node lps load)

-- The past of the processes: their states and send numbers at a time, and what each reported since
-- then
pub record Past : Type 0 where
  pub time : ℕ
  pub state : ℕ → List ℕ
  pub number : ℕ → ℕ
  pub reported : ℕ → List Done

-- the numbers of the past lie in their ranges
pub record IsPast (m : Meaning) (past : Past) : Type 0 where
  pub words : (lp : ℕ) → lp < m.lps → IsWords (past.state lp)
  pub reported : (lp : ℕ) → lp < m.lps → Every (λ (d : Done). IsRanged d.message) (past.reported lp)

-- the numbers of all messages that a process has, or sent and did not report, lie in their ranges
pub record HasRanged (q : Process) : Type 0 where
  pub done : Every IsRanged (messages q.done)
  pub waiting : Every IsRanged q.waiting
  pub antis : Every IsRanged q.antis
  pub sent : Every IsRanged (sent_by q)

-- The processes of a node: each is consistent with the model, its messages are in their ranges, and
-- none waits before low.
pub record IsNodeKept (m : Meaning) (nodes node floor low : ℕ) (past : Past) (qs : List Process) :
    Type 0 where
  pub size : length qs ≡ length (own_lps nodes node m.lps)
  pub reported : (lp : ℕ) → lp < m.lps → lp % nodes ≡ node → IsConsistentProcess m lp past.time (past.state lp)
      (past.number lp) floor (past.reported lp) (own nodes qs lp)
  pub ranged : Every HasRanged qs
  pub late : Every (λ (q : Process). Every (λ (x : Message). low ≤ x.time) (q.waiting ++ q.antis))
      qs

-- a message or an antimessage under way: for a process that exists, in its ranges, and not before
-- low
pub record IsUnderWay (lps low : ℕ) (s : Signed) : Type 0 where
  pub late : low ≤ s.message.time
  pub there : s.message.to < lps
  pub ranged : IsRanged s.message

-- What a node does with its deliveries: its processes stay consistent with the model, what it sends
-- is not before low, and each message is accounted for.
pub record IsWorkKept (m : Meaning) (nodes node floor low : ℕ) (past : Past) (deliver : List Signed)
    (qs : List Process) (w : Work) : Type 0 where
  pub kept : IsNodeKept m nodes node floor low past w.processes
  pub out : Every (IsUnderWay m.lps low) w.out
  -- for each message, what its process has of it, less its antimessages there, changes by the
  -- deliveries
  pub held_is : (x : Message) → x.to < m.lps → x.to % nodes ≡ node →
      held x (own nodes w.processes x.to) + copies x (own nodes qs x.to).antis
      + copies x (of_sign Minus deliver)
      ≡ held x (own nodes qs x.to) + copies x (own nodes w.processes x.to).antis
      + copies x (of_sign Plus deliver)
  -- for each message, what the processes sent changes by what the node sends out
  pub sent_is : (x : Message) → copies x (flat_map sent_by w.processes)
      + copies x (of_sign Minus w.out) ≡ copies x (flat_map sent_by qs)
      + copies x (of_sign Plus w.out)

-- A node that works on a parcel of messages under way for its processes keeps these invariants.
abbrev pub WorkIsKept : Type 0
WorkIsKept = (m : Meaning) (end nodes node floor low : ℕ) (past : Past) (parcel : Parcel)
    (qs : List Process) (w : Work) → IsLawful m → end ≤ 2 ^ 40 → node < nodes → floor ≤ low →
    IsPast m past →
    Every (IsUnderWay m.lps low) parcel.deliver → Every (λ (s : Signed). s.message.to % nodes
    ≡ node) parcel.deliver → IsNodeKept m nodes node floor low past qs →
    work_here m end nodes parcel qs ≡ Some w → IsWorkKept m nodes node floor low past parcel.deliver
    qs w

-- what was reported until now, with what these processes report of their handlings before a floor
abbrev pub reported_too : ℕ → ℕ → List Process → Past → Past
reported_too nodes floor qs past = record past {
  reported = λ (lp : ℕ). past.reported lp ++ fossils_of floor
      (own nodes qs lp);
}

-- A node that reports and releases the handlings below a floor keeps these invariants, if no
-- message waits below that floor.
abbrev pub ReleasingIsKept : Type 0
ReleasingIsKept = (m : Meaning) (nodes node floor floor' low : ℕ) (past : Past) (qs : List Process)
    → node < nodes → past.time ≤ floor → floor ≤ floor' → floor' ≤ low →
    IsNodeKept m nodes node floor low past qs → IsNodeKept m nodes node floor' low
    (reported_too nodes floor' qs past) (map (λ (q : Process). release floor' q) qs)
