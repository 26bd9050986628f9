-- What a step does, returns and appends, and why it is refused.
use Rattle.std.specs.Prelude.{Bool, IfErr, IfOk, IsErrOf, List, None, OnErr, OnOk, Option, Result, Some}
use Rattle.std.specs.Prelude.{Err, [], false, if◌then◌else◌, length, nat_lt, not, true, ℕ, ◌&&◌}
use Rattle.std.specs.Prelude.{◌*◌, ◌++◌, ◌+◌, ◌<◌, ◌^◌, ◌∷◌, ◌≡◌, ◌≤◌, ◌⊎◌}
use Rattle.commitlog.specs.Records.{HasRoom, entry_with, seal_of, most_record_bytes}
use Rattle.commitlog.specs.declared.records.Entry.{Entry}
use Rattle.disk.specs.Disk.{DiskState}
use Rattle.gvt.specs.Ledger.{least_floor}
use Rattle.std.specs.List.{AllByRecursion as Every}
use Rattle.std.specs.declared.alloc.AllocError.{AllocError}
use Rattle.eventkey.specs.Message.{IsRanged}
use Rattle.model.specs.Meaning.{IsWords, Meaning}
use Rattle.model.specs.World.{IsUpto}
use Rattle.process.specs.declared.Done.{Done}
use Rattle.gvt.specs.Judged.{AreOfFront}
use Rattle.gvt.specs.Picks.{are_distinct, can_pick}
use Rattle.node.specs.declared.NodeFault.TheVariants as node
use Rattle.node.specs.declared.Reply.{Reply}
use Rattle.gvt.specs.Moves.{Move, answer_of, is_busy, merged, move, refusal, reported_before}
use Rattle.gvt.specs.Moves.{reported_front}
use Rattle.gvt.specs.Moves.Move.{Checkpoint as CheckpointMove, Commit as CommitMove}
use Rattle.gvt.specs.Moves.Move.{Post as PostMove, Take as TakeMove}
use Rattle.gvt.specs.Moves.Refusal.{NumberLimit as NumberLimitRefusal}
use Rattle.gvt.specs.System.{System, nodes_of}
use Rattle.gvt.specs.Replies.{names_there}
use Rattle.recovery.specs.Bodies.{events_body}
use Rattle.recovery.specs.Checkpoints.{AreKept, checkpoint_body, checkpoint_of}
use Rattle.wire.specs.Port.{IsResourceFault, PortState}
use Rattle.wire.specs.declared.port.PortFault.{PortFault}
use Rattle.wire.specs.declared.port.PortFault.TheVariants.{Peer}
use Rattle.coordinator.specs.Session.{IsConsistentSession, Running, Session, no_port, port_at}
use Rattle.coordinator.specs.Session.{running, system_of}
use Rattle.gvt.specs.declared.Answer.{Answer}
use Rattle.gvt.specs.declared.Answer.TheVariants.{Taken}
use Rattle.coordinator.specs.declared.SessionFault.{SessionFault}
use Rattle.coordinator.specs.declared.SessionFault.TheVariants.{Busy, Disk, Full, Idle, NoMemory}
use Rattle.coordinator.specs.declared.SessionFault.TheVariants.{NoSuchNode, NoSuchPick, NumberLimit}
use Rattle.coordinator.specs.declared.SessionFault.TheVariants.{Port, Recovery, Reports, Spent}
use Rattle.coordinator.specs.declared.SessionFault.TheVariants.{TooLong}
use Rattle.coordinator.specs.declared.Step.{Step}
use Rattle.coordinator.specs.declared.Step.TheVariants.{Checkpoint, Commit, JudgedCommit, Post}
use Rattle.coordinator.specs.declared.Step.TheVariants.{SealedCheckpoint, Take}

-- the move of the system state that a step makes
abbrev pub move_of : Step → Move
move_of (Post node picks budget) = PostMove node picks budget
move_of (Take node) = TakeMove node
move_of Commit = CommitMove
move_of JudgedCommit = CommitMove
move_of Checkpoint = CheckpointMove
move_of SealedCheckpoint = CheckpointMove

-- whether a step appends a seal after its record
abbrev pub seals : Step → Bool
seals SealedCheckpoint = true
seals step = false

-- whether a step trusts the nodes: an unjudged commit writes what they reported as it is
abbrev pub trusts : Step → Bool
trusts Commit = true
trusts step = false

-- the moves that append a record
abbrev pub Appends : Move → Type 0
Appends CommitMove = Unit {0}
Appends CheckpointMove = Unit {0}
Appends k = ⊥

-- the time that a commit would give the front, and the number of events that it would write
abbrev pub next_time : ℕ → System → ℕ
next_time end p = least_floor end p.floors

abbrev pub next_events : ℕ → System → ℕ
next_events end p = length (reported_before (next_time end p) p.gathered)

-- there is something to commit, and its record is not too long
abbrev pub MayCommit : Running → Type 0
MayCommit r = (r.front.time < next_time r.end (system_of r))
    × (17 + 56 * next_events r.end (system_of r) ≤ most_record_bytes)

-- the gathered reports that a commit would take are those of the front
abbrev pub AreNextReports : Running → Type 0
AreNextReports r = AreOfFront r.meaning (next_time r.end (system_of r)) r.gathered r.front

-- the front that they make is the sequential simulation up to its time
abbrev pub CommitIsUpto : Running → Type 0
CommitIsUpto r = MayCommit r → IsUpto r.meaning r.end (next_time r.end (system_of r))
    (reported_front (next_time r.end (system_of r)) r.gathered r.front)

-- the record that a commit would append: that time, and those events in the order of the simulation
abbrev pub next_record : ℕ → System → Entry
next_record end p =
    let c = next_time end p in entry_with 1 (events_body c (merged c p.gathered))

-- the body of the record that a checkpoint would append: the front without its log
abbrev pub kept_body : System → List ℕ
kept_body p = checkpoint_body (checkpoint_of p.front)

-- The step is the move of the system state, leads to a consistent session, and returns the move's
-- numbers.
pub record IsMade (k : Move) (old new : Running) (answer : Answer) : Type 0 where
  pub move_is : move old.meaning old.end k (system_of old) ≡ Some (system_of new)
  pub consistent : IsConsistentSession new
  pub answer_is : answer_of old.meaning old.end k (system_of old) ≡ Some answer

-- why a step is refused before it begins, over any ports and any disk: the first reason that holds
abbrev pub first_refusal : ℕ → Move → System → Option SessionFault
first_refusal end (PostMove node picks budget) p =
    if not (nat_lt node (nodes_of p)) then Some NoSuchNode
    else if is_busy p node then Some Busy
    else if can_pick (nodes_of p) node p.transit picks && are_distinct picks then None
    else Some NoSuchPick
first_refusal end (TakeMove node) p =
    if not (nat_lt node (nodes_of p)) then Some NoSuchNode
    else if is_busy p node then None else Some Idle
first_refusal end CommitMove p =
    if nat_lt p.front.time (next_time end p) && nat_lt most_record_bytes (17 + 56 * next_events end p)
    then Some TooLong else None
first_refusal end CheckpointMove p =
    if nat_lt most_record_bytes (5 + length (kept_body p)) then Some TooLong else None

-- the port that a move calls
abbrev pub port_called : Move → List PortState → PortState
port_called (PostMove node picks budget) ports = port_at ports node
port_called (TakeMove node) ports = port_at ports node
port_called k ports = no_port

-- A fault of a faithful port: one of its resource faults, or a handling of the parcel would pass the
-- number limit.
abbrev pub IsPortFault : Move → Running → PortFault → Type 0
IsPortFault k old fault = IsResourceFault (port_called k old.ports) fault
    ⊎ ((fault ≡ Peer node.NumberLimit)
    × (refusal old.meaning old.end k (system_of old) ≡ Some NumberLimitRefusal))

-- the moves that call a port
abbrev pub CallsPort : Move → Type 0
CallsPort (PostMove node picks budget) = Unit {0}
CallsPort (TakeMove node) = Unit {0}
CallsPort k = ⊥

-- why a step of a session that is not spent is refused; `IsLogged` says more of `Full` and `Disk`
abbrev pub HasCause : Move → Running → SessionFault → Type 0
HasCause k old (Port fault) = CallsPort k × (first_refusal old.end k (system_of old) ≡ None)
    × (IsConsistentSession old → IsPortFault k old fault)
HasCause k old NoMemory = first_refusal old.end k (system_of old) ≡ None
HasCause k old Full = Appends k × (first_refusal old.end k (system_of old) ≡ None)
HasCause k old Disk = Appends k × (first_refusal old.end k (system_of old) ≡ None)
HasCause k old NumberLimit = ⊥
HasCause k old Reports = ⊥
HasCause k old (Recovery fault) = ⊥
HasCause k old Spent = ⊥
HasCause k old fault = first_refusal old.end k (system_of old) ≡ Some fault

-- The same for a step. A judged commit that could be made fails with `Reports` exactly if the
-- reports are not those of the front, whose states are words where records represent it; a
-- consistent session has no such reports.
abbrev pub StepHasCause : SessionFault → Step → Running → Type 0
StepHasCause Reports JudgedCommit old = MayCommit old × (IsConsistentSession old → ⊥)
    × (Every IsWords old.front.states → AreNextReports old → ⊥)
StepHasCause fault step old = HasCause (move_of step) old fault

-- these faults leave a session unchanged; after the others it is spent
abbrev pub leaves_all : SessionFault → Bool
leaves_all Busy = true
leaves_all Idle = true
leaves_all NoSuchNode = true
leaves_all NoSuchPick = true
leaves_all Full = true
leaves_all TooLong = true
leaves_all Spent = true
leaves_all fault = false

-- What a step does to the system state of a session that is not spent.
pub record IsStepped (k : Move) (old new : Running) (spent : Bool)
    (result : Result Answer SessionFault) : Type 0 where
  pub made : IsConsistentSession old → IfOk result (λ answer. IsMade k old new answer)
  pub refused : (fault : SessionFault) →
      first_refusal old.end k (system_of old) ≡ Some fault → result ≡ Err fault
  pub cause : IfErr result (λ fault. HasCause k old fault)
  pub unchanged : IfErr result (λ fault. leaves_all fault ≡ true → (new ≡ old) × (spent ≡ false))
  pub spends :
      IfErr result (λ fault. leaves_all fault ≡ false → (new.front ≡ old.front) × (spent ≡ true))
  pub usable : OnOk result (spent ≡ false)
  pub meaning_is : new.meaning ≡ old.meaning
  pub end_is : new.end ≡ old.end

-- What a judge of a session answers: whether the reports that a commit would take are those of the
-- front. If there is no commit to make, it answers that they are.
pub record IsJudged (r : Running) (result : Result Bool AllocError) : Type 0 where
  pub passed : IfOk result (λ ok. ok ≡ true →
      MayCommit r → AreNextReports r × Every (λ (d : Done). IsRanged d.message) r.gathered)
  pub refused : IfOk result (λ ok. ok ≡ false →
      MayCommit r × (Every IsWords r.front.states → AreNextReports r → ⊥))
  pub none : OnErr result (MayCommit r)

-- The reply of a node was taken, over any ports: its sends are in transit, what it reported is
-- gathered, and all that it names exists.
pub record IsReplyTaken (node : ℕ) (old new : Running) (answer : Answer) : Type 0 where
  pub reply : Reply
  pub valid : names_there old.meaning.lps (length old.ports) node reply ≡ true
  pub transit : new.ledger.transit ≡ old.ledger.transit ++ reply.out
  pub gathered : new.gathered ≡ old.gathered ++ reply.fossils
  pub answer_is : answer ≡ Taken reply.ran (length reply.out) (length reply.fossils)

-- the record that is appended to these, alone or with the seal that follows it
abbrev pub with_seal : Bool → List Entry → Entry → List Entry
with_seal false records entry = entry ∷ []
with_seal true records entry = entry ∷ seal_of (records ++ entry ∷ []) ∷ []

-- the records that a step appends to these, in order, if there is room for them
abbrev pub appended_by : Move → Bool → List Entry → Running → List Entry
appended_by CommitMove sealed records r = next_record r.end (system_of r) ∷ []
appended_by CheckpointMove sealed records r =
    with_seal sealed records (entry_with 2 (kept_body (system_of r)))
appended_by k sealed records r = []

module _ {M P D : Type 0} (meaning : M → Meaning) (state : P → PortState) (disk : D →
    DiskState) where
  -- the disk of a session has room for the record that a commit would append
  abbrev pub HasRoomToCommit : Session M P D → Type 0
  HasRoomToCommit s =
      let events = next_events s.end (system_of (running meaning state s)) in
      HasRoom s.log.records (12 + 56 * events) (length (disk s.log.disk).reads)

  -- and for the record that a checkpoint would append
  abbrev pub HasRoomToKeep : Session M P D → Type 0
  HasRoomToKeep s = HasRoom s.log.records
      (length (kept_body (system_of (running meaning state s)))) (length (disk s.log.disk).reads)

  -- for the record of either
  abbrev pub HasRoomFor : Move → Session M P D → Type 0
  HasRoomFor CommitMove s = HasRoomToCommit s
  HasRoomFor CheckpointMove s = HasRoomToKeep s
  HasRoomFor k s = Unit {0}

  -- What a step does to the log and its disk: a commit that moves the front and a checkpoint append
  -- exactly one record, if there is room, and a checkpoint that is sealed also a seal, if there is
  -- room for that. No other step touches the log.
  pub record IsLogged (k : Move) (sealed : Bool) (old new : Session M P D)
      (result : Result Answer SessionFault) : Type 0 where
    pub stays : (Appends k → ⊥) → new.log ≡ old.log
    pub appended : k ≡ CommitMove →
        old.front.time < next_time old.end (system_of (running meaning state old)) →
        OnOk result ((new.log.records ≡
        old.log.records ++ next_record old.end (system_of (running meaning state old)) ∷ [])
        × HasRoomToCommit old)
    pub kept : k ≡ CheckpointMove → OnOk result (AreKept sealed
        (old.log.records ++ entry_with 2 (kept_body (system_of (running meaning state old))) ∷ [])
        (length (disk old.log.disk).reads) new.log.records
        × HasRoomToKeep old)
    pub full : IsErrOf result Full → HasRoomFor k old → ⊥
    pub failed : IsErrOf result Disk → HasRoomFor k old
        × ((disk old.log.disk).failures < (disk new.log.disk).failures)
    pub no_failure : (disk old.log.disk).failures < (disk new.log.disk).failures →
        IsErrOf result Disk
    pub failures : (disk old.log.disk).failures ≤ (disk new.log.disk).failures

  -- A record was appended, and nothing else changes: neither the system state nor the number of
  -- sectors of the disk.
  pub record OnlyLogChanges (old new : Session M P D)
      (result : Result Answer SessionFault) : Type 0 where
    pub system : running meaning state new ≡ running meaning state old
    pub sectors : OnOk result
        (length (disk new.log.disk).reads ≡ length (disk old.log.disk).reads)

  -- What a seal after the last record does to a session: to the log alone, and to no more than the
  -- seal has room for. A fault leaves the session spent.
  pub record IsSealed (old new : Session M P D) (result : Result (Unit {0}) SessionFault) : Type 0
    where
      pub records : OnOk result (AreKept true old.log.records (length (disk old.log.disk).reads)
          new.log.records)
      pub cause : IfErr result (λ fault. (fault ≡ Disk) ⊎ (fault ≡ NoMemory))
      pub failed : IsErrOf result Disk →
          (disk old.log.disk).failures < (disk new.log.disk).failures
      pub no_failure : (disk old.log.disk).failures < (disk new.log.disk).failures →
          IsErrOf result Disk
      pub failures : (disk old.log.disk).failures ≤ (disk new.log.disk).failures
      pub system : running meaning state new ≡ running meaning state old
      pub usable : OnOk result (new.spent ≡ false)
      pub spends : OnErr result (new.spent ≡ true)
