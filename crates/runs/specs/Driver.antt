-- What a driver does to a session: it makes steps of it, and nothing else.
use Rattle.std.specs.Prelude.{Bool, true, false, ℕ, zero, suc, List, [], ◌∷◌, ◌++◌, ◌+◌, ◌%◌, ◌==◌}
use Rattle.std.specs.Prelude.{◌-◌, ◌^◌, get_or, ◌&&◌, ◌||◌, nat_le, nat_lt, max, min, ◌<◌, ◌≤◌, if◌then◌else◌, ◌≡◌, length}
use Rattle.std.specs.Prelude.{Err, map, None, not, Ok, Option, replicate, set, Some, unwrap_or, ◌⊎◌, ⊤}
use Rattle.coordinator.specs.Crashes.{IsTrusted, KeepsRepresentation}
use Rattle.coordinator.specs.Drives.{Goes, IsStep, any_trusts}
use Rattle.coordinator.specs.Headline.{IsDriven as IsDrivenFrom}
use Rattle.coordinator.specs.Opening.{AllFaithful, OpeningIsRefused}
use Rattle.coordinator.specs.declared.SessionFault.{SessionFault}
use Rattle.coordinator.specs.Session.{IsConsistentSession, Session, running}
use Rattle.coordinator.specs.Steps.{move_of}
use Rattle.coordinator.specs.declared.Step.{Step}
use Rattle.coordinator.specs.declared.Step.TheVariants as step
use Rattle.disk.specs.Disk.{DiskState}
use Rattle.runs.specs.Budgets.{budget_answered, first_budget, messages_for}
use Rattle.runs.specs.declared.budgets.NodeBudget.{NodeBudget}
use Rattle.runs.specs.declared.over.Finished.{Finished}
use Rattle.runs.specs.declared.rounds.RoundFault.{RoundFault}
use Rattle.runs.specs.declared.rounds.RoundFault.TheVariants as round_fault
use Rattle.runs.specs.declared.rounds.RunFault.{RunFault}
use Rattle.runs.specs.declared.rounds.RunFault.TheVariants.{NoMemory, Rounds, Stopped}
use Rattle.runs.specs.declared.rounds.RunFault.TheVariants.{Session as RefusedBySession}
use Rattle.runs.specs.declared.rounds.Batch.{Batch}
use Rattle.runs.specs.declared.rounds.Batch.TheVariants.{Adjusting, Fixed}
use Rattle.runs.specs.declared.rounds.Plan.{Plan}
use Rattle.runs.specs.declared.rounds.Round.{Round}
use Rattle.runs.specs.declared.rounds.Schedule.{Schedule}
use Rattle.runs.specs.declared.rounds.Schedule.TheVariants.{InTurn, Overlapped, Together}
use Rattle.eventkey.specs.declared.Signed.{Signed}
use Rattle.model.specs.Meaning.{Meaning}
use Rattle.model.specs.World.{IsUpto, World}
use Rattle.node.specs.Node.{sits_on}
use Rattle.gvt.specs.Moves.{Move, answer_of, move}
use Rattle.gvt.specs.Moves.Move.{Commit, Post, Take}
use Rattle.gvt.specs.System.{System, opened}
use Rattle.gvt.specs.declared.Answer.{Answer}
use Rattle.gvt.specs.declared.Answer.TheVariants.{Posted, Taken}
use Rattle.recovery.specs.Replay.{IsReplayedTo}
use Rattle.wire.specs.Port.{PortState}

-- the places of the messages for the processes of a node; the first place is i
abbrev pub places_for : ℕ → ℕ → ℕ → List Signed → List ℕ
places_for nodes node i [] = []
places_for nodes node i (s ∷ ss) =
    if sits_on nodes node s.message.to then i ∷ places_for nodes node (i + 1) ss
    else places_for nodes node (i + 1) ss

-- 1. Steps and their answers

-- a step that was made, what was in transit when it was made, and its answer
pub record Made : Type 0 where
  pub step : Step
  pub transit : List Signed
  pub answer : Answer

abbrev pub steps_of : List Made → List Step
steps_of made = map (λ (k : Made). k.step) made

abbrev pub moves_of : List Made → List Move
moves_of made = map (λ (k : Made). move_of k.step) made

-- the number of events that an answer reports, which no rollback of their node can reach any more
abbrev pub reported_in : Answer → ℕ
reported_in (Taken ran out fossils) = fossils
reported_in answer = 0

-- the number of events reported since the last commit, given that number before these steps
abbrev pub reported_after : ℕ → Move → Answer → ℕ
reported_after reported (Take node) answer = reported + reported_in answer
reported_after reported Commit answer = 0
reported_after reported move answer = reported

abbrev pub reported_since : ℕ → List Made → ℕ
reported_since reported [] = reported
reported_since reported (k ∷ ks) = reported_since (reported_after reported (move_of k.step) k.answer) ks

-- the floor of the parcel that was posted
abbrev pub floor_in : Answer → ℕ
floor_in (Posted floor) = floor
floor_in answer = 0

-- for each node the floor of the parcel that is outstanding there, after this step
abbrev pub outstanding_by : List (Option ℕ) → Move → Answer → List (Option ℕ)
outstanding_by outstanding (Post node picks budget) answer =
    set outstanding node (Some (floor_in answer))
outstanding_by outstanding (Take node) answer = set outstanding node None
outstanding_by outstanding move answer = outstanding

abbrev pub outstanding_after : List (Option ℕ) → List Made → List (Option ℕ)
outstanding_after outstanding [] = outstanding
outstanding_after outstanding (k ∷ ks) =
    outstanding_after (outstanding_by outstanding (move_of k.step) k.answer) ks

-- the least of this time and of a floor
abbrev pub least_of : ℕ → Option ℕ → ℕ
least_of time (Some floor) = min time floor
least_of time None = time

-- the least of this time and of the floors that nodes answered: of the parcels whose replies were
-- taken
abbrev pub least_by : ℕ → List (Option ℕ) → Move → ℕ
least_by time outstanding (Take node) = least_of time (get_or outstanding node None)
least_by time outstanding move = time

abbrev pub least_answered : ℕ → List (Option ℕ) → List Made → ℕ
least_answered time outstanding [] = time
least_answered time outstanding (k ∷ ks) = least_answered
    (least_by time outstanding (move_of k.step))
    (outstanding_by outstanding (move_of k.step) k.answer) ks

-- the number of commits made
abbrev pub commits_by : Move → ℕ
commits_by Commit = 1
commits_by move = 0

abbrev pub commits_in : List Made → ℕ
commits_in [] = 0
commits_in (k ∷ ks) = commits_by (move_of k.step) + commits_in ks

-- the number of messages that a node handled, by its answer
abbrev pub handled_in : Answer → ℕ
handled_in (Taken ran out fossils) = ran
handled_in answer = 0

-- by the answers to the takes of this node
abbrev pub handled_by : ℕ → Move → Answer → ℕ
handled_by node (Take other) answer = if other == node then handled_in answer else 0
handled_by node move answer = 0

abbrev pub handled_of : ℕ → List Made → ℕ
handled_of node [] = 0
handled_of node (k ∷ ks) = handled_by node (move_of k.step) k.answer + handled_of node ks

-- the count of each node is the number of messages that it handled in these steps; a count stops at
-- the largest number of 64 bits
abbrev pub AreCounts : List ℕ → List Made → Type 0
AreCounts counts made =
    (node : ℕ) → get_or counts node 0 ≡ min (handled_of node made) (2 ^ 64 - 1)

-- for each node its budget after this step, which follows the answers to the takes of that node
abbrev pub budgets_by : List NodeBudget → Move → Answer → List NodeBudget
budgets_by budgets (Take node) answer =
    set budgets node (budget_answered (get_or budgets node first_budget) answer)
budgets_by budgets move answer = budgets

abbrev pub budgets_after : List NodeBudget → List Made → List NodeBudget
budgets_after budgets [] = budgets
budgets_after budgets (k ∷ ks) =
    budgets_after (budgets_by budgets (move_of k.step) k.answer) ks

-- a parcel lets its node handle as many messages as the budget of that node says
abbrev pub IsBudgeted : Batch → List NodeBudget → Move → Type 0
IsBudgeted batch budgets (Post node picks budget) =
    budget ≡ messages_for batch (get_or budgets node first_budget)
IsBudgeted batch budgets move = ⊤

-- that for each of these steps, with these budgets of the nodes before the first
abbrev pub AreBudgeted : Batch → List NodeBudget → List Made → Type 0
AreBudgeted batch budgets [] = ⊤
AreBudgeted batch budgets (k ∷ ks) = IsBudgeted batch budgets (move_of k.step)
    × AreBudgeted batch (budgets_by budgets (move_of k.step) k.answer) ks

-- 2. Rounds

-- how many messages a parcel lets its node handle: the fixed batch, or at least one and at most the
-- largest budget if each node has a budget that follows its reports
abbrev pub IsBudget : Batch → ℕ → Type 0
IsBudget (Fixed messages) budget = budget ≡ messages
IsBudget (Adjusting most rounds_are_cheap) budget = (1 ≤ budget) × (budget ≤ 65536) × (budget ≤ max most 1)

-- Everything in transit for a node is posted to it, in ascending order of its places, with such a
-- budget. A place has 32 bits.
pub record IsPost (plan : Plan) (node : ℕ) (made : List Made) : Type 0 where
  pub post : Made
  pub picks : List ℕ
  pub budget : ℕ
  pub only : made ≡ post ∷ []
  pub move_is : move_of post.step ≡ Post node picks budget
  pub all : length post.transit < 2 ^ 32 → picks ≡ places_for plan.nodes node 0 post.transit
  pub allowed : IsBudget plan.batch budget

-- a turn: everything in transit for a node is posted to it, and its reply is taken
abbrev pub IsTurn : Plan → ℕ → List Made → Type 0
IsTurn plan node made = (post : List Made) × (taken : List Made)
    × IsPost plan node post × (moves_of taken ≡ Take node ∷ []) × (made ≡ post ++ taken)

-- the turns of this many nodes, from node 0 up
abbrev pub AreTurns : Plan → ℕ → List Made → Type 0
AreTurns plan zero made = made ≡ []
AreTurns plan (suc node) made = (before : List Made) × (turn : List Made)
    × AreTurns plan node before × IsTurn plan node turn × (made ≡ before ++ turn)

-- a parcel is posted to each of this many nodes, from node 0 up
abbrev pub ArePosts : Plan → ℕ → List Made → Type 0
ArePosts plan zero made = made ≡ []
ArePosts plan (suc node) made = (before : List Made) × (post : List Made)
    × ArePosts plan node before × IsPost plan node post × (made ≡ before ++ post)

-- the reply of each is taken, from node 0 up
abbrev pub takes_of : ℕ → List Move
takes_of zero = []
takes_of (suc node) = takes_of node ++ Take node ∷ []

-- in the first round of a run a parcel is posted to each node
abbrev pub AreFirst : Bool → Plan → List Made → Type 0
AreFirst true plan made = ArePosts plan plan.nodes made
AreFirst false plan made = made ≡ []

-- Whether a node that answered a parcel with this floor has another turn: that floor is below the
-- end, and the round is not the last one of its run.
abbrev pub goes_on : Round → ℕ → Bool
goes_on round floor = nat_lt floor round.end && not round.last

abbrev pub IsPostIf : Bool → Plan → ℕ → List Made → Type 0
IsPostIf true plan node made = IsPost plan node made
IsPostIf false plan node made = made ≡ []

-- The reply to the parcel with this floor is taken, if one is outstanding at the node, and a parcel
-- is posted again if the node goes on.
abbrev pub IsNext : Round → ℕ → Option ℕ → List Made → Type 0
IsNext round node None made = made ≡ []
IsNext round node (Some floor) made = (taken : List Made) × (post : List Made)
    × (moves_of taken ≡ Take node ∷ []) × IsPostIf (goes_on round floor) round.plan node post
    × (made ≡ taken ++ post)

-- that for each of this many nodes, from node 0 up, with these parcels outstanding before
abbrev pub AreNext : Round → List (Option ℕ) → ℕ → List Made → Type 0
AreNext round outstanding zero made = made ≡ []
AreNext round outstanding (suc node) made = (before : List Made) × (next : List Made)
    × AreNext round outstanding node before
    × IsNext round node (get_or (outstanding_after outstanding before) node None) next
    × (made ≡ before ++ next)

-- What the nodes are asked in a round, with these parcels outstanding before: one turn after
-- another; or, if they work together, all posts before the first take; or, if they overlap, each
-- reply is taken and the next parcel posted to its node before the next reply is taken, so that the
-- reply to a parcel is taken in the next round.
abbrev pub AreAsked : Schedule → Round → List (Option ℕ) → List Made → Type 0
AreAsked InTurn round outstanding made = AreTurns round.plan round.plan.nodes made
AreAsked Together round outstanding made = (posts : List Made) × (taken : List Made)
    × ArePosts round.plan round.plan.nodes posts × (moves_of taken ≡ takes_of round.plan.nodes)
    × (made ≡ posts ++ taken)
AreAsked Overlapped round outstanding made = (posts : List Made) × (next : List Made)
    × AreFirst round.first round.plan posts
    × AreNext round (outstanding_after outstanding posts) round.plan.nodes next
    × (made ≡ posts ++ next)

-- How many events have to be reported since the last commit for a round to end with the next one:
-- as many as the plan asks for, or any in the last round of a run. A plan that asks for none commits
-- in each round.
abbrev pub events_due : Plan → Bool → ℕ
events_due plan last = if last then min plan.commit_every 1 else plan.commit_every

-- A round ends with a commit if at least `events_due` events were reported since the last commit, or
-- if no floor answered in it is below the end, so that the commit reaches the end.
abbrev pub is_due : Round → ℕ → ℕ → Bool
is_due round reported floor =
    nat_le (events_due round.plan round.last) reported || nat_le round.end floor

-- a checkpoint follows each commit whose number is a multiple of `every`; 0 is for none
abbrev pub is_kept : ℕ → ℕ → Bool
is_kept every number = nat_lt 0 every && number % every == 0

-- the step that makes a checkpoint, sealed or not
abbrev pub checkpoint_by : Bool → Step
checkpoint_by sealed = if sealed then step.SealedCheckpoint else step.Checkpoint

abbrev pub kept_after : Plan → ℕ → List Step
kept_after plan number =
    if is_kept plan.checkpoint_every number then checkpoint_by plan.seals ∷ [] else []

-- whether the commits of a plan trust the nodes: those that are judged trust none
abbrev pub trusts_by : Plan → Bool
trusts_by plan = not plan.judged

-- the step that commits
abbrev pub commit_by : Plan → Step
commit_by plan = if plan.judged then step.JudgedCommit else step.Commit

-- the end of a round, with `reported` events reported since the last of `commits` commits
abbrev pub closing_of : Round → ℕ → ℕ → ℕ → List Step
closing_of round reported floor commits =
    if is_due round reported floor
    then commit_by round.plan ∷ kept_after round.plan (commits + 1) else []

-- A round with `reported` events reported since the last of `commits` commits before it, and with
-- these parcels outstanding: all nodes are asked, then a commit is made if one is due, and a
-- checkpoint if one is due after that.
abbrev pub IsRound : Round → ℕ → ℕ → List (Option ℕ) → List Made → Type 0
IsRound round reported commits outstanding made = (asked : List Made) × (closing : List Made)
    × AreAsked round.plan.schedule round outstanding asked
    × (steps_of closing ≡ closing_of round (reported_since reported asked)
    (least_answered round.end outstanding asked) commits)
    × (made ≡ asked ++ closing)

-- the round after this many of a run whose last round has the number `last`
abbrev pub round_after : Plan → ℕ → ℕ → ℕ → Round
round_after plan end last rounds = record {
  plan = plan;
  end = end;
  first = rounds == 0;
  last = rounds + 1 == last;
}

-- The first `rounds` rounds of a run whose last round has the number `last`, unless the run reaches
-- the end before. `last` is the number of rounds of the plan, or a lower one if the run was asked to
-- stop. Before the first round no parcel is outstanding.
abbrev pub AreRounds : Plan → ℕ → ℕ → ℕ → List Made → Type 0
AreRounds plan end last zero made = made ≡ []
AreRounds plan end last (suc rounds) made = (before : List Made) × (round : List Made)
    × AreRounds plan end last rounds before
    × IsRound (round_after plan end last rounds) (reported_since 0 before) (commits_in before)
    (outstanding_after (replicate plan.nodes None) before) round
    × (made ≡ before ++ round)

-- The first `rounds` rounds of such a run, in which each parcel has the budget that its node's own
-- replies gave since the run began.
abbrev pub AreRoundsOfRun : Plan → ℕ → ℕ → ℕ → List Made → Type 0
AreRoundsOfRun plan end last rounds made = AreRounds plan end last rounds made
    × AreBudgeted plan.batch (replicate plan.nodes first_budget) made

-- the fault of a run of which a round was not made to its end
abbrev pub of_round : RoundFault → RunFault
of_round (round_fault.Session fault) = RefusedBySession fault
of_round round_fault.NoMemory = NoMemory

-- 3. The session after the steps

module _ {M P D : Type 0} (meaning : M → Meaning) (state : P → PortState) where
  -- Some steps lead from one to the other: each is its move, and the disk goes on recovering. If
  -- nodes are trusted, this is promised of a consistent session.
  pub record IsDriven (disk : D → DiskState) (trusted : Bool)
      (old new : Session M P D) : Type 0 where
    pub moves : List Move
    pub made : Goes meaning state disk trusted moves old new

  -- The records go on representing the front, if no node is trusted or the session was consistent.
  -- The records from before stay in any case.
  abbrev pub Keeps : (D → DiskState) → Bool → Session M P D → Session M P D → Type 0
  Keeps disk trusted old new =
      KeepsRepresentation meaning disk (IsTrusted trusted (running meaning state old)) old new

  -- each of these steps was made with this in transit and had this answer, over any ports
  abbrev pub AreMade : (D → DiskState) → List Made → Session M P D → Session M P D → Type 0
  AreMade disk [] old new = new ≡ old
  AreMade disk (k ∷ ks) old new = (mid : Session M P D) × (k.transit ≡ old.ledger.transit)
      × IsStep meaning state disk k.step old mid (Ok k.answer) × AreMade disk ks mid new

  -- Steps of this shape were made one after another, over any ports. If nodes are not trusted, no
  -- step trusts them.
  pub record IsDrivenBy (disk : D → DiskState) (trusted : Bool) (Shape : List Made → Type 0)
      (old new : Session M P D) : Type 0 where
    pub steps : List Made
    pub shape : Shape steps
    pub made : AreMade disk steps old new
    pub trusts_none : trusted ≡ false → any_trusts (steps_of steps) ≡ false

  -- Steps were made, and the next step was refused with this fault, over any ports. They begin
  -- steps of this shape: it holds of them, the refused step with some answer, and some steps more.
  pub record IsRefusedIn (disk : D → DiskState) (Shape : List Made → Type 0)
      (old new : Session M P D) (fault : SessionFault) : Type 0 where
    pub steps : List Made
    pub mid : Session M P D
    pub made : AreMade disk steps old mid
    pub next : Step
    pub refused : IsStep meaning state disk next mid new (Err fault)
    pub answer : Answer
    pub more : List Made
    pub shape : Shape (steps
        ++ record { step = next; transit = mid.ledger.transit; answer = answer } ∷ more)

  -- over faithful ports, the front is the sequential simulation up to the end
  abbrev pub IsFinished : ℕ → Session M P D → Session M P D → Type 0
  IsFinished end old new =
      IsConsistentSession (running meaning state old) → IsUpto (meaning old.model) end end new.front

  -- A session was driven to the end, by rounds of the plan and nothing else, over any ports. The run
  -- was to end after `last` rounds. Each parcel has its own node's budget, and each count is what the
  -- replies of its node said in these rounds.
  pub record IsDrivenToEnd (disk : D → DiskState) (end : ℕ) (plan : Plan) (old new : Session M P D)
      (handled : List ℕ) : Type 0 where
    pub rounds : ℕ
    pub last : ℕ
    pub some : (rounds ≤ last) × (last ≤ plan.rounds)
    pub in_rounds : IsDrivenBy disk (trusts_by plan)
        (λ made. AreRoundsOfRun plan end last rounds made × AreCounts handled made) old new
    pub each : length handled ≡ plan.nodes
    pub reached : end ≤ new.front.time
    pub driven : IsDriven disk (trusts_by plan) old new
    pub finished : old.end ≡ end → IsFinished end old new

  -- Why a session that is driven to the end does not come to it, over any ports: it refused a step
  -- which the plan makes next; all rounds were made; some of them were made, and the last of these
  -- ended like the last round of a plan, since a stop was asked for; or an allocation failed.
  abbrev pub DrivingHasCause : (D → DiskState) → ℕ → Plan → Session M P D → Session M P D →
      RunFault → Type 0
  DrivingHasCause disk end plan old new (RefusedBySession fault) =
      (rounds : ℕ) × (last : ℕ) × ((rounds ≤ last) × (last ≤ plan.rounds))
      × IsRefusedIn disk (AreRounds plan end last rounds) old new fault
  DrivingHasCause disk end plan old new Rounds = (new.front.time < end)
      × IsDrivenBy disk (trusts_by plan) (AreRoundsOfRun plan end plan.rounds plan.rounds) old new
  DrivingHasCause disk end plan old new (Stopped time events) = (new.front.time < end)
      × (time ≡ new.front.time) × (events ≡ length new.front.log)
      × ((last : ℕ) × (last < plan.rounds)
      × IsDrivenBy disk (trusts_by plan) (AreRoundsOfRun plan end last last) old new)
  DrivingHasCause disk end plan old new NoMemory = Unit {0}

  -- Over any ports: a session was opened on a disk, at the front to which its records are replayed;
  -- steps of this shape were made and led to this front; and this disk is left.
  pub record HasMade (disk : D → DiskState) (model : M) (end : ℕ) (trusted : Bool)
      (Shape : List Made → Type 0) (old new : D) (front : World) : Type 0 where
    pub first : Session M P D
    pub last : Session M P D
    pub same : (first.model ≡ model) × (first.end ≡ end)
    pub replayed : IsReplayedTo (meaning model) end (disk old).reads first.front
    pub driven : IsDrivenBy disk trusted Shape first last
    pub front_is : front ≡ last.front
    pub left : new ≡ last.log.disk

  -- the steps are the first `rounds` rounds of a run to the round with the number `last`
  abbrev pub HasRun : (D → DiskState) → M → ℕ → Plan → ℕ → ℕ → D → D → World → Type 0
  HasRun disk model end plan last rounds old new front =
      HasMade disk model end (trusts_by plan) (AreRoundsOfRun plan end last rounds) old new front

  -- A run that reached its end, over any ports: it made these rounds of its plan and nothing else.
  -- Its numbers are those of the front that it came to, and each count is what the replies of its
  -- node said in these rounds.
  pub record IsRunOver (disk : D → DiskState) (model : M) (end : ℕ) (plan : Plan) (old new : D)
      (done : Finished) : Type 0 where
    pub rounds : ℕ
    pub last : ℕ
    pub front : World
    pub some : (rounds ≤ last) × (last ≤ plan.rounds)
    pub run : HasMade disk model end (trusts_by plan)
        (λ made. AreRoundsOfRun plan end last rounds made × AreCounts done.ran.items made)
        old new front
    pub each : length done.ran.items ≡ plan.nodes
    pub reached : end ≤ done.time
    pub time_is : done.time ≡ front.time
    pub events_are : done.events ≡ length front.log

  -- all rounds of a run were made, and its front has not reached the end, over any ports
  pub record IsShortOver (disk : D → DiskState) (model : M) (end : ℕ) (plan : Plan)
      (old new : D) : Type 0 where
    pub front : World
    pub run : HasRun disk model end plan plan.rounds plan.rounds old new front
    pub early : front.time < end

  -- A run was asked to stop before it had made all its rounds, and its front has not reached the
  -- end, over any ports. Before this time everything is committed, and the log has these many events.
  pub record IsStoppedOver (disk : D → DiskState) (model : M) (end : ℕ) (plan : Plan) (old new : D)
      (time events : ℕ) : Type 0 where
    pub last : ℕ
    pub fewer : last < plan.rounds
    pub front : World
    pub run : HasRun disk model end plan last last old new front
    pub early : front.time < end
    pub time_is : time ≡ front.time
    pub events_are : events ≡ length front.log

  -- A session was opened on a disk, the plan's rounds were made, and a step of them was refused
  -- with this fault, over any ports.
  pub record HasStopped (disk : D → DiskState) (model : M) (end : ℕ) (plan : Plan) (old new : D)
      (fault : SessionFault) : Type 0 where
    pub first : Session M P D
    pub last : Session M P D
    pub same : (first.model ≡ model) × (first.end ≡ end)
    pub replayed : IsReplayedTo (meaning model) end (disk old).reads first.front
    pub rounds : ℕ
    pub final : ℕ
    pub some : (rounds ≤ final) × (final ≤ plan.rounds)
    pub refused : IsRefusedIn disk (AreRounds plan end final rounds) first last fault
    pub left : new ≡ last.log.disk

  -- why a run over ports in these states failed with this fault of a session: the session was not
  -- opened, or it refused a step
  abbrev pub SessionRefused : (D → DiskState) → M → ℕ → Plan → List PortState → D → D →
      SessionFault → Type 0
  SessionRefused disk model end plan ports old new fault =
      OpeningIsRefused (meaning model) end (disk old).reads ports
      ((disk old).failures < (disk new).failures) fault
      ⊎ HasStopped disk model end plan old new fault

  -- why a run over ports in these states did not reach its end, over any ports
  abbrev pub RunHasCause : (D → DiskState) → M → ℕ → Plan → List PortState → D → D → RunFault →
      Type 0
  RunHasCause disk model end plan ports old new (RefusedBySession fault) =
      SessionRefused disk model end plan ports old new fault
  RunHasCause disk model end plan ports old new Rounds = IsShortOver disk model end plan old new
  RunHasCause disk model end plan ports old new (Stopped time events) =
      IsStoppedOver disk model end plan old new time events
  RunHasCause disk model end plan ports old new NoMemory = Unit {0}

-- 4. Over faithful ports, or with judged commits

-- What a run trusts is faithful: its commits are judged, so that it trusts no node; or its ports
-- are faithful and run its model.
abbrev pub TrustsOnlyFaithful : Plan → Meaning → List PortState → Type 0
TrustsOnlyFaithful plan m ports = (plan.judged ≡ true) ⊎ AllFaithful m ports

-- the answers of moves made one after another
abbrev pub answers_of : Meaning → ℕ → List Move → System → List (Option Answer)
answers_of m end [] p = []
answers_of m end (k ∷ ks) p =
    answer_of m end k p ∷ answers_of m end ks (unwrap_or (move m end k p) p)

-- and what was in transit when each was made
abbrev pub transits_of : Meaning → ℕ → List Move → System → List (List Signed)
transits_of m end [] p = []
transits_of m end (k ∷ ks) p = p.transit ∷ transits_of m end ks (unwrap_or (move m end k p) p)

-- all rounds of a run from this image were made, with the answers of its moves and with what was in
-- transit, and its front has not reached the end
pub record IsUnfinished (m : Meaning) (end : ℕ) (plan : Plan) (image : List (List ℕ)) : Type 0 where
  pub made : List Made
  pub rounds_are : AreRoundsOfRun plan end plan.rounds plan.rounds made
  pub front : World
  pub driven : IsDrivenFrom m end plan.nodes image (moves_of made) front
  pub answers_are : map (λ (k : Made). Some k.answer) made
      ≡ answers_of m end (moves_of made) (opened m.lps plan.nodes driven.first)
  pub transits_are : map (λ (k : Made). k.transit) made
      ≡ transits_of m end (moves_of made) (opened m.lps plan.nodes driven.first)
  pub early : front.time < end
