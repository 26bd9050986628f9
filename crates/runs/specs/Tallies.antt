-- What a run counts, and how that follows from the steps that it made.
use Rattle.std.specs.Prelude.{List, None, Option, get_or, length, min, replicate, ℕ, ◌+◌, ◌-◌, ◌^◌, ◌≡◌}
use Rattle.runs.specs.Budgets.{first_budget}
use Rattle.runs.specs.Driver.{AreBudgeted, AreCounts, Made, budgets_after, commits_in, handled_of}
use Rattle.runs.specs.Driver.{least_answered, outstanding_after, reported_since}
use Rattle.runs.specs.declared.budgets.NodeBudget.{NodeBudget}
use Rattle.runs.specs.declared.rounds.Batch.{Batch}
use Rattle.runs.specs.declared.rounds.Plan.{Plan}
use Rattle.runs.specs.declared.tally.Tally.{Tally}
use Rattle.runs.specs.declared.tally.Turn.{Turn}
use Rattle.gvt.specs.declared.Answer.{Answer}
use Rattle.gvt.specs.declared.Answer.TheVariants.{Taken}

-- the count of a node after the answer to its take
abbrev pub handled_after : ℕ → Answer → ℕ
handled_after count (Taken ran out fossils) = min (count + ran) (2 ^ 64 - 1)
handled_after count answer = count

-- the count of each node goes on from the number that it handled before these steps
abbrev pub AreCounted : List ℕ → List ℕ → List Made → Type 0
AreCounted old new made = (node before : ℕ) → get_or old node 0 ≡ min before (2 ^ 64 - 1) →
    get_or new node 0 ≡ min (before + handled_of node made) (2 ^ 64 - 1)

-- each list has an entry for each of this many nodes
pub record IsSized (nodes : ℕ) (tally : Tally) : Type 0 where
  pub budgets : length tally.budgets.items ≡ nodes
  pub outstanding : length tally.outstanding.items ≡ nodes
  pub turns : length tally.turns.items ≡ nodes
  pub handled : length tally.handled_per_node.items ≡ nodes

-- The count over these steps: the number of events still to be reported before a commit is due,
-- given how many were reported since the last one, the number of commits made, the floors of the
-- outstanding parcels, the budget of each node, which each parcel to it has, and the number of
-- messages that each node handled.
pub record IsTallied (plan : Plan) (old new : Tally) (made : List Made) : Type 0 where
  pub events_until_commit : (reported : ℕ) → old.events_until_commit ≡ plan.commit_every - reported →
      new.events_until_commit ≡ plan.commit_every - reported_since reported made
  pub commits : new.commits ≡ old.commits + commits_in made
  pub outstanding : new.outstanding.items ≡ outstanding_after old.outstanding.items made
  pub budgets : new.budgets.items ≡ budgets_after old.budgets.items made
  pub budgeted : AreBudgeted plan.batch old.budgets.items made
  pub handled : AreCounted old.handled_per_node.items new.handled_per_node.items made

-- these steps report no events, and none of them is a commit, a post, or the take of a node
pub record CountsNothing (made : List Made) : Type 0 where
  pub reported : (reported : ℕ) → reported_since reported made ≡ reported
  pub commits : commits_in made ≡ 0
  pub outstanding : (outstanding : List (Option ℕ)) →
      outstanding_after outstanding made ≡ outstanding
  pub budgets : (budgets : List NodeBudget) → budgets_after budgets made ≡ budgets
  pub budgeted : (batch : Batch) (budgets : List NodeBudget) → AreBudgeted batch budgets made
  pub handled : (node : ℕ) → handled_of node made ≡ 0

-- the count after these steps, if they are all that were made
pub record IsTallyOf (plan : Plan) (tally : Tally) (made : List Made) : Type 0 where
  pub events_until_commit : tally.events_until_commit
      ≡ plan.commit_every - reported_since 0 made
  pub commits : tally.commits ≡ commits_in made
  pub outstanding : tally.outstanding.items ≡ outstanding_after (replicate plan.nodes None) made
  pub budgets : tally.budgets.items ≡ budgets_after (replicate plan.nodes first_budget) made
  pub budgeted : AreBudgeted plan.batch (replicate plan.nodes first_budget) made
  pub handled : AreCounts tally.handled_per_node.items made

-- steps of this shape within a round, their count, and the least floor answered in it
pub record Tallied (plan : Plan) (Shape : List Made → Type 0) (old new : Tally)
    (made : List Made) : Type 0 where
  pub shape : Shape made
  pub tally : IsTallied plan old new made
  pub floor : new.floor ≡ least_answered old.floor old.outstanding.items made

-- a turn with the answer to its take
abbrev pub turn_answered : Turn → Answer → Turn
turn_answered turn (Taken ran out fossils) =
    record turn { handled = ran; sent = out; reported = fossils }
turn_answered turn answer = turn
