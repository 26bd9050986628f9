-- Budgets that follow what nodes report: if a node handles much more than is committed of it, most
-- of that is rolled back.
use Rattle.std.specs.Prelude.{Bool, ℕ, if◌then◌else◌, max, min, nat_le, ◌+◌, ◌-◌, ◌*◌, ◌/◌, ◌^◌}
use Rattle.runs.specs.declared.budgets.NodeBudget.{NodeBudget}
use Rattle.runs.specs.declared.rounds.Batch.{Batch}
use Rattle.runs.specs.declared.rounds.Batch.TheVariants.{Adjusting, Fixed}
use Rattle.gvt.specs.declared.Answer.{Answer}
use Rattle.gvt.specs.declared.Answer.TheVariants.{Taken}

-- a sum over takes, each of which subtracts an eighth before it adds its own number; it stops at
-- the largest number of 64 bits
abbrev pub sum_after : ℕ → ℕ → ℕ
sum_after sum more = min (sum - sum / 8 + more) (2 ^ 64 - 1)

-- before any take: as if each of many takes had handled 8 messages and reported them all
abbrev pub first_budget : NodeBudget
first_budget = record { reported = 64; ran = 64 }

-- after a take that handled `ran` messages and reported `reported` handlings
abbrev pub budget_after : NodeBudget → ℕ → ℕ → NodeBudget
budget_after b ran reported = record { reported = sum_after b.reported reported; ran = sum_after b.ran ran }

-- nearly all that was handled was reported: at least fifteen of sixteen
abbrev pub nearly_all_reported : NodeBudget → Bool
nearly_all_reported b = nat_le (15 * b.ran) (16 * b.reported)

-- all but few of what was handled was reported: at least 63 of 64
abbrev pub all_but_few_reported : NodeBudget → Bool
all_but_few_reported b = nat_le (63 * b.ran) (64 * b.reported)

-- How many messages the node may handle in its next turn if a round is expensive. An eighth of a
-- sum is the mean of the latest takes. If nearly all was reported, the mean of the reports is
-- doubled, otherwise an eighth is added. Two more, so that a node always handles its first message.
abbrev pub eager_messages : NodeBudget → ℕ
eager_messages b =
    let mean = b.reported / 8 in
    (if nearly_all_reported b then 2 * mean else mean + mean / 8) + 2

-- The same if a round costs less than the work that is rolled back: a quarter is added to the mean
-- of the reports if all but few was reported, otherwise an eighth is subtracted. One more, so that
-- a node always handles its first message.
abbrev pub careful_messages : NodeBudget → ℕ
careful_messages b =
    let mean = b.reported / 8 in
    (if all_but_few_reported b then mean + mean / 4 else mean - mean / 8) + 1

-- at most 65,536
abbrev pub messages_of : Bool → NodeBudget → ℕ
messages_of rounds_are_cheap b =
    min (if rounds_are_cheap then careful_messages b else eager_messages b) 65536

-- how many messages a parcel lets its node handle: the fixed batch, or by the node's budget, but at
-- most the largest of the batch, and that is at least one
abbrev pub messages_for : Batch → NodeBudget → ℕ
messages_for (Fixed messages) b = messages
messages_for (Adjusting most rounds_are_cheap) b =
    min (messages_of rounds_are_cheap b) (max most 1)

-- after this answer to a take
abbrev pub budget_answered : NodeBudget → Answer → NodeBudget
budget_answered b (Taken ran out fossils) = budget_after b ran fossils
budget_answered b answer = b
