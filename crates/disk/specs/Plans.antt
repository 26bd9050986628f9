-- The operations of a disk in memory that fail by its plan.
use Rattle.std.specs.Prelude.{◌+◌, ◌||◌, ℕ, Bool, false, Option, Some, None, min, eqb}
use Rattle.std.specs.Prelude.{if◌then◌else◌}
use Rattle.disk.specs.declared.plan.DiskPlan.{DiskPlan}

-- a plan, the numbers of operations and of writes so far, whether the write at which the disk stops
-- was among them, and the number of failed operations
pub record Counts : Type 0 where
  pub plan : DiskPlan
  pub operations : ℕ
  pub writes : ℕ
  pub stopped : Bool
  pub failures : ℕ

-- before the first operation
abbrev pub started : DiskPlan → Counts
started plan = record { plan = plan; operations = 0; writes = 0; stopped = false; failures = 0 }

-- the next count, which saturates at 2^64 - 1
abbrev pub one_more : ℕ → ℕ
one_more count = min (count + 1) 18446744073709551615

-- whether a failure is planned at this number
abbrev pub is_at : Option ℕ → ℕ → Bool
is_at None number = false
is_at (Some planned) number = eqb planned number

-- whether the next operation fails, if it is not a write: it has the planned number, or comes after
-- the stop
abbrev pub fails : Counts → Bool
fails now = now.stopped || is_at now.plan.fail now.operations

-- whether the next operation fails, if it is a write: for these reasons, or because the disk stops
-- at it
abbrev pub write_fails : Counts → Bool
write_fails now = (now.stopped || is_at now.plan.stop now.writes)
    || is_at now.plan.fail now.operations

-- the counts after an operation that is not a write
abbrev pub operation_counted : Counts → Counts
operation_counted now = record {
  plan = now.plan;
  operations = one_more now.operations;
  writes = now.writes;
  stopped = now.stopped;
  failures = now.failures + (if fails now then 1 else 0);
}

-- the counts after a write
abbrev pub write_counted : Counts → Counts
write_counted now = record {
  plan = now.plan;
  operations = one_more now.operations;
  writes = one_more now.writes;
  stopped = now.stopped || is_at now.plan.stop now.writes;
  failures = now.failures + (if write_fails now then 1 else 0);
}
