-- The limits of a rule: at most 8 sends, 14 draws and 65,536 steps on any way through it.
use Rattle.std.specs.Prelude.{◌≤◌, ◌<◌, List}
use Rattle.rules.specs.Costs.{cost_of_all}
use Rattle.rules.specs.declared.limits.Limit.{Limit}
use Rattle.rules.specs.declared.limits.Limit.TheVariants.{Sends, Draws, Steps}
use Rattle.rules.specs.declared.limits.RulesFault.{RulesFault}
use Rattle.rules.specs.declared.limits.RulesFault.TheVariants.{Start, Handle}
use Rattle.rules.specs.declared.limits.TheConstants.{MAX_SENDS, MAX_DRAWS, MAX_STEPS}
use Rattle.rules.specs.declared.tree.Statement.{Statement}

-- a rule within all limits
pub record IsWithin (rule : List Statement) : Type 0 where
  pub sends : cost_of_all Sends rule ≤ MAX_SENDS
  pub draws : cost_of_all Draws rule ≤ MAX_DRAWS
  pub steps : cost_of_all Steps rule ≤ MAX_STEPS

-- this is the first limit that a rule exceeds: sends, then draws, then steps
abbrev pub Exceeds : Limit → List Statement → Type 0
Exceeds Sends rule = MAX_SENDS < cost_of_all Sends rule
Exceeds Draws rule =
    (cost_of_all Sends rule ≤ MAX_SENDS) × (MAX_DRAWS < cost_of_all Draws rule)
Exceeds Steps rule =
    (cost_of_all Sends rule ≤ MAX_SENDS) × (cost_of_all Draws rule ≤ MAX_DRAWS)
    × (MAX_STEPS < cost_of_all Steps rule)

-- the fault of two rules: the rule for the start counts first
abbrev pub IsFault : RulesFault → List Statement → List Statement → Type 0
IsFault (Start limit) start handle = Exceeds limit start
IsFault (Handle limit) start handle = IsWithin start × Exceeds limit handle
