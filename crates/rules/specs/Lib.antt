-- For callers
pub mod Rules  -- what a model that is described by rules means
pub mod Effects  -- what statements do
pub mod Values  -- the value of an expression
pub mod Elements  -- arrays in the state
pub mod ElementLaws  -- what a write to an array leaves
pub mod Distributions  -- the distributions, as functions of drawn words
pub mod Quantiles  -- the tables of which they are made
pub mod Costs  -- the cost of a rule on any way through it
pub mod Limits  -- the limits of a rule, and their faults
pub mod RuleLaws  -- every such model obeys the laws of a model
