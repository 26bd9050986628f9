use Rattle.std.proofs.Common.{◌≡◌, ◌+◌, ◌*◌, ◌-◌}
use Rattle.pictures.specs.Tallies.{bucket_within}
use Rattle.pictures.proofs.tallies.bucket_of.Given as goal

abbrev pub invariant-loop-halvings : goal.invariant-loop-halvings
invariant-loop-halvings l = bucket_within 56 l.value ≡ 128 * l.halvings + bucket_within (56 - l.halvings) l.rest
