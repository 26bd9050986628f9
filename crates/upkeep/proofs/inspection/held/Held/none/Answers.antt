use Rattle.std.proofs.Common.{ap, length, ◌∙◌}
use Rattle.std.specs.Prelude.{replicate}
use Rattle.std.proofs.lemmas.List.{length-map, length-replicate}
use Rattle.upkeep.proofs.HeldSectors.{none_items, none_held}
use Rattle.upkeep.proofs.inspection.held.Held.none.Goals as goal

pub returns-clause-items : goal.returns-clause-items
returns-clause-items c = none_items c.args.count c.in_ok-places.places.items _ (replicate 512 0) c.in_ok-places.ensures c.in_ok-kept.ensures.items

pub returns-clause-held : goal.returns-clause-held
returns-clause-held c = none_held c.args.count c.in_ok-places.places.items c.in_ok-places.ensures

pub returns-clause-count : goal.returns-clause-count
returns-clause-count c = length-map c.in_ok-places.places.items _ ∙ ap length c.in_ok-places.ensures ∙ length-replicate c.args.count 0
