use Rattle.std.proofs.Common.{sym}
use Rattle.std.proofs.lemmas.Bool.{and_parts}
use Rattle.gvt.proofs.Picking.{picks_within}
use Rattle.gvt.specs.Picks.{are_distinct, can_pick}
use Rattle.gvt.proofs.transit.chosen.Goals as goal

pub copied-requires : goal.copied-requires
copied-requires c =
    let transit = c.args.messages.now in
    let picks = c.args.picks.now in
    let good = and_parts (can_pick c.args.nodes c.args.node transit picks) (are_distinct picks) (sym c.if-not-mark.ensures.good) in
    picks_within c.args.nodes c.args.node transit picks good.0
