use Rattle.std.proofs.Common.{◌∙◌, ap₂, arith, subst, sym}
use Rattle.eventkey.specs.Bag.{IsAscending}
use Rattle.queues.proofs.Splits.{spilt}
use Rattle.queues.specs.Split.{both}
use Rattle.queues.proofs.event_list.make_room.Goals as goal

pub returns-clause-same : goal.returns-clause-same
returns-clause-same c =
    ap₂ both c.remove.ensures.by_index.2 c.in_ok-add.ensures.added
    ∙ spilt c.args.near.now.items c.args.far.now c.index.result.now (omega arith) c.index.ensures c.requires.ascending

pub returns-clause-split : goal.returns-clause-split
returns-clause-split c =
    let same = ap₂ both c.remove.ensures.by_index.2 c.in_ok-add.ensures.added
    ∙ spilt c.args.near.now.items c.args.far.now c.index.result.now (omega arith) c.index.ensures c.requires.ascending in
    record { ascending = subst IsAscending (sym same) c.requires.ascending; some = λ _. omega arith; few = omega (arith, c.requires.few) }
