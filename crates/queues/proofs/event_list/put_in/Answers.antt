use Rattle.std.proofs.Common.{◌∙◌, ap, arith, reverse, subst, sym}
use Rattle.std.specs.List.{AllByRecursion as Every}
use Rattle.eventkey.proofs.Lists.{IsAscending-left}
use Rattle.eventkey.specs.Bag.{IsAscending, add}
use Rattle.eventkey.specs.Message.{IsAtMost}
use Rattle.queues.proofs.Splits.{goes_far, goes_near, near_enough, nothing_far}
use Rattle.queues.specs.Split.{IsSplit, both}
use Rattle.queues.proofs.event_list.put_in.Goals as goal
use Rattle.queues.proofs.event_list.put_in.Goals.{else-len-gt0-via-then-len-gt0+else-is_before, else-len-gt0-via-else-len-gt0}

pub returns-then-is_before-clause-split : goal.returns-then-is_before-clause-split
returns-then-is_before-clause-split c =
    let near = c.make_room.new.near.items in
    let far = c.make_room.new.far in
    let split = c.make_room.ensures.split in
    let goes = goes_far near far c.index.result.now (split.some (omega (arith, c.if-len-gt0.true, c.len.ensures))) c.index.ensures split.ascending c.args.message (sym c.is_before.ensures ∙ c.if-is_before.true) split.few in
    subst (IsSplit near) (sym c.in_ok-add.ensures.added) goes.0

pub returns-then-is_before-clause-added : goal.returns-then-is_before-clause-added
returns-then-is_before-clause-added c =
    let near = c.make_room.new.near.items in
    let far = c.make_room.new.far in
    let split = c.make_room.ensures.split in
    let goes = goes_far near far c.index.result.now (split.some (omega (arith, c.if-len-gt0.true, c.len.ensures))) c.index.ensures split.ascending c.args.message (sym c.is_before.ensures ∙ c.if-is_before.true) split.few in
    ap (both near) c.in_ok-add.ensures.added ∙ (goes.1 ∙ ap (add c.args.message) c.make_room.ensures.same)

pub put-requires-clause-ascending : goal.put-requires-clause-ascending
put-requires-clause-ascending c =
    subst (λ xs. IsAscending (reverse xs)) (sym c.reserve.ensures.items)
    (IsAscending-left (reverse c.make_room.new.near.items) c.make_room.new.far c.make_room.ensures.split.ascending)

pub returns-clause-split : goal.returns-clause-split
returns-clause-split c =
    let near = c.make_room.new.near.items in
    let far = c.make_room.new.far in
    let split = c.make_room.ensures.split in
    let most : Every (IsAtMost c.args.message) far = elim c.else-len-gt0.branch [
      | else-len-gt0-via-then-len-gt0+else-is_before w ↦ near_enough near far w.index.result.now (split.some (omega (arith, w.if-len-gt0.true, c.len.ensures))) w.index.ensures split.ascending c.args.message (sym w.is_before.ensures ∙ w.if-is_before.false)
      | else-len-gt0-via-else-len-gt0 w ↦ nothing_far c.args.message far (omega arith)
    ] in
    (goes_near c.args.message near far c.put.new.bag.items split.ascending most (c.put.ensures ∙ ap (λ xs. add c.args.message (reverse xs)) c.reserve.ensures.items) c.in_ok-make_room.ensures.room).0

pub returns-clause-added : goal.returns-clause-added
returns-clause-added c =
    let near = c.make_room.new.near.items in
    let far = c.make_room.new.far in
    let split = c.make_room.ensures.split in
    let most : Every (IsAtMost c.args.message) far = elim c.else-len-gt0.branch [
      | else-len-gt0-via-then-len-gt0+else-is_before w ↦ near_enough near far w.index.result.now (split.some (omega (arith, w.if-len-gt0.true, c.len.ensures))) w.index.ensures split.ascending c.args.message (sym w.is_before.ensures ∙ w.if-is_before.false)
      | else-len-gt0-via-else-len-gt0 w ↦ nothing_far c.args.message far (omega arith)
    ] in
    (goes_near c.args.message near far c.put.new.bag.items split.ascending most (c.put.ensures ∙ ap (λ xs. add c.args.message (reverse xs)) c.reserve.ensures.items) c.in_ok-make_room.ensures.room).1
    ∙ ap (add c.args.message) c.make_room.ensures.same
