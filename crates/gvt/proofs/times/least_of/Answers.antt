use Rattle.std.proofs.Common.{take, ◌∷◌, []}
use Rattle.std.proofs.lemmas.List.{take_more}
use Rattle.gvt.proofs.Floors.{low_in-append}
use Rattle.gvt.proofs.times.least_of.Goals as goal

pub loop-one-preserved : goal.loop-one-preserved
loop-one-preserved c =
    let signed = c.args.signed.now in
    let index = c.loop-one.one-index in
    let one = c.one-item.result in
    rw (take_more signed index one c.loop-one-test.true, ← c.one-item.is, low_in-append (take index signed) (one ∷ []), ← c.loop-one.invariant, ← c.time.ensures) c.lesser-least.ensures
