use Rattle.std.proofs.Common.{arith, refl}
use Rattle.pictures.proofs.Columns.{all_set, set_more}
use Rattle.pictures.proofs.watched.set_levels.Goals as goal

pub loop-place-preserved : goal.loop-place-preserved
loop-place-preserved c = set_more c.args.columns.now c.args.time c.args.state.now c.args.levels.now c.loop-place.levels _ c.loop-place.place c.index-columns-place.result _ _ c.set.new.self c.number.result c.loop-place.invariant (omega arith) (omega arith) c.index-columns-place.is refl c.number.ensures c.set.ensures refl

pub returns-then-levels-place : goal.returns-then-levels-place
returns-then-levels-place c = all_set c.args.columns.now c.args.time c.args.state.now c.args.levels.now c.loop-place.levels c.loop-place.place c.loop-place.invariant (λ k there inside. omega (arith, c.loop-place.invariant.long))

pub returns : goal.returns
returns c = all_set c.args.columns.now c.args.time c.args.state.now c.args.levels.now c.loop-place.levels c.loop-place.place c.loop-place.invariant (λ k there inside. omega arith)
