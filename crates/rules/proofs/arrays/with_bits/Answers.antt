use Rattle.std.proofs.Common.{arith, ◌<◌}
use Rattle.rules.specs.ElementLaws.{inner_fits, inner_is, made_fits, shifted_is}
use Rattle.rules.proofs.arrays.with_bits.Goals as goal

pub overflow_add-inner : goal.overflow_add-inner
overflow_add-inner c =
    let lt : c.args.bits < 64 = omega (arith, c.requires.within, c.if-bits-eq64.false) in
    let is = inner_is c.args.word c.args.shift c.args.bits c.args.number c.min.result c.ranges.word.fits lt c.min.ensures in
    omega (arith, is, inner_fits c.args.word c.args.shift c.args.bits c.args.number c.requires.within c.ranges.word.fits)

pub overflow_add-result : goal.overflow_add-result
overflow_add-result c =
    let lt : c.args.bits < 64 = omega (arith, c.requires.within, c.if-bits-eq64.false) in
    let less : c.args.shift < 64 = omega (arith, c.requires.within, c.requires.some) in
    let is = inner_is c.args.word c.args.shift c.args.bits c.args.number c.min.result c.ranges.word.fits lt c.min.ensures in
    let whole = shifted_is c.args.word c.args.shift c.args.bits c.args.number _ c.requires.within less c.ranges.word.fits is in
    omega (arith, whole, made_fits c.args.word c.args.shift c.args.bits c.args.number c.requires.within c.ranges.word.fits)

pub returns : goal.returns
returns c =
    let lt : c.args.bits < 64 = omega (arith, c.requires.within, c.if-bits-eq64.false) in
    let less : c.args.shift < 64 = omega (arith, c.requires.within, c.requires.some) in
    let is = inner_is c.args.word c.args.shift c.args.bits c.args.number c.min.result c.ranges.word.fits lt c.min.ensures in
    shifted_is c.args.word c.args.shift c.args.bits c.args.number _ c.requires.within less c.ranges.word.fits is
