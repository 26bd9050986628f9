use Rattle.std.proofs.Common.{rules, drop, ◌+◌, arith, Some}
use Rattle.std.proofs.lemmas.Str.Pattern.{split_parts}
use Rattle.eventkey.proofs.Writers.{writes_broken, written_next}
use Rattle.pictures.specs.Filled.{filled}
use Rattle.pictures.proofs.Holes.{filled-last, filled-next, filled-whole}
use Rattle.pictures.proofs.Pieces.{writes_last}
use Rattle.pictures.proofs.filled.write_filled.Goals as goal

pub returns-in_default : goal.returns-in_default
returns-in_default g c =
    let whole = rw c.in_default.is at (split_parts 36 c.loop-number.rest.now c.split_once.result c.split_once.ensures.cases (omega arith)) in
    writes_last c.write_text.result c.loop-number.rest.now c.loop-number.invariant.written
    (filled-whole c.loop-number.rest.now (drop c.loop-number.number-index c.args.numbers.now) whole) c.write_text.ensures

pub returns-in_err-write_number : goal.returns-in_err-write_number
returns-in_err-write_number g c =
    let parts = split_parts 36 c.loop-number.rest.now (Some (c.in-Some.before, c.in-Some.after)) c.in-Some.ensures.cases (omega arith) in
    writes_broken (filled c.in-Some.after.now (drop (c.loop-number.number-index + 1) c.args.numbers.now)) c.from_residual.result c.loop-number.invariant.written
    (filled-next c.loop-number.rest.now c.in-Some.before.now c.in-Some.after.now c.args.numbers.now c.loop-number.number-index parts.0 parts.1 (omega arith))
    c.write_number.ensures c.in_err-write_number.was c.from_residual.ensures.0

pub loop-number-preserved : goal.loop-number-preserved
loop-number-preserved g c =
    let parts = split_parts 36 c.loop-number.rest.now (Some (c.in-Some.before, c.in-Some.after)) c.in-Some.ensures.cases (omega arith) in
    record {
      text = search rules;
      written = written_next (filled c.in-Some.after.now (drop (c.loop-number.number-index + 1) c.args.numbers.now)) c.loop-number.invariant.written
          (filled-next c.loop-number.rest.now c.in-Some.before.now c.in-Some.after.now c.args.numbers.now c.loop-number.number-index parts.0 parts.1 (omega arith))
          c.write_number.ensures c.in_ok-write_number.was;
    }

pub returns : goal.returns
returns g c =
    writes_last c.write_text-2.result c.loop-number.rest.now c.loop-number.invariant.written
    (filled-last c.loop-number.rest.now c.args.numbers.now c.loop-number.number-index (omega arith)) c.write_text-2.ensures
