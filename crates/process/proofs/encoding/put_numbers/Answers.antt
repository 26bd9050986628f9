use Rattle.std.proofs.Common.{◌≡◌, ◌∙◌, ◌+◌, ap, arith, length-set, sym, take, ℕ}
use Rattle.eventkey.specs.Reading.{number_at}
use Rattle.process.proofs.ReportBytes.{put_more, with_done, with_fail, with_on}
use Rattle.process.proofs.encoding.put_numbers.Goals as goal

pub returns-in-None : goal.returns-in-None
returns-in-None c =
    with_fail (λ xs. take c.loop-place.place c.loop-place.words ≡ xs) (λ xs. take c.args.count c.loop-place.words ≡ xs) (number_at 8) c.args.count c.args.bytes.now c.loop-place.place c.loop-place.rest.now c.loop-place.invariant.read c.loop-place-test.true
    (sym c.in-None.ensures)

pub loop-place-preserved : goal.loop-place-preserved
loop-place-preserved c =
    let few = c.requires in
    let more = c.loop-place-test.true in
    record {
      read =
          with_on (λ xs. take c.loop-place.place c.loop-place.words ≡ xs) (λ xs. take c.loop-place.place c.loop-place.words ≡ xs) (number_at 8) c.args.count c.args.bytes.now c.loop-place.place c.loop-place.rest.now c.loop-place.invariant.read c.in-Some.read.0
          c.in-Some.read.1.now c.loop-place-test.true (sym c.in-Some.ensures) (λ xs. take (c.loop-place.place + 1) _ ≡ xs) (λ h. put_more c.loop-place.words c.loop-place.invariant.read.0 c.loop-place.place c.in-Some.read.0 (omega (arith, few, more, c.loop-place.invariant.many)) h);
      many = length-set c.loop-place.words c.loop-place.place c.in-Some.read.0 ∙ c.loop-place.invariant.many;
    }

pub returns : goal.returns
returns c =
    let few = c.requires in
    let all = c.loop-place-test.false in
    let at_end = c.loop-place.auto.place-end in
    with_done (λ xs. take c.loop-place.place c.loop-place.words ≡ xs) (λ xs. take c.args.count c.loop-place.words ≡ xs) (number_at 8) c.args.count c.args.bytes.now c.loop-place.place c.loop-place.rest.now c.loop-place.invariant.read all
    (λ h. ap (λ (n : ℕ). take n c.loop-place.words) (omega (arith, all, at_end)) ∙ h)
