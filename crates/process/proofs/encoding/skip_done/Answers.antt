use Rattle.std.proofs.Common.{arith, sym}
use Rattle.process.proofs.Formats.{all_read, no_number, too_great}
use Rattle.process.proofs.encoding.skip_done.Goals as goal

pub returns-in_default-read_u64 : goal.returns-in_default-read_u64
returns-in_default-read_u64 c =
    no_number c.args.bytes.now c.in-Some.field-0-0 c.in-Some.rest.now (sym c.in-Some.ensures) c.in-Some-skip_sent_list.rest.now c.in-Some-skip_sent_list.ensures c.in-Some-skip_words.rest.now c.in-Some-skip_words.ensures
    (sym c.in_default-read_u64.ensures)

pub returns-then-number-gt-MOST_NUMBER : goal.returns-then-number-gt-MOST_NUMBER
returns-then-number-gt-MOST_NUMBER c =
    let great = c.if-number-gt-MOST_NUMBER.true in
    too_great c.args.bytes.now c.in-Some.field-0-0 c.in-Some.rest.now (sym c.in-Some.ensures) c.in-Some-skip_sent_list.rest.now c.in-Some-skip_sent_list.ensures c.in-Some-skip_words.rest.now c.in-Some-skip_words.ensures
    c.in-Some-read_u64.number c.in-Some-read_u64.rest.now (sym c.in-Some-read_u64.ensures) (omega (arith, great))

pub returns : goal.returns
returns c =
    let few = c.if-number-gt-MOST_NUMBER.false in
    all_read c.args.bytes.now c.in-Some.field-0-0 c.in-Some.rest.now (sym c.in-Some.ensures) c.in-Some-skip_sent_list.rest.now c.in-Some-skip_sent_list.ensures c.in-Some-skip_words.rest.now c.in-Some-skip_words.ensures
    c.in-Some-read_u64.number c.in-Some-read_u64.rest.now (sym c.in-Some-read_u64.ensures) (omega (arith, few))
