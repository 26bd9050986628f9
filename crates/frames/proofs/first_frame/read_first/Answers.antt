use Rattle.std.proofs.Common.{◌<◌, ◌^◌, sym, subst}
use Rattle.std.proofs.lemmas.Bool.{and_left, and_right, lt-leb, ne_eqb}
use Rattle.frames.proofs.Hellos.{IsHead, all_given, first_fault, first_hello, other_kind, other_short}
use Rattle.frames.proofs.first_frame.read_first.Goals as goal
use Rattle.frames.proofs.first_frame.read_first.Goals.{then-came-lt5-via-then-came-lt5, then-came-lt5-via-else-came-lt5+then-head-ne-HELLO, then-came-lt5-via-else-came-lt5+else-head-ne-HELLO+then-length-gt-MOST_BYTES}

pub returns-then-came-lt5-clause-known : goal.returns-then-came-lt5-clause-known
returns-then-came-lt5-clause-known g c =
    let five = c.fill.auto.buffer in
    let given = c.in_ok-came.ensures.bytes in
    elim c.then-came-lt5.branch [
      | then-came-lt5-via-then-came-lt5 w ↦
          other_short _ _ c.fill.new.buffer c.in_ok-came.came five given w.if-came-lt5.true (c.in_ok-came.ensures.end (subst (λ k. c.in_ok-came.came < k) (sym five) w.if-came-lt5.true))
      | then-came-lt5-via-else-came-lt5+then-head-ne-HELLO w ↦
          other_kind _ _ c.fill.new.buffer c.in_ok-came.came five given w.if-came-lt5.false (and_left _ _ (ne_eqb _ 16 w.if-head-ne-HELLO.true))
      | then-came-lt5-via-else-came-lt5+else-head-ne-HELLO+then-length-gt-MOST_BYTES w ↦
          other_kind _ _ c.fill.new.buffer c.in_ok-came.came five given w.if-came-lt5.false (and_right _ _ (lt-leb _ (2 ^ 24) (subst (λ n. 2 ^ 24 < n) c.read_u32-length.ensures w.if-length-gt-MOST_BYTES.true)))
    ]

pub returns-in_err-read_body-clause-known : goal.returns-in_err-read_body-clause-known
returns-in_err-read_body-clause-known g c =
    let head : IsHead _ _ c.fill.new.buffer c.read_u32-length.result = record {
      five = c.fill.auto.buffer;
      given = all_given _ _ c.fill.new.buffer c.in_ok-came.came c.fill.auto.buffer c.if-came-lt5.false c.in_ok-came.ensures.bytes;
      kind = c.if-head-ne-HELLO.false;
      size = c.read_u32-length.ensures;
      fits = c.if-length-gt-MOST_BYTES.false;
    } in
    first_fault _ _ _ _ head _ c.in_err-read_body.field-0.0 c.from_residual-in_err-read_body.result c.from_residual-in_err-read_body.ensures.1 c.in_err-read_body.ensures

pub returns-clause-known : goal.returns-clause-known
returns-clause-known g c =
    let head : IsHead _ _ c.fill.new.buffer c.read_u32-length.result = record {
      five = c.fill.auto.buffer;
      given = all_given _ _ c.fill.new.buffer c.in_ok-came.came c.fill.auto.buffer c.if-came-lt5.false c.in_ok-came.ensures.bytes;
      kind = c.if-head-ne-HELLO.false;
      size = c.read_u32-length.ensures;
      fits = c.if-length-gt-MOST_BYTES.false;
    } in
    first_hello _ _ _ _ head _ c.in_ok-read_body.field-0 c.in_ok-read_body.ensures
