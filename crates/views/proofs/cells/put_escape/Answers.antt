use Rattle.std.proofs.Common.{false, arith}
use Rattle.std.proofs.lemmas.Fmt.{hex_byte}
use Rattle.views.proofs.cells.put_escape.Goals as goal

pub returns : goal.returns
returns c =
    let h = rw (c.laid_out.ensures, c.in_radix.ensures, c.from-code.ensures) at c.write.ensures.bytes in
    rw (hex_byte false c.args.letter (omega arith)) at h
