use Rattle.std.proofs.Common.{map}
use Rattle.views.specs.Tables.{field_of}
use Rattle.views.proofs.Tabled.{one_row}
use Rattle.views.proofs.tables.text_of_row.Goals as goal

pub returns : goal.returns
returns c =
    let names = rw (← c.as_slice.ensures.value) at c.in_ok-names.ensures in
    let tail = rw c.tail_of.ensures at c.in_ok-push_str.ensures.bytes in
    one_row c.args.format (map field_of c.args.row.now) _ _ _ _ names c.in_ok-text.ensures c.in_ok-put_row.ensures tail
