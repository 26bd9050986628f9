use Rattle.std.proofs.Common.{codes, decimal, ◌++◌}
use Rattle.std.specs.Prelude.{string_bytes}
use Rattle.circuit.specs.Wave.{named}
use Rattle.circuit.proofs.Texts.{more, then_more}
use Rattle.circuit.proofs.waves.put_signal.Goals as goal

pub returns : goal.returns
returns c =
    let old = string_bytes c.args.text.now in
    let kind = codes "$var wire 1 " in
    let letter = c.args.letter.now in
    then_more old (kind ++ letter ++ decimal c.args.lp) (named c.args.name.now) (string_bytes c.put_named.new.text) c.put_named.result
    (more old (kind ++ letter) (decimal c.args.lp) (more old kind letter c.in_ok-put.ensures c.in_ok-put-2.ensures) c.in_ok-put_number.ensures) c.put_named.ensures
