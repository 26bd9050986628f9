use Rattle.std.proofs.Common.{codes, map, ◌++◌}
use Rattle.std.specs.Prelude.{string_bytes}
use Rattle.circuit.specs.Wave.{name_text}
use Rattle.circuit.proofs.Texts.{more, then_more}
use Rattle.circuit.proofs.waves.begin_gate.Goals as goal

pub returns : goal.returns
returns c =
    let old = string_bytes c.args.text.now in
    let name = name_text (map string_bytes c.args.names.now) c.args.lp in
    then_more old (codes "$scope module " ++ name) (codes " $end\n") (string_bytes c.put-2.new.text) c.put-2.result
    (more old (codes "$scope module ") name c.in_ok-put.ensures c.in_ok-put_name.ensures) c.put-2.ensures
