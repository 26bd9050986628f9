use Rattle.std.proofs.Common.{refl, sym}
use Rattle.toml.specs.View.{table_view}
use Rattle.circuit.proofs.Right.{circuit_right, end_is, gates_are, names_are, netlist_is, no_others, wires_are}
use Rattle.circuit.proofs.circuit_file.circuit_of.Goals as goal

pub returns-in-Err-clause-wrong : goal.returns-in-Err-clause-wrong
returns-in-Err-clause-wrong c = λ mistake e none. end_is (table_view c.args.table.now) none (c.in-Err.ensures.err refl)

pub returns-in-Ok-None-clause-wrong : goal.returns-in-Ok-None-clause-wrong
returns-in-Ok-None-clause-wrong c = λ mistake e none.
    gates_are (table_view c.args.table.now) none (sym (rw c.in-Ok-None.field-0-is at c.in-Ok-None.ensures))

pub returns-in-Ok-None-wires_at-clause-wrong : goal.returns-in-Ok-None-wires_at-clause-wrong
returns-in-Ok-None-wires_at-clause-wrong c = λ mistake e none.
    wires_are (table_view c.args.table.now) none (sym (rw c.in-Ok-None-wires_at.field-0-is at c.in-Ok-None-wires_at.ensures))

pub returns-in-Ok-None-names_at-clause-wrong : goal.returns-in-Ok-None-names_at-clause-wrong
returns-in-Ok-None-names_at-clause-wrong c = λ mistake e none.
    names_are (table_view c.args.table.now) none (sym (rw c.in-Ok-None-names_at.field-0-is at c.in-Ok-None-names_at.ensures))

pub returns-in-Err-only-clause-wrong : goal.returns-in-Err-only-clause-wrong
returns-in-Err-only-clause-wrong c = λ mistake e none. c.in-Err-only.ensures.err refl (no_others (table_view c.args.table.now) none)

pub returns-in-None-clause-wrong : goal.returns-in-None-clause-wrong
returns-in-None-clause-wrong c = λ mistake e none.
    c.in-None.ensures.none refl 0 (netlist_is (table_view c.args.table.now) none c.in-Ok-Some.gates.items c.in-Ok-Some-wires_at.wires.items
    (sym (rw c.in-Ok-Some.field-0-is at c.in-Ok-Some.ensures)) (sym (rw c.in-Ok-Some-wires_at.field-0-is at c.in-Ok-Some-wires_at.ensures)))

pub returns-in-None-clause-bad : goal.returns-in-None-clause-bad
returns-in-None-clause-bad c = λ mistake e model end is.
    c.in-None.ensures.none refl 0 (netlist_is (table_view c.args.table.now) (circuit_right (table_view c.args.table.now) model end is) c.in-Ok-Some.gates.items c.in-Ok-Some-wires_at.wires.items
    (sym (rw c.in-Ok-Some.field-0-is at c.in-Ok-Some.ensures)) (sym (rw c.in-Ok-Some-wires_at.field-0-is at c.in-Ok-Some-wires_at.ensures)))
