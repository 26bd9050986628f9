use Rattle.std.proofs.Common.{Err, ap, sym, ◌∙◌}
use Rattle.circuit.specs.CircuitFile.{IsCircuitTable, circuit_wrong}
use Rattle.circuit.specs.declared.circuit.Circuit.{Circuit}
use Rattle.circuit.proofs.Right.{circuit_right}
use Rattle.texts.proofs.Right.{none_reported, some_found}
use Rattle.toml.specs.View.{table_view}
use Rattle.circuit.proofs.circuit_file.CircuitDescribed.mistakes.Goals as goal

pub returns-in-Ok : goal.returns-in-Ok
returns-in-Ok c =
    let is = c.in-Ok.ensures.ok in
    record {
      reported = c.new.ensures ∙ sym (circuit_right (table_view c.args.table.now) c.in-Ok._file.0 c.in-Ok._file.1 is);
      none = λ none. (c.in-Ok._file.0, c.in-Ok._file.1, is);
      some = λ model end is. c.new.ensures;
    }

pub returns-in-Err-BadModel : goal.returns-in-Err-BadModel
returns-in-Err-BadModel c =
    let table = table_view c.args.table.now in
    record {
      reported = c.mistakes_of.ensures;
      none = none_reported c.mistakes_of.result (circuit_wrong table) _ c.mistakes_of.ensures
          (λ none. absurd (c.in-Err-BadModel.ensures.wrong c.in-Err-BadModel._mistake (ap Err c.in-Err-BadModel.field-0-is) none));
      some = some_found c.mistakes_of.result (circuit_wrong table) Circuit (IsCircuitTable table) c.mistakes_of.ensures (circuit_right table);
    }
