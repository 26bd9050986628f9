use Rattle.std.proofs.Common.{sym}
use Rattle.std.specs.Prelude.{string_bytes}
use Rattle.circuit_program.specs.Waves.{IsWave, IsWaveOf}
use Rattle.circuit_program.proofs.Printed.{begun, printed}
use Rattle.circuit_program.proofs.waves.print_wave.Given as given
use Rattle.circuit_program.proofs.waves.print_wave.Goals as goal
use Rattle.circuit_program.proofs.waves.print_wave.Goals.{in-Some+in_ok-text-in-Some, in-None+in_ok-text-in-None}

is_wave : (g : given.Over) (c : goal.After-drop-of-4 g) → IsWave c.as_str.result.now
is_wave g c =
    let of = c.in_ok-of.of in
    let wave : IsWaveOf of.model of.end (string_bytes c.match-disk.text) = elim c.match-disk.branch [
      | in-Some+in_ok-text-in-Some w ↦ rw w.text-is w.in_ok-text-in-Some.ensures
      | in-None+in_ok-text-in-None w ↦ rw w.text-is w.in_ok-text-in-None.ensures
    ] in
    record {
      source = c.in_ok-of.ensures.file.0;
      circuit = of.model;
      end = of.end;
      file = c.in_ok-of.ensures.file.1;
      wave = rw c.as_str.ensures.value wave;
    }

pub returns-clause-ok : goal.returns-clause-ok
returns-clause-ok g c = printed c.as_str.result.now (is_wave g c) (g.O.Write.contents c.args.out.now) (g.O.Write.contents c.print.new.out) c.print.result c.print.ensures.written.all

pub returns-clause-err : goal.returns-clause-err
returns-clause-err g c = begun c.as_str.result.now (is_wave g c) (g.O.Write.contents c.args.out.now) (g.O.Write.contents c.print.new.out) _ c.print.result c.print.ensures.written.part
