use Rattle.std.proofs.Common.{◌∙◌}
use Rattle.std.specs.Option.{option_map}
use Rattle.disk.specs.FileDisks.{disk_of_file}
use Rattle.model.specs.Origins.{continued}
use Rattle.program.proofs.Calls.{continued_as}
use Rattle.eventkey.proofs.Writers.{at_err}
use Rattle.program.proofs.Printed.{carried_begun, on_command}
use Rattle.program.proofs.making.extend_on.Goals as goal

pub returns-clause-err : goal.returns-clause-err
returns-clause-err g c =
    at_err c.in-Err.is (on_command c.extend-ended.result.outcome
    (λ e. carried_begun g.M.Model.meaning g.M.Described.says c.in_ok-of.ensures.file.0 c.in_ok-of.of.model c.in_ok-of.of.end c.in_ok-of.ensures.file.1 c.of-disk.result.origin
    (continued (g.M.Model.meaning c.new.result.model.now) (option_map (λ o. o.now) c.new.result.origin)) (disk_of_file c.of-disk.result.disk) _
    (c.of-disk.ensures.begins, continued_as g.M.Model.meaning c.new.ensures.model (c.new.ensures.origin ∙ c.as_ref.ensures.value)) _ _ (c.extend-ended.ensures.output e))
    (λ f e n. c.extend-ended.ensures.unwritten f e n))
