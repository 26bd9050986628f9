use Rattle.eventkey.proofs.Writers.{at_err, at_ok}
use Rattle.program.proofs.Printed.{anew_begun, anew_printed, on_command}
use Rattle.program.proofs.making.migrate_on.Goals as goal

pub returns-in-Ok-outcome-clause-ok : goal.returns-in-Ok-outcome-clause-ok
returns-in-Ok-outcome-clause-ok g c =
    anew_printed g.M.Model.meaning g.M.Described.says c.in_ok-of.ensures.file.0 c.in_ok-of.of.model c.in_ok-of.of.end c.in_ok-of.ensures.file.1
    c.in_ok-opened.opened.reads c.in-Ok.log.header c.in-Ok.log.records c.in-Ok.ensures.held c.in-Ok.ensures.old _ _ _ (at_ok c.in-Ok-outcome.is c.migrate-ended.ensures.printed)

pub returns-clause-err : goal.returns-clause-err
returns-clause-err g c =
    at_err c.in-Err-outcome.is (on_command c.migrate-ended.result.outcome
    (λ e. anew_begun g.M.Model.meaning g.M.Described.says c.in_ok-of.ensures.file.0 c.in_ok-of.of.model c.in_ok-of.of.end c.in_ok-of.ensures.file.1
    c.in_ok-opened.opened.reads c.in-Ok.log.header c.in-Ok.log.records c.in-Ok.ensures.held c.in-Ok.ensures.old _ _ _ (c.migrate-ended.ensures.output e))
    (λ f e n. c.migrate-ended.ensures.unwritten f e n))
