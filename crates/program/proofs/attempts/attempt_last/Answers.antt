use Rattle.std.specs.Option.{option_map}
use Rattle.disk.specs.FileDisks.{disk_of_file}
use Rattle.model.specs.Origins.{continued}
use Rattle.program.specs.Attempts.{nodes_of, trusts_nodes}
use Rattle.program.proofs.Calls.{continued_as, made_last}
use Rattle.program.proofs.attempts.attempt_last.Goals as goal

pub returns-clause-last : goal.returns-clause-last
returns-clause-last g c =
    made_last (λ ended. disk_of_file ended.disk) (λ ended. ended.outcome) (continued (g.M.Model.meaning c.new.result.model.now) (option_map (λ o. o.now) c.new.result.origin))
    (continued (g.M.Model.meaning c.args.of.now.model) (option_map (λ o. o.now) c.args.origin)) c.args.of.now.end (nodes_of c.args.args) (disk_of_file c.args.disk) _ _ _ (trusts_nodes c.args.args) c.attempt.result
    (continued_as g.M.Model.meaning c.new.ensures.model c.new.ensures.origin) c.attempt.ensures.tried
