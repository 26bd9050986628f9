use Rattle.std.specs.Option.{option_map}
use Rattle.disk.specs.FileDisks.{disk_of_file}
use Rattle.model.specs.Origins.{continued}
use Rattle.program.specs.Attempts.{nodes_of, trusts_nodes}
use Rattle.program.proofs.Calls.{continued_as, last_after, next_after}
use Rattle.program.proofs.attempts.attempt_and_go_on.Goals as goal

pub returns-clause-next : goal.returns-clause-next
returns-clause-next g c =
    next_after (continued (g.M.Model.meaning c.new.result.model.now) (option_map (λ o. o.now) c.new.result.origin)) c.args.of.now.end (nodes_of c.args.args) (disk_of_file c.args.disk) (disk_of_file c.in_ok-ended.ended.disk) c.in_ok-ended.ended.outcome _ _ _
    (continued (g.M.Model.meaning c.args.of.now.model) (option_map (λ o. o.now) c.args.origin)) (trusts_nodes c.args.args) c.next_disk.result (continued_as g.M.Model.meaning c.new.ensures.model c.new.ensures.origin) c.in_ok-ended.ensures.tried c.next_disk.ensures.next c.next_disk.ensures.goes_on

pub returns-clause-last : goal.returns-clause-last
returns-clause-last g c =
    last_after (continued (g.M.Model.meaning c.new.result.model.now) (option_map (λ o. o.now) c.new.result.origin)) c.args.of.now.end (nodes_of c.args.args) (disk_of_file c.args.disk) (disk_of_file c.in_ok-ended.ended.disk) c.in_ok-ended.ended.outcome _ _ _
    (λ last. disk_of_file last.disk) (λ last. last.outcome) (continued (g.M.Model.meaning c.args.of.now.model) (option_map (λ o. o.now) c.args.origin)) (trusts_nodes c.args.args) c.next_disk.result (continued_as g.M.Model.meaning c.new.ensures.model c.new.ensures.origin) c.in_ok-ended.ensures.tried c.next_disk.ensures.last c.next_disk.ensures.rest
