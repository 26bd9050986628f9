use Rattle.std.proofs.Common.{◌∙◌, sym}
use Rattle.queues.proofs.Firsts.{first_is}
use Rattle.queues.proofs.event_list.EventList.least_time.Goals as goal

pub returns-in-Some-clause-least : goal.returns-in-Some-clause-least
returns-in-Some-clause-least c = rw c.time.ensures (first_is c.args.self.now c.in-Some.least c.first.ensures.ascending (sym c.in-Some.is ∙ c.first.ensures.least))
