use Rattle.std.proofs.Common.{◌∙◌, List, ap, slice_get, subst}
use Rattle.eventkey.specs.Bag.{IsAscending}
use Rattle.eventkey.specs.Message.{Message}
use Rattle.queues.proofs.Buckets.{ascends, first_of}
use Rattle.queues.proofs.bag.Bag.first.Goals as goal

pub returns-in-Some-clause-least : goal.returns-in-Some-clause-least
returns-in-Some-clause-least c = first_of c.self.inside.times.entries _ _ c.first.result c.in-Some.ensures.first c.first.ensures ∙ ap (λ (ms : List Message). slice_get ms 0) c.self.view_is

pub returns-in-Some-clause-ascending : goal.returns-in-Some-clause-ascending
returns-in-Some-clause-ascending c = subst IsAscending c.self.view_is (ascends c.self.inside.times.entries c.self.invariant.0)

pub returns-in-None-clause-ascending : goal.returns-in-None-clause-ascending
returns-in-None-clause-ascending c = subst IsAscending c.self.view_is (ascends c.self.inside.times.entries c.self.invariant.0)
