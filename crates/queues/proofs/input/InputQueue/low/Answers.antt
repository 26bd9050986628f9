use Rattle.std.proofs.Common.{◌≡◌, ◌∙◌, Some, ap, sym}
use Rattle.queues.proofs.Firsts.{first_time-both}
use Rattle.queues.specs.Queue.{Queue, first_time}
use Rattle.queues.proofs.input.InputQueue.low.Goals as goal

pub returns-in-Some-Some-clause-low : goal.returns-in-Some-Some-clause-low
returns-in-Some-Some-clause-low c =
    let waiting : Some c.in-Some-Some.message ≡ first_time c.args.self.now.waiting = sym c.in-Some-Some.is-0 ∙ (c.least_time-waiting.ensures.least ∙ ap (λ (q : Queue). first_time q.waiting) c.self.view_is) in
    let antis : Some c.in-Some-Some.anti ≡ first_time c.args.self.now.antis = sym c.in-Some-Some.is-1 ∙ (c.least_time-antis.ensures.least ∙ ap (λ (q : Queue). first_time q.antis) c.self.view_is) in
    rw c.min.ensures (first_time-both c.args.self.now.waiting c.args.self.now.antis c.in-Some-Some.message c.in-Some-Some.anti waiting antis)
