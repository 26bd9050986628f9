use Rattle.std.proofs.Common.{refl, rules}
use Rattle.frames.proofs.Accepted.{all_judged}
use Rattle.frames.proofs.judging.port.JudgedPort.take.Goals as goal

pub returns-in-Ok-clause-passed : goal.returns-in-Ok-clause-passed
returns-in-Ok-clause-passed g c = record {
  taken = search rules;
  judged = search rules;
  all = rw (← c.self.view_is) (λ one. all_judged _ _ _ _ _ _ _ one refl c.in-Ok.ensures.accepted);
  unchanged = search rules;
  same_event = search rules;
}
