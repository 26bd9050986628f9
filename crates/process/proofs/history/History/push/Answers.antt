use Rattle.std.proofs.Common.{◌≡◌, ◌∙◌, ◌++◌, [], ◌∷◌, subst, sym}
use Rattle.process.proofs.Courses.{number_of_last, records_pushed, state_of_last}
use Rattle.process.specs.Course.{Course, records_of}
use Rattle.process.proofs.history.History.push.Goals as goal

pub invariant_of-self-2 : goal.invariant_of-self-2
invariant_of-self-2 c = record {
  state = sym c.as_slice.ensures ∙ state_of_last c.push.new.self _ (c.self.inside.handlings, c.in_ok-push.ensures.pushed) c.self.inside.start.items;
  number = number_of_last c.push.new.self _ (c.self.inside.handlings, c.in_ok-push.ensures.pushed) c.self.inside.start_number;
  few = c.self.invariant.few;
}

pub returns-clause-pushed : goal.returns-clause-pushed
returns-clause-pushed c =
    subst (λ (h : Course). records_of c.self.inside.start.items c.self.inside.start_number c.push.new.self ≡ h.done ++ record { message = c.args.message.now; before = h.state; number_before = h.number; sent = c.args.sent.now } ∷ []) c.self.view_is
    (records_pushed c.self.inside.start.items c.self.inside.start_number c.self.inside.handlings c.push.new.self _ c.self.inside.state.items c.self.inside.number c.in_ok-push.ensures.pushed c.self.invariant.state c.self.invariant.number)
