use Rattle.std.proofs.Common.{ap, arith, ◌∙◌}
use Rattle.eventkey.specs.Message.{Message}
use Rattle.frames.proofs.Handlings.{decided}
use Rattle.frames.proofs.judging.known.Known.is_of_model.Goals as goal

pub returns : goal.returns
returns g c =
    rw (← c.self.view_is)
    (decided (g.M.Model.meaning c.args.model.now) (record {
      lp = c.self.inside.lp;
      words = c.self.inside.words.items;
      number = c.self.inside.number;
      passed = c.self.inside.passed;
    }) c.args.report.now c.as_slice-sends.result.now c.as_slice-next.result.now c.is_reported.result (c.as_slice-sends.ensures ∙ c.handle_into.ensures.sends ∙ ap (λ (x : Message). (g.M.Model.meaning c.args.model.now).sends c.self.inside.lp c.self.inside.words.items x) c.message-message.ensures) (c.as_slice-next.ensures ∙ c.handle_into.ensures.state ∙ ap (λ (x : Message). (g.M.Model.meaning c.args.model.now).next_state c.self.inside.lp c.self.inside.words.items x) c.message-message.ensures) (omega (arith, c.if-lp-lps.false, c.lps.ensures)) (omega (arith, c.if-number_after-gt-NUMBER_LIMIT.false, c.number_after.ensures)) c.is_reported.ensures)
