use Rattle.std.proofs.Common.{◌-◌, ◌∙◌, ap}
use Rattle.pictures.proofs.Running.{delay_left, delay_taken}
use Rattle.pictures.proofs.counted.take_delay.Goals as goal

pub returns-then-not-is_sent-clause-delays : goal.returns-then-not-is_sent-clause-delays
returns-then-not-is_sent-clause-delays c = λ r events are have h.
    rw c.in_ok-push.ensures.items (delay_left r events c.args.delays.now c.args.unsent.now.items c.args.event.now h)

pub returns-clause-delays : goal.returns-clause-delays
returns-clause-delays c = λ r events are have h.
    delay_taken r events c.args.delays.now c.add.new.self c.args.unsent.now.items c.args.event.now c.saturating_sub-delay.result (c.is_sent.ensures r are (c.if-not-is_sent.false))
    (c.saturating_sub-delay.ensures ∙ ap (λ t. t - c.sent_at.result) c.time.ensures ∙ ap (λ t. c.args.event.now.time - t) (c.sent_at.ensures r are have)) c.in_ok-add.ensures h
