use Rattle.frames.proofs.Sending.{sent_length}
use Rattle.frames.proofs.judging.sends.are_sent.Goals as goal

pub returns-then-sent-sends : goal.returns-then-sent-sends
returns-then-sent-sends c =
    (λ t. (cc), λ e. absurd (c.if-sent-sends.true (sent_length c.args.lp c.args.time c.args.number c.args.sends.now c.args.sent.now e)))
