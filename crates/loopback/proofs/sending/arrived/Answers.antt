use Rattle.std.proofs.Common.{sym, ◌∙◌}
use Rattle.loopback.proofs.Reading.{no_raw, raw_back}
use Rattle.loopback.proofs.sending.arrived.Goals as goal

pub returns-in-Ok-Some-clause-ok : goal.returns-in-Ok-Some-clause-ok
returns-in-Ok-Some-clause-ok c f is = raw_back c.args.bytes.now c.in-Ok-Some.raw f (rw c.in-Ok-Some.field-0-is at c.in-Ok-Some.ensures) is

pub returns-in-Ok-None-clause-err : goal.returns-in-Ok-None-clause-err
returns-in-Ok-None-clause-err c f is = absurd (no_raw c.args.bytes.now f (sym c.in-Ok-None.field-0-is ∙ c.in-Ok-None.ensures) is)
