use Rattle.std.proofs.Common.{sym, subst, ◌∙◌}
use Rattle.frames.specs.declared.Frame.{Frame}
use Rattle.frames.specs.declared.Frame.TheVariants as frame
use Rattle.wire.specs.declared.port.PortFault.TheVariants.{Closed}
use Rattle.loopback.specs.Passing.{IsReadOf}
use Rattle.loopback.proofs.Reading.{got_back, not_none}
use Rattle.loopback.proofs.sending.replied.Goals as goal

pub returns-in-Ok-Some-Reply-clause-ok : goal.returns-in-Ok-Some-Reply-clause-ok
returns-in-Ok-Some-Reply-clause-ok c f is =
    got_back c.args.bytes.now (frame.Reply c.in-Ok-Some-Reply.reply) f (rw (c.in-Ok-Some-Reply.field-0-is, c.in-Ok-Some-Reply.field-0-0-is) at c.in-Ok-Some-Reply.ensures) is

pub returns-in-Ok-Some-Fault-clause-err : goal.returns-in-Ok-Some-Fault-clause-err
returns-in-Ok-Some-Fault-clause-err c f is =
    got_back c.args.bytes.now (frame.Fault c.in-Ok-Some-Fault.fault) f (rw (c.in-Ok-Some-Fault.field-0-is, c.in-Ok-Some-Fault.field-0-0-is) at c.in-Ok-Some-Fault.ensures) is

pub returns-in-Ok-Some-Load-clause-err : goal.returns-in-Ok-Some-Load-clause-err
returns-in-Ok-Some-Load-clause-err c f is =
    let sent = frame.Load c.in-Ok-Some-Load.field-0-0-0 in
    subst (λ (g : Frame). IsReadOf g Closed) (sym (got_back c.args.bytes.now sent f (rw (c.in-Ok-Some-Load.field-0-is, c.in-Ok-Some-Load.field-0-0-is) at c.in-Ok-Some-Load.ensures) is)) tt

pub returns-in-Ok-Some-Parcel-clause-err : goal.returns-in-Ok-Some-Parcel-clause-err
returns-in-Ok-Some-Parcel-clause-err c f is =
    let sent = frame.Parcel c.in-Ok-Some-Parcel.field-0-0-0 in
    subst (λ (g : Frame). IsReadOf g Closed) (sym (got_back c.args.bytes.now sent f (rw (c.in-Ok-Some-Parcel.field-0-is, c.in-Ok-Some-Parcel.field-0-0-is) at c.in-Ok-Some-Parcel.ensures) is)) tt

pub returns-in-Ok-None-clause-err : goal.returns-in-Ok-None-clause-err
returns-in-Ok-None-clause-err c f is = absurd (not_none c.args.bytes.now f (sym c.in-Ok-None.field-0-is ∙ c.in-Ok-None.ensures) is)
