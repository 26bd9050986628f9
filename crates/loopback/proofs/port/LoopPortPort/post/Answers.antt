use Rattle.std.proofs.Common.{◌∙◌, ap, subst, sym}
use Rattle.frames.specs.declared.Frame.TheVariants as frame
use Rattle.loopback.proofs.Reading.{posted_back, posted_encoded, encoded_as}
use Rattle.loopback.specs.Loop.{IsOfModel}
use Rattle.wire.specs.Port.Stage.{Posted}
use Rattle.loopback.proofs.port.LoopPortPort.post.Goals as goal

pub invariant_of-self-in-Ok : goal.invariant_of-self-in-Ok
invariant_of-self-in-Ok g c =
    let idle = subst (IsOfModel (g.M.Model.meaning c.self.inside.model.now)) (sym c.replace.ensures.value ∙ c.in-Idle.is) c.self.invariant in
    let sent = encoded_as c.from_vec.result (frame.Parcel c.args.parcel) (c.from_vec.ensures ∙ c.in-Ok.ensures.written.1) (c.in-Ok.ensures.range c.requires.range) c.in-Ok.ensures.written.0 in
    (idle.0, idle.1, posted_encoded c.from_vec.result c.args.parcel sent)

pub returns-in-Ok-clause-posted : goal.returns-in-Ok-clause-posted
returns-in-Ok-clause-posted g c =
    ap Posted
    (posted_back c.from_vec.result c.args.parcel (encoded_as c.from_vec.result (frame.Parcel c.args.parcel) (c.from_vec.ensures ∙ c.in-Ok.ensures.written.1) (c.in-Ok.ensures.range c.requires.range) c.in-Ok.ensures.written.0))
