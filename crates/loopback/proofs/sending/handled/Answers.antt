use Rattle.std.proofs.Common.{[], ℕ, List, subst, sym}
use Rattle.frames.specs.Laws.{IsEncoded}
use Rattle.frames.specs.declared.Frame.TheVariants as frame
use Rattle.loopback.proofs.Passing.{both_ok, take_err, take_ok, take_unsent, reported_so}
use Rattle.loopback.specs.Passing.{IsTakeCause}
use Rattle.loopback.proofs.sending.handled.Goals as goal

pub returns-in-Ok-clause-ok : goal.returns-in-Ok-clause-ok
returns-in-Ok-clause-ok g c p is =
    (both_ok _ _ c.replied.result (take_ok (g.M.Model.meaning c.args.model.now) c.args.node.now c.react.new.node c.in_ok-raw.raw p c.in-Ok.response (c.in_ok-raw.ensures.ok (frame.Parcel p) is) c.in-Ok.ensures.known
    c.in-Ok.ensures.range c.replied.result (λ f s. c.replied.ensures.ok f (subst (λ (b : List ℕ). IsEncoded b f []) (sym c.as_slice.ensures) s)))).0

pub returns-in-Ok-clause-fits : goal.returns-in-Ok-clause-fits
returns-in-Ok-clause-fits g c p is =
    (both_ok _ _ c.replied.result (take_ok (g.M.Model.meaning c.args.model.now) c.args.node.now c.react.new.node c.in_ok-raw.raw p c.in-Ok.response (c.in_ok-raw.ensures.ok (frame.Parcel p) is) c.in-Ok.ensures.known
    c.in-Ok.ensures.range c.replied.result (λ f s. c.replied.ensures.ok f (subst (λ (b : List ℕ). IsEncoded b f []) (sym c.as_slice.ensures) s)))).1

pub returns-in-Ok-clause-err : goal.returns-in-Ok-clause-err
returns-in-Ok-clause-err g c p is =
    take_err (g.M.Model.meaning c.args.model.now) c.args.node.now c.react.new.node c.in_ok-raw.raw p c.in-Ok.response (c.in_ok-raw.ensures.ok (frame.Parcel p) is) c.in-Ok.ensures.known
    c.in-Ok.ensures.range c.replied.result (λ f s. c.replied.ensures.err f (subst (λ (b : List ℕ). IsEncoded b f []) (sym c.as_slice.ensures) s))

pub returns-clause-err : goal.returns-clause-err
returns-clause-err g c p is = take_unsent (g.M.Model.meaning c.args.model.now) c.args.node.now c.react.new.node c.in_ok-raw.raw p c.in-Err.fault (c.in_ok-raw.ensures.ok (frame.Parcel p) is) c.in-Err.ensures.known

pub returns-in_err-raw-clause-err : goal.returns-in_err-raw-clause-err
returns-in_err-raw-clause-err g c p is =
    reported_so (IsTakeCause (g.M.Model.meaning c.args.model.now) c.args.node.now p) c.from_residual.result c.in_err-raw.field-0.0 c.from_residual.ensures.1 (c.in_err-raw.ensures.err (frame.Parcel p) is) tt
