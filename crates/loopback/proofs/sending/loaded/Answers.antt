use Rattle.std.proofs.Common.{[], ℕ, List, ◌∙◌, subst, sym}
use Rattle.frames.specs.Laws.{IsEncoded}
use Rattle.frames.specs.declared.Frame.TheVariants as frame
use Rattle.frames.proofs.Reacting.{begins_as}
use Rattle.frames.specs.declared.reaction.Begun.TheVariants.{Loaded, Refused}
use Rattle.loopback.proofs.Passing.{load_fault, load_reply, load_unmade, node_made}
use Rattle.loopback.proofs.Reading.{encoded_as}
use Rattle.loopback.proofs.sending.loaded.Goals as goal

pub returns-in-Ok-Loaded-clause-ok : goal.returns-in-Ok-Loaded-clause-ok
returns-in-Ok-Loaded-clause-ok g c =
    let lps = (g.M.Model.meaning c.args.model.now).lps in
    let sent = encoded_as c.as_slice.result.now (frame.Load c.args.load.now) (c.as_slice.ensures.value ∙ c.in-Ok.ensures.written.1) (c.in-Ok.ensures.range c.requires) c.in-Ok.ensures.written.0 in
    node_made lps c.in_ok-raw.raw c.args.load.now c.in-Ok-Loaded.node (c.in_ok-raw.ensures.ok (frame.Load c.args.load.now) sent)
    (begins_as lps c.in_ok-raw.raw c.in-Ok-Loaded.field-0 (Loaded c.in-Ok-Loaded.node) c.in-Ok-Loaded.field-0-is c.in-Ok-Loaded.ensures.begins)

pub returns-in-Ok-Refused-clause-err : goal.returns-in-Ok-Refused-clause-err
returns-in-Ok-Refused-clause-err g c =
    let lps = (g.M.Model.meaning c.args.model.now).lps in
    let sent = encoded_as c.as_slice.result.now (frame.Load c.args.load.now) (c.as_slice.ensures.value ∙ c.in-Ok.ensures.written.1) (c.in-Ok.ensures.range c.requires) c.in-Ok.ensures.written.0 in
    load_fault lps c.in_ok-raw.raw c.args.load.now c.in-Ok-Refused.text c.in-Err-replied.fault (c.in_ok-raw.ensures.ok (frame.Load c.args.load.now) sent)
    (begins_as lps c.in_ok-raw.raw c.in-Ok-Refused.field-0 (Refused c.in-Ok-Refused.text) c.in-Ok-Refused.field-0-is c.in-Ok-Refused.ensures.begins)
    (λ f s. c.in-Err-replied.ensures.err f (subst (λ (b : List ℕ). IsEncoded b f []) (sym c.as_slice-in-Ok-Refused.ensures) s))

pub returns-in-Ok-replied-clause-err : goal.returns-in-Ok-replied-clause-err
returns-in-Ok-replied-clause-err g c =
    let lps = (g.M.Model.meaning c.args.model.now).lps in
    let sent = encoded_as c.as_slice.result.now (frame.Load c.args.load.now) (c.as_slice.ensures.value ∙ c.in-Ok.ensures.written.1) (c.in-Ok.ensures.range c.requires) c.in-Ok.ensures.written.0 in
    load_reply lps c.in_ok-raw.raw c.args.load.now c.in-Ok-Refused.text c.in-Ok-replied.field-0 (c.in_ok-raw.ensures.ok (frame.Load c.args.load.now) sent)
    (begins_as lps c.in_ok-raw.raw c.in-Ok-Refused.field-0 (Refused c.in-Ok-Refused.text) c.in-Ok-Refused.field-0-is c.in-Ok-Refused.ensures.begins)
    (λ f s. c.in-Ok-replied.ensures.ok f (subst (λ (b : List ℕ). IsEncoded b f []) (sym c.as_slice-in-Ok-Refused.ensures) s))

pub returns-clause-err : goal.returns-clause-err
returns-clause-err g c =
    let lps = (g.M.Model.meaning c.args.model.now).lps in
    let sent = encoded_as c.as_slice.result.now (frame.Load c.args.load.now) (c.as_slice.ensures.value ∙ c.in-Ok.ensures.written.1) (c.in-Ok.ensures.range c.requires) c.in-Ok.ensures.written.0 in
    load_unmade lps c.in_ok-raw.raw c.args.load.now c.in-Err-begin.fault (c.in_ok-raw.ensures.ok (frame.Load c.args.load.now) sent) c.in-Err-begin.ensures.begins
