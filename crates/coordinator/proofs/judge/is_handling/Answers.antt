use Rattle.std.proofs.Common.{IfOk, arith, subst, ◌≡◌, ◌∙◌}
use Rattle.coordinator.proofs.Judges.{compared}
use Rattle.coordinator.proofs.judge.is_handling.Goals as goal

pub returns : goal.returns
returns g c =
    let few = c.if-state-gt-MAX_WORDS.false in
    compared (g.M.Model.meaning c.args.model.now) c.args.state.now c.args.number c.args.done.now c.to-process.result c.unwrap-state.result.items c.as_slice.result.now c.as_slice-2.result.now c.is_reported.result
    c.to-process.ensures (subst (λ r. IfOk r (λ v. v.items ≡ c.args.state.now)) c.unwrap-state.ensures c.from_slice.ensures.ok)
    (c.as_slice.ensures ∙ c.handle-next.ensures.state) (c.as_slice-2.ensures ∙ c.handle-next.ensures.sends) (omega (arith, few)) c.is_reported.ensures
