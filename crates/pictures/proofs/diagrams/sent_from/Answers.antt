use Rattle.std.proofs.Common.{◌++◌, ◌∙◌, ◌∷◌, [], ap, arith, subst, sym}
use Rattle.eventkey.proofs.Lists.{Every-get_or}
use Rattle.pictures.specs.Senders.{HaveTime}
use Rattle.pictures.proofs.Marked.{late_more, late_passed, sending_as}
use Rattle.pictures.proofs.diagrams.sent_from.Goals.{then-time+in_ok-push, else-time}
use Rattle.pictures.proofs.diagrams.sent_from.Goals as goal

pub loop-message-preserved : goal.loop-message-preserved
loop-message-preserved c = λ r are have.
    let xs = c.args.messages.now in
    let i = c.loop-message.message-index in
    let x = c.message-item.result in
    let so_far = c.loop-message.invariant r are have in
    let one : HaveTime r c.args.senders.now x = subst (HaveTime r c.args.senders.now) (sym c.message-item.is) (Every-get_or (HaveTime r c.args.senders.now) xs i x (omega arith) have) in
    elim c.if-time.branch [
      | then-time+in_ok-push w ↦ rw w.late-is (w.in_ok-push.ensures.items ∙ ap (λ t. c.loop-message.late.items ++ sending_as x t ∷ []) (w.sent_at.ensures r are one) ∙ late_more r c.args.time xs i x c.loop-message.late.items (omega arith) c.message-item.is so_far (omega (arith, w.if-time.true, c.time.ensures)))
      | else-time w ↦ rw w.late-is (late_passed r c.args.time xs i x c.loop-message.late.items (omega arith) c.message-item.is so_far (omega (arith, w.if-time.false, c.time.ensures)))
    ]
