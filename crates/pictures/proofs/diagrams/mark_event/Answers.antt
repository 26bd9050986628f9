use Rattle.std.proofs.Common.{◌∙◌, ap, get_or, subst, sym}
use Rattle.pictures.specs.Run.{Run, with_event}
use Rattle.pictures.specs.Senders.{AreSenders, HaveTime}
use Rattle.pictures.proofs.Marked.{marked_event, sending_as}
use Rattle.pictures.proofs.diagrams.mark_event.Goals as goal

pub returns-then-not-is_sent-clause-senders : goal.returns-then-not-is_sent-clause-senders
returns-then-not-is_sent-clause-senders c = λ r n pending are same count.
    c.in_ok-add_sends.ensures r n pending are same (ap (λ k. get_or c.args.numbers.now k 0) c.to-place.ensures ∙ count)

pub returns-clause-senders : goal.returns-clause-senders
returns-clause-senders c = λ r n pending are same count.
    c.in_ok-add_sends.ensures r n pending are same (ap (λ k. get_or c.args.numbers.now k 0) c.to-place.ensures ∙ count)

pub returns-clause-marks : goal.returns-clause-marks
returns-clause-marks c = λ ok r n pending are same count have h.
    let x = c.args.event.now in
    let next : Run = with_event r x n pending in
    let times = c.in_ok-add_sends.ensures r n pending are same (ap (λ k. get_or c.args.numbers.now k 0) c.to-place.ensures ∙ count) in
    let all = c.as_slice-senders.ensures.value in
    let senders = subst (AreSenders next) (sym all) times.senders in
    let sent = c.sent_at.ensures next senders (subst (λ ss. HaveTime next ss x) (sym all) (times.found x have)) in
    marked_event r x n pending c.args.frame.now c.args.marks.now c.add.new.self _ same (c.is_sent.ensures next senders c.if-not-is_sent.false) (ap (sending_as x) sent) c.in_ok-add.ensures h
