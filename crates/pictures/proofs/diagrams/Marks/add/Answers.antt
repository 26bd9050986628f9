use Rattle.std.proofs.Common.{◌∙◌, arith, refl, sym}
use Rattle.pictures.proofs.Marked.{marks_more, marks_passed}
use Rattle.pictures.proofs.diagrams.Marks.add.Goals as goal

pub returns-then-not-is_shown : goal.returns-then-not-is_shown
returns-then-not-is_shown c = λ ss are. marks_passed c.args.frame.now c.args.before ss c.args.sending.now c.args.self.now (sym c.is_shown.ensures ∙ c.if-not-is_shown.true) are

pub returns-in_ok-push : goal.returns-in_ok-push
returns-in_ok-push c = λ ss are.
    marks_more c.args.frame.now c.args.before ss c.args.sending.now c.args.self.now _ (sym c.is_shown.ensures ∙ c.if-not-is_shown.false) c.in_ok-self.ensures (λ few. c.in_ok-push.ensures.items) (λ many. absurd (omega (arith, c.len.ensures))) are

pub returns-else-len-lt2000 : goal.returns-else-len-lt2000
returns-else-len-lt2000 c = λ ss are.
    marks_more c.args.frame.now c.args.before ss c.args.sending.now c.args.self.now _ (sym c.is_shown.ensures ∙ c.if-not-is_shown.false) c.in_ok-self.ensures (λ few. absurd (omega (arith, c.len.ensures))) (λ many. refl) are
