use Rattle.std.proofs.Common.{◌≡◌, ap, subst, sym, ◌∙◌, Ok}
use Rattle.std.specs.Io.KnownBytes.{Appends}
use Rattle.eventkey.specs.Writing.{TakesBeginning}
use Rattle.frames.specs.Hellos.{agrees, hello_frame, hello_of}
use Rattle.frames.proofs.Greetings.{answer_cut_short, answer_failed, answer_lacks, answer_other, answer_served}
use Rattle.frames.proofs.greeted.answer.Goals as goal

pub returns-in_err-own : goal.returns-in_err-own
returns-in_err-own g c = answer_lacks (g.M.Model.meaning c.args.model.now) c.args.end c.args.limit c.args.asked (g.R.Read.remaining c.args.reader.now) (g.W.Write.contents c.args.writer.now) c.from_residual.result c.from_residual.ensures.1

pub returns-in_err-frame : goal.returns-in_err-frame
returns-in_err-frame g c = answer_lacks (g.M.Model.meaning c.args.model.now) c.args.end c.args.limit c.args.asked (g.R.Read.remaining c.args.reader.now) (g.W.Write.contents c.args.writer.now) c.from_residual-in_err-frame.result c.from_residual-in_err-frame.ensures.1

pub returns-in_err-write_all : goal.returns-in_err-write_all
returns-in_err-write_all g c =
    let text : c.as_slice.result.now ≡ hello_frame (hello_of (g.M.Model.meaning c.args.model.now) c.args.end) = c.as_slice.ensures.value ∙ c.in_ok-frame.ensures ∙ ap hello_frame c.in_ok-own.ensures in
    answer_cut_short (g.M.Model.meaning c.args.model.now) c.args.end c.args.limit c.args.asked (g.R.Read.remaining c.args.reader.now) (g.W.Write.contents c.args.writer.now) (g.W.Write.contents c.write_all.new.out) c.from_residual-in_err-write_all.result c.from_residual-in_err-write_all.ensures.1
    (subst (TakesBeginning (g.W.Write.contents c.args.writer.now) (g.W.Write.contents c.write_all.new.out)) text c.in_err-write_all.ensures.part)

pub returns-then-not-agrees : goal.returns-then-not-agrees
returns-then-not-agrees g c =
    let text : c.as_slice.result.now ≡ hello_frame (hello_of (g.M.Model.meaning c.args.model.now) c.args.end) = c.as_slice.ensures.value ∙ c.in_ok-frame.ensures ∙ ap hello_frame c.in_ok-own.ensures in
    answer_other (g.M.Model.meaning c.args.model.now) c.args.end c.args.limit c.args.asked (g.R.Read.remaining c.args.reader.now) (g.W.Write.contents c.args.writer.now) (g.W.Write.contents c.write_all.new.out) (ap (λ h. agrees h c.args.asked) (sym c.in_ok-own.ensures) ∙ sym c.agrees.ensures.exact ∙ c.if-not-agrees.true)
    (subst (Appends (g.W.Write.contents c.args.writer.now) (g.W.Write.contents c.write_all.new.out)) text c.in_ok-write_all.ensures.all)

pub returns-in_err-replies : goal.returns-in_err-replies
returns-in_err-replies g c =
    let text : c.as_slice.result.now ≡ hello_frame (hello_of (g.M.Model.meaning c.args.model.now) c.args.end) = c.as_slice.ensures.value ∙ c.in_ok-frame.ensures ∙ ap hello_frame c.in_ok-own.ensures in
    answer_failed (g.M.Model.meaning c.args.model.now) c.args.end c.args.limit c.args.asked (g.R.Read.remaining c.args.reader.now) (g.W.Write.contents c.args.writer.now) (g.W.Write.contents c.write_all.new.out) (g.W.Write.contents c.serve.new.writer) (g.R.Read.remaining c.serve.new.reader) c.in_err-replies.field-0.0 c.from_residual-in_err-replies.result c.from_residual-in_err-replies.ensures.1
    (ap (λ h. agrees h c.args.asked) (sym c.in_ok-own.ensures) ∙ sym c.agrees.ensures.exact ∙ c.if-not-agrees.false)
    (subst (Appends (g.W.Write.contents c.args.writer.now) (g.W.Write.contents c.write_all.new.out)) text c.in_ok-write_all.ensures.all)
    c.in_err-replies.ensures

pub returns : goal.returns
returns g c =
    let text : c.as_slice.result.now ≡ hello_frame (hello_of (g.M.Model.meaning c.args.model.now) c.args.end) = c.as_slice.ensures.value ∙ c.in_ok-frame.ensures ∙ ap hello_frame c.in_ok-own.ensures in
    answer_served (g.M.Model.meaning c.args.model.now) c.args.end c.args.limit c.args.asked (g.R.Read.remaining c.args.reader.now) (g.W.Write.contents c.args.writer.now) (g.W.Write.contents c.write_all.new.out) (g.W.Write.contents c.serve.new.writer) (g.R.Read.remaining c.serve.new.reader) (Ok c.in_ok-replies.replies) (ap (λ h. agrees h c.args.asked) (sym c.in_ok-own.ensures) ∙ sym c.agrees.ensures.exact ∙ c.if-not-agrees.false)
    (subst (Appends (g.W.Write.contents c.args.writer.now) (g.W.Write.contents c.write_all.new.out)) text c.in_ok-write_all.ensures.all)
    c.in_ok-replies.ensures
