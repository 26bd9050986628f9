use Rattle.std.proofs.Common.{ap, inr, ◌∙◌}
use Rattle.views.specs.Views.{checked_text}
use Rattle.views.proofs.Printed.{on_err}
use Rattle.views.proofs.Runs.{on_ok}
use Rattle.views.proofs.files.check.Goals as goal

pub returns-in_ok-values-in-Ok-clause-ok : goal.returns-in_ok-values-in-Ok-clause-ok
returns-in_ok-values-in-Ok-clause-ok g c =
    on_ok c.write_whole.result (λ a. (checked_text c.as_str.result.now, (c.in-Ok.model, c.in-Ok.end, c.in-Ok.ensures.ok, ap checked_text (c.as_str.ensures.value ∙ c.in_ok-values-in-Ok.ensures)), a)) c.write_whole.ensures.written.all

pub returns-in_ok-values-in-Ok-clause-err : goal.returns-in_ok-values-in-Ok-clause-err
returns-in_ok-values-in-Ok-clause-err g c =
    on_err c.write_whole.result (λ a. inr (checked_text c.as_str.result.now, (c.in-Ok.model, c.in-Ok.end, c.in-Ok.ensures.ok, ap checked_text (c.as_str.ensures.value ∙ c.in_ok-values-in-Ok.ensures)), a)) c.write_whole.ensures.written.part

pub returns-in_ok-find_mistakes-in-Err-BadModel-clause-wrong : goal.returns-in_ok-find_mistakes-in-Err-BadModel-clause-wrong
returns-in_ok-find_mistakes-in-Err-BadModel-clause-wrong g c = λ mistake e.
    let h = c.in-Err-BadModel.field-0-is in
    let k = c.in-Err-BadModel.mistake-is in
    c.in-Err-BadModel.ensures.bad c.in-Err-BadModel.mistake cc
