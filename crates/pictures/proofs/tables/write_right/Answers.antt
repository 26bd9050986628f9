use Rattle.std.proofs.Common.{ℕ, List, ◌-◌, ◌++◌, ◌∙◌, ◌≡◌, ap, ap₂, decimal, length, replicate}
use Rattle.eventkey.proofs.Writers.{writes_as, writes_failed, writes_then}
use Rattle.pictures.proofs.tables.write_right.Goals as goal

blanks_as : (text number : List ℕ) (count : ℕ) → text ≡ number → count ≡ 12 - length text → replicate {A = ℕ} count 32 ≡ replicate (12 - length number) 32
blanks_as text number count text_is count_is = ap (λ (n : ℕ). replicate {A = ℕ} n 32) (count_is ∙ ap (λ (t : List ℕ). 12 - length t) text_is)

pub returns-in_err-write_blanks : goal.returns-in_err-write_blanks
returns-in_err-write_blanks g c =
    writes_as (writes_failed c.from_residual.result (decimal c.args.number) c.write_blanks.ensures c.in_err-write_blanks.was c.from_residual.ensures.0)
    (ap (λ (s : List ℕ). s ++ decimal c.args.number) (blanks_as c.format-text.result.now (decimal c.args.number) c.saturating_sub.result c.format-text.ensures.text c.saturating_sub.ensures))

pub returns : goal.returns
returns g c =
    writes_as (writes_then c.write_blanks.ensures c.in_ok-write_blanks.was c.write_text.ensures)
    (ap₂ (λ (s t : List ℕ). s ++ t) (blanks_as c.format-text.result.now (decimal c.args.number) c.saturating_sub.result c.format-text.ensures.text c.saturating_sub.ensures) c.format-text.ensures.text)
