-- One handling that is compared with the model.
use Rattle.std.proofs.Common.{◌≡◌, ◌∙◌, ℕ, ◌+◌, ◌<◌, ◌≤◌, ◌^◌, List, ap, length, sym}
use Rattle.std.specs.Cmp.Lexicographic.{other_text, pointwise, same_text}
use Rattle.std.specs.Prelude.{Bool, IsTrue, false, nat_eq, true, ◌↔◌, ◌≢◌}
use Rattle.model.proofs.Worlds.{length-stamp}
use Rattle.model.specs.Meaning.{Meaning, stamp}
use Rattle.model.specs.declared.Outgoing.{Outgoing}
use Rattle.process.specs.declared.Done.{Done}
use Rattle.frames.specs.Judging.{IsOfModel, Known}

pub same_words : (xs ys : List ℕ) → true ≡ pointwise nat_eq xs ys → xs ≡ ys
same_words = same_text

pub other_words : (xs ys : List ℕ) → false ≡ pointwise nat_eq xs ys → xs ≢ ys
other_words = other_text

module _ (m : Meaning) (k : Known) (d : Done) where
  -- a report that is compared with the state words and the sends of the model's handling
  pub decided : (sends : List Outgoing) (next : List ℕ) (b : Bool) → sends ≡ m.sends k.lp k.words d.message → next ≡ m.next_state k.lp k.words d.message →
      k.lp < m.lps → d.number_after ≤ 2 ^ 63 →
      (IsTrue b ↔ ((d.number_after ≡ k.number + length sends) × (next ≡ d.after) × (d.sent ≡ stamp k.lp d.message.time k.number sends))) →
      (IsTrue b ↔ IsOfModel m k d)
  decided sends next b sends_is next_is lp limit compared =
      let sized : (ys : List Outgoing) → d.sent ≡ stamp k.lp d.message.time k.number ys → length d.sent ≡ length ys =
      λ ys e. ap length e ∙ length-stamp k.lp d.message.time k.number ys in (
        λ t. (
            let is = compared.0 t in (
              lp,
              (
                is.2 ∙ ap (stamp k.lp d.message.time k.number) sends_is,
                sym is.1 ∙ next_is,
                is.0 ∙ ap (λ n. k.number + n) (sym (sized sends is.2)),
                limit,
                tt,
              ),
            )),
        λ is. (
            let sent = is.1.0 ∙ sym (ap (stamp k.lp d.message.time k.number) sends_is) in
            compared.1 (is.1.2 ∙ ap (λ n. k.number + n) (sized sends sent), next_is ∙ sym is.1.1, sent)),
      )
