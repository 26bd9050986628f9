-- The loop over the tokens that start at a process.
use Rattle.std.specs.Prelude.{ℕ, zero, suc, ◌+◌, ◌-◌, ◌*◌, ◌%◌, ◌<◌, ◌≤◌, ◌≡◌, ◌==◌, ◌++◌, List, [], ◌∷◌, filter, map, length}
use Rattle.std.proofs.Common.{arith, ap, ◌∙◌, sym, inl, inr, length-append}
use Rattle.std.proofs.Math.Nat.{mul-le-mul_right}
use Rattle.std.proofs.lemmas.Bool.{cases_lt}
use Rattle.std.proofs.lemmas.List.{map-append}
use Rattle.model.specs.World.{below}
use Rattle.model.specs.declared.Outgoing.{Outgoing}
use Rattle.models.specs.Ring.{first_send, tokens_at}
use Rattle.models.specs.RingLaws.{no_first, one_more, none_first}

-- all tokens of the process before this one are sent
pub record HasSent (lps lp tokens token : ℕ) (sends : List Outgoing) : Type 0 where
  pub place : token ≡ length sends * lps + lp
  pub near : token < tokens + lps
  pub sent : sends ≡ map (first_send lp) (filter (λ j. j % lps == lp) (below token))

module _ (lps lp : ℕ) (l : lp < lps) where
  -- the next token is one more
  next_at : (k : ℕ) → map (first_send lp) (filter (λ j. j % lps == lp) (below (k * lps + lp + lps)))
      ≡ map (first_send lp) (filter (λ j. j % lps == lp) (below (k * lps + lp))) ++ first_send lp (k * lps + lp) ∷ []
  next_at k =
      let next : k * lps + lp + lps ≡ k * lps + lp + 1 + (lps - 1) = omega arith in
      ap (λ i. map (first_send lp) (filter (λ j. j % lps == lp) (below i))) next
      ∙ ap (map (first_send lp)) (one_more lps lp l k (lps - 1) (omega arith))
      ∙ map-append (first_send lp) (filter (λ j. j % lps == lp) (below (k * lps + lp))) ((k * lps + lp) ∷ [])

  -- if there is no next token, all tokens of the process are sent
  all_at : (k tokens : ℕ) → tokens ≤ k * lps + lp → k * lps + lp < tokens + lps
      → filter (λ j. j % lps == lp) (below (k * lps + lp)) ≡ filter (λ j. j % lps == lp) (below tokens)
  all_at zero tokens past near = no_first lps lp l (0 * lps + lp) (omega arith) ∙ sym (no_first lps lp l tokens (omega arith))
  all_at (suc k) tokens past near =
      let place : suc k * lps + lp ≡ k * lps + lp + 1 + (lps - 1) = omega arith in
      let end : tokens ≡ k * lps + lp + 1 + (tokens - (k * lps + lp + 1)) = omega arith in
      ap (λ i. filter (λ j. j % lps == lp) (below i)) place
      ∙ one_more lps lp l k (lps - 1) (omega arith)
      ∙ sym (ap (λ i. filter (λ j. j % lps == lp) (below i)) end ∙ one_more lps lp l k (tokens - (k * lps + lp + 1)) (omega arith))

pub sent_none : (lps lp tokens : ℕ) → lp < lps → HasSent lps lp tokens lp []
sent_none lps lp tokens l = record { place = omega arith; near = omega arith; sent = ap (map (first_send lp)) (sym (none_first lps lp l)) }

pub sent_next : {lps lp tokens token : ℕ} {sends : List Outgoing} → lp < lps → token < tokens → HasSent lps lp tokens token sends → HasSent lps lp tokens (token + lps) (sends ++ first_send lp token ∷ [])
sent_next {lps} {lp} {tokens} {token} {sends} l t h = record {
  place = rw (length-append sends (first_send lp token ∷ [])) (omega (arith, h.place));
  near = omega arith;
  sent = rw h.place (ap (λ s. s ++ first_send lp (length sends * lps + lp) ∷ []) (rw h.place at h.sent) ∙ sym (next_at lps lp l (length sends)));
}

pub sent_all : {lps lp tokens token : ℕ} {sends : List Outgoing} → lp < lps → tokens ≤ token → HasSent lps lp tokens token sends → sends ≡ map (first_send lp) (tokens_at lps tokens lp)
sent_all {lps} {lp} {tokens} {token} {sends} l t h =
    (rw h.place at h.sent) ∙ ap (map (first_send lp)) (all_at lps lp l (length sends) tokens (omega (arith, h.place)) (omega (arith, h.place, h.near)))

-- no process has more than eight tokens
pub sent_few : {lps lp tokens token : ℕ} {sends : List Outgoing} → tokens ≤ 8 * lps → token < tokens → HasSent lps lp tokens token sends → length sends < 8
sent_few {lps} {lp} {tokens} {token} {sends} few t h = elim (cases_lt (length sends) 8) [
  | inl low ↦ low
  | inr high ↦ absurd (omega (arith, mul-le-mul_right lps high, h.place))
]
