use Rattle.std.proofs.Common.{◌≡◌, ◌<◌, ◌≤◌, ℕ, length, get_or, List, ◌∙◌, ap, subst, sym, arith, inl, inr}
use Rattle.std.proofs.lemmas.Bool.{cases_lt, eqb-false}
use Rattle.node.proofs.Tournaments.{leaf_at, place_at, root_is_least}
use Rattle.node.specs.Tournament.{least_among, next_at}
use Rattle.node.specs.declared.summary.Summary.{Summary}
use Rattle.node.proofs.tournament.Tournament.next.Goals as goal

pub returns : goal.returns
returns c =
    let leaves : List Summary = c.self.inside.leaves in
    let winners : List ℕ = c.self.inside.winners.items in
    let size = c.self.invariant.size in
    let slice : List Summary = c.as_slice-leaves.result.now in
    let same : length slice ≡ length leaves = ap length c.as_slice-leaves.ensures in
    let some : 1 ≤ length leaves = elim (cases_lt 0 (length leaves)) [
      | inl l ↦ l
      | inr l ↦ absurd (eqb-false (length slice) 0 (sym c.is_empty.ensures ∙ c.if-is_empty.false) (omega arith))
    ] in
    let place : c.index.result.now ≡ get_or winners 1 0 = place_at winners 1 c.index.result.now c.index.ensures (omega arith) in
    let there : c.index.result.now < length leaves = subst (λ (p : ℕ). p < length leaves) (sym place) (c.self.invariant.below 1 (omega arith) (omega arith)).there in
    let read : c.index-leaves-index.result ≡ get_or leaves c.index.result.now c.index-leaves-index.result = c.index-leaves-index.is ∙ ap (λ (xs : List Summary). get_or xs c.index.result.now c.index-leaves-index.result) c.as_slice-leaves.ensures in
    ap (λ (s : Summary). s.next) (sym c.index-leaves-index.is ∙ leaf_at leaves c.index.result.now c.index-leaves-index.result read there)
    ∙ ap (next_at leaves) place
    ∙ root_is_least leaves winners c.self.invariant some
    ∙ ap (λ (xs : List Summary). (least_among xs).next) c.self.view_is
