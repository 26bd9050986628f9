use Rattle.std.proofs.Common.{◌≡◌, ◌<◌, ℕ, ◌*◌, ◌+◌, ◌/◌, length, set, get_or, List, ap, sym, subst, ◌∙◌, arith, inl, inr}
use Rattle.std.proofs.lemmas.List.{length-set}
use Rattle.node.specs.Node.{lesser}
use Rattle.node.specs.Tournament.{next_at, winner_next}
use Rattle.node.specs.declared.summary.Summary.{Summary}
use Rattle.node.proofs.Tournaments.{IsReplaying, place_at, replay_begins, replay_ends, replay_goes_on}
use Rattle.node.proofs.tournament.Tournament.set.Goals as goal

pub loop-cell-init : goal.loop-cell-init
loop-cell-init c =
    let leaves : List Summary = c.self.inside.leaves in
    let winners : List ℕ = c.self.inside.winners.items in
    let there : c.args.leaf < length leaves = let inside = c.requires.inside in let seen = ap length c.self.view_is in omega arith in
    let same : length leaves + c.args.leaf ≡ length c.as_slice-2.result.now + c.args.leaf =
    ap (λ (n : ℕ). n + c.args.leaf) (sym (ap length (c.as_slice-2.ensures ∙ c.set.ensures) ∙ length-set leaves c.args.leaf c.args.summary))
    in
    record {
      leaves_are = c.set.ensures ∙ ap (λ (xs : List Summary). set xs c.args.leaf c.args.summary) c.self.view_is;
      replaying = subst (λ (xs : List Summary). IsReplaying xs winners (length c.as_slice-2.result.now + c.args.leaf)) (sym c.set.ensures)
          (subst (IsReplaying (set leaves c.args.leaf c.args.summary) winners) same
          (replay_begins leaves winners c.args.leaf c.args.summary c.self.invariant there));
    }

pub invariant_of-self-in-loop-cell : goal.invariant_of-self-in-loop-cell
invariant_of-self-in-loop-cell c = replay_ends _ _ c.loop-cell.cell c.loop-cell-test.false c.loop-cell.invariant.replaying

pub loop-cell-preserved : goal.loop-cell-preserved
loop-cell-preserved c =
    let leaves : List Summary = c.loop-cell.self-inside.leaves in
    let winners : List ℕ = c.loop-cell.self-inside.winners.items in
    let cell : ℕ = c.loop-cell.cell in
    let i = c.loop-cell.invariant.replaying in
    let size = i.size in
    let inside = i.inside in
    let left : c.index.result.now ≡ get_or winners (2 * (cell / 2)) 0 = place_at winners (2 * (cell / 2)) c.index.result.now c.index.ensures (omega arith) in
    let right : c.index-in-loop-cell.result.now ≡ get_or winners (2 * (cell / 2) + 1) 0 = place_at winners (2 * (cell / 2) + 1) c.index-in-loop-cell.result.now c.index-in-loop-cell.ensures (omega arith) in
    let first : next_at leaves c.winner.result ≡ lesser (winner_next leaves winners (2 * (cell / 2))) (winner_next leaves winners (2 * (cell / 2) + 1)) =
    ap (λ (xs : List Summary). next_at xs c.winner.result) (sym c.as_slice-in-loop-cell.ensures)
    ∙ c.winner.ensures.first
    ∙ ap (λ (xs : List Summary). lesser (next_at xs c.index.result.now) (next_at xs c.index-in-loop-cell.result.now)) c.as_slice-in-loop-cell.ensures
    ∙ ap (λ (p : ℕ). lesser (next_at leaves p) (next_at leaves c.index-in-loop-cell.result.now)) left
    ∙ ap (λ (p : ℕ). lesser (winner_next leaves winners (2 * (cell / 2))) (next_at leaves p)) right
    in
    record {
      leaves_are = c.loop-cell.invariant.leaves_are;
      replaying = replay_goes_on leaves winners cell c.winner.result c.loop-cell-test.true i
          (elim c.winner.ensures.either [ inl e ↦ inl (e ∙ left) | inr e ↦ inr (e ∙ right) ])
          first;
    }
