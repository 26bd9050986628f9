use Rattle.std.proofs.Common.{◌-◌, ◌*◌, ℕ, suc, List, ◌∙◌, subst, sym, arith}
use Rattle.node.proofs.Tournaments.{IsSeeded, left_below, own_below, place_at, seeded_is_tournament, seeded_with}
use Rattle.node.specs.Tournament.{IsBelow}
use Rattle.node.proofs.tournament.Tournament.new.Goals as goal
use Rattle.node.proofs.tournament.Tournament.new.Goals.{then-cell-leaves, else-cell-leaves}

pub loop-cell-preserved : goal.loop-cell-preserved
loop-cell-preserved c =
    let leaves : ℕ = c.args.leaves in
    let winners : List ℕ = c.loop-cell.winners.items in
    let cell : ℕ = c.loop-cell.cell - 1 in
    let i = c.loop-cell.invariant in
    let size = i.size in
    let most = i.most in
    let next : IsSeeded leaves (suc cell) winners = subst (λ (k : ℕ). IsSeeded leaves k winners) {x = c.loop-cell.cell} {y = suc cell} (omega arith) i in
    let below : IsBelow leaves c.if-cell-leaves.winner cell = elim c.if-cell-leaves.branch [
      | then-cell-leaves w ↦ subst (λ (p : ℕ). IsBelow leaves p cell) (sym (w.winner-is ∙ place_at winners (2 * cell) w.index.result.now w.index.ensures (let before = w.if-cell-leaves.true in omega arith))) (left_below leaves cell winners (omega arith) w.if-cell-leaves.true next)
      | else-cell-leaves w ↦ subst (λ (p : ℕ). IsBelow leaves p cell) (sym w.winner-is) (own_below leaves cell w.if-cell-leaves.false (omega arith))
    ] in
    seeded_with leaves cell c.if-cell-leaves.winner winners (omega arith) next below

pub invariant_of-result : goal.invariant_of-result
invariant_of-result c =
    seeded_is_tournament c.args.leaves c.loop-cell.cell c.in_ok-summaries.summaries c.loop-cell.winners.items c.requires c.loop-cell-test.false c.in_ok-summaries.ensures c.loop-cell.invariant
