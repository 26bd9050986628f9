-- The answer of a move says what it did.
use Rattle.std.proofs.Common.{◌≡◌, ℕ, ◌+◌, ◌∙◌, Bool, true, false, cond, List, [], Option, None, Some, flat_map, length, nat_lt, get_or, option_map, refl, ap, subst, arith}
use Rattle.std.specs.Prelude.{is_some}
use Rattle.std.proofs.lemmas.Bool.{ltb-true}
use Rattle.std.proofs.lemmas.List.{length-append, length-map}
use Rattle.std.proofs.lemmas.Option.{none-some, same_Some}
use Rattle.model.proofs.Heaps.{length-add_all}
use Rattle.model.specs.Meaning.{Meaning}
use Rattle.process.specs.Process.{Process, fossils_of}
use Rattle.process.specs.declared.Done.{Done}
use Rattle.node.specs.Node.{Work, work_here}
use Rattle.node.specs.declared.Parcel.{Parcel}
use Rattle.gvt.specs.Ledger.{least_floor}
use Rattle.gvt.proofs.Commits.{log_after}
use Rattle.gvt.specs.declared.Answer.{Answer}
use Rattle.gvt.specs.declared.Answer.TheVariants.{AlreadyAt, Checkpointed, Committed, Posted, Taken}
use Rattle.gvt.specs.Laws.{MovesAnswer, IsAnswerFor}
use Rattle.gvt.specs.Moves.{Checkpoint, Commit, Move, Post, Take, answer_of, can_post, commit, commit_answer, merged, move, system_after_answer, system_after_commit, system_after_post, take_answer, take_from, reported_before}
use Rattle.gvt.specs.System.{System, gvt, reported_messages, node_of, nodes_of}

-- each handling reported before a time is one event
pub length-merged : (c : ℕ) (ds : List Done) → length (merged c ds) ≡ length (reported_before c ds)
length-merged c ds = omega (arith, length-add_all (reported_messages (reported_before c ds)) [], length-map (reported_before c ds) (λ (d : Done). d.message))

-- 1. A move has an answer if it is made

both_if : {A B : Type 0} (t : Bool) (a : A) (b : B) → is_some (cond t (Some a) None) ≡ is_some (cond t (Some b) None)
both_if true a b = refl
both_if false a b = refl

module _ (m : Meaning) (end node : ℕ) (p : System) where
  both_take : (o : Option Parcel) → is_some (take_answer m end node p o) ≡ is_some (take_from m end node p o)
  both_take None = refl
  both_take (Some parcel) = go (work_here m end (nodes_of p) parcel (node_of p node))
    where
      go : (o : Option Work) → is_some (option_map (λ (w : Work). Taken w.ran (length w.out) (length (flat_map (λ (q : Process). fossils_of parcel.floor q) w.processes))) o)
          ≡ is_some (option_map (λ (w : Work). system_after_answer node parcel p w) o)
      go None = refl
      go (Some w) = refl

made_is : (m : Meaning) (end : ℕ) (k : Move) (p : System) → is_some (answer_of m end k p) ≡ is_some (move m end k p)
made_is m end (Post node picks budget) p = both_if (can_post p node picks) (Posted (gvt end p)) (system_after_post end node picks budget p)
made_is m end (Take node) p = both_take m end node p (get_or p.parcels node None)
made_is m end Commit p = refl
made_is m end Checkpoint p = refl

-- 2. The numbers in the answer

module _ (m : Meaning) (end : ℕ) (p p' : System) (a : Answer) where
  posted_answers : (t : Bool) (q : System) → cond t (Some q) None ≡ Some p' → cond t (Some (Posted (gvt end p))) None ≡ Some a → IsAnswerFor end p p' a
  posted_answers true q e f = subst (IsAnswerFor end p p') (same_Some (Posted (gvt end p)) a f) refl
  posted_answers false q e f = absurd (none-some p' e)

  taken_answers : (node : ℕ) (parcel : Parcel) (o : Option Work) → option_map (λ (w : Work). system_after_answer node parcel p w) o ≡ Some p'
      → option_map (λ (w : Work). Taken w.ran (length w.out) (length (flat_map (λ (q : Process). fossils_of parcel.floor q) w.processes))) o ≡ Some a → IsAnswerFor end p p' a
  taken_answers node parcel None e f = absurd (none-some p' e)
  taken_answers node parcel (Some w) e f =
      let fossils : List Done = flat_map (λ (q : Process). fossils_of parcel.floor q) w.processes in
      subst (IsAnswerFor end p p') (same_Some (Taken w.ran (length w.out) (length fossils)) a f)
      (subst (λ (q : System). IsAnswerFor end p q (Taken w.ran (length w.out) (length fossils))) (same_Some (system_after_answer node parcel p w) p' e)
      (length-append p.transit w.out, length-append p.gathered fossils))

  take_answers : (node : ℕ) (o : Option Parcel) → take_from m end node p o ≡ Some p' → take_answer m end node p o ≡ Some a → IsAnswerFor end p p' a
  take_answers node None e f = absurd (none-some p' e)
  take_answers node (Some parcel) e f = taken_answers node parcel (work_here m end (nodes_of p) parcel (node_of p node)) e f

commit_answers : (m : Meaning) (end : ℕ) (p : System) → IsAnswerFor end p (system_after_commit m end p) (commit_answer end p)
commit_answers m end p =
    let c : ℕ = least_floor end p.floors in
    go c (nat_lt p.front.time c) refl
  where
    go : (c : ℕ) (t : Bool) → nat_lt p.front.time c ≡ t
        → IsAnswerFor end p (cond t (commit m c p) p) (cond t (Committed c (length (reported_before c p.gathered))) (AlreadyAt p.front.time))
    go c true is = (ltb-true p.front.time c is, refl, ap length (log_after m p.front (merged c p.gathered)) ∙ (length-append p.front.log (merged c p.gathered) ∙ ap (λ (n : ℕ). length p.front.log + n) (length-merged c p.gathered)))
    go c false is = (refl, refl)

answers_is : (m : Meaning) (end : ℕ) (k : Move) (p p' : System) (a : Answer) → move m end k p ≡ Some p' → answer_of m end k p ≡ Some a → IsAnswerFor end p p' a
answers_is m end (Post node picks budget) p p' a e f = posted_answers m end p p' a (can_post p node picks) (system_after_post end node picks budget p) e f
answers_is m end (Take node) p p' a e f = take_answers m end p p' a node (get_or p.parcels node None) e f
answers_is m end Commit p p' a e f =
    subst (IsAnswerFor end p p') (same_Some (commit_answer end p) a f)
    (subst (λ (q : System). IsAnswerFor end p q (commit_answer end p)) (same_Some (system_after_commit m end p) p' e) (commit_answers m end p))
answers_is m end Checkpoint p p' a e f =
    subst (IsAnswerFor end p p') (same_Some (Checkpointed p.front.time) a f)
    (subst (λ (q : System). IsAnswerFor end p q (Checkpointed p.front.time)) (same_Some p p' e) (refl, refl))

pub moves_answer : MovesAnswer
moves_answer m end k p = record { made = made_is m end k p; answers = λ p' a e f. answers_is m end k p p' a e f }
