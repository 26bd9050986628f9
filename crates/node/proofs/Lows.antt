-- The least waiting time of a node is that of its tournament.
use Rattle.std.proofs.Common.{◌≡◌, ℕ, List, [], ◌∷◌, ◌++◌, Option, Some, refl, sym, ◌∙◌, ap}
use Rattle.std.specs.Prelude.{flat_map}
use Rattle.std.proofs.lemmas.List.{append-nil}
use Rattle.eventkey.proofs.Bags.{least_time-append, least_time-min}
use Rattle.eventkey.specs.Bag.{least_time}
use Rattle.eventkey.specs.Message.{Message}
use Rattle.process.specs.Process.{Process}
use Rattle.process.specs.View.{ProcessView}
use Rattle.node.specs.Node.{earliest, first_time, low_of}
use Rattle.node.specs.Roster.{IsStaffed, Place, processes_of}
use Rattle.node.specs.Seats.{standings_of}
use Rattle.node.specs.Tournament.{least_among}
use Rattle.node.specs.declared.summary.Summary.{Summary}

pub first_time-append : (xs ys : List Message) → first_time (xs ++ ys) ≡ earliest (first_time xs) (first_time ys)
first_time-append [] ys = refl
first_time-append (x ∷ xs) [] = ap first_time (append-nil (x ∷ xs))
first_time-append (x ∷ xs) (y ∷ ys) = ap Some (least_time-append x.time xs (y ∷ ys) ∙ least_time-min (least_time x.time xs) y.time ys)

least_low : (end : ℕ) (seats : List ProcessView) → (least_among (standings_of end seats)).low ≡ low_of (processes_of seats)
least_low end [] = refl
least_low end (q ∷ seats) =
    ap (earliest (first_time (q.process.waiting ++ q.process.antis))) (least_low end seats)
    ∙ sym (first_time-append (q.process.waiting ++ q.process.antis) (flat_map (λ (p : Process). p.waiting ++ p.antis) (processes_of seats)))

pub low_reported : (p : Place) (seats : List ProcessView) (summaries : List Summary) (low : Option ℕ) → IsStaffed p seats summaries → low ≡ (least_among summaries).low → low ≡ low_of (processes_of seats)
low_reported p seats summaries low h is = is ∙ ap (λ (xs : List Summary). (least_among xs).low) h.known ∙ least_low p.end seats
