-- All turns of a node, one after another: those done, and those left.
use Rattle.std.proofs.Common.{◌≡◌, ℕ, zero, suc, ◌+◌, ◌-◌, ◌<◌, ◌≤◌, true, false, List, [], ◌∷◌, Option, Some, None, Result, Err, refl, sym, subst, ◌∙◌, ap, arith, cond, inl, inr}
use Rattle.std.specs.Prelude.{nat_lt}
use Rattle.std.proofs.lemmas.Bool.{both_ways, cases_Bool, cases_lt, cond-true, cond-false, lt-ltb, le-ltb}
use Rattle.std.proofs.lemmas.Option.{none-some, same_Some}
use Rattle.eventkey.proofs.Bags.{at_most_total, time_from_at_most}
use Rattle.eventkey.specs.Message.{IsAtMost, Message}
use Rattle.eventkey.specs.declared.Signed.{Signed}
use Rattle.model.specs.Meaning.{Meaning}
use Rattle.process.specs.Process.{has_room}
use Rattle.node.proofs.Deliveries.{some-none, working}
use Rattle.node.proofs.Lesser.{lesser_comm, lesser_first, lesser_none}
use Rattle.process.specs.View.{ProcessView}
use Rattle.queues.specs.Queue.{first_before}
use Rattle.node.specs.Node.{Work, first, here, least_of, lesser, run_here, run_one_here, turn_here}
use Rattle.node.specs.Roster.{IsStaffed, Place, processes_of}
use Rattle.node.specs.Seats.{standings_of}
use Rattle.node.specs.declared.summary.Summary.{Summary}
use Rattle.node.specs.Tournament.{least_among}

-- 1. The least message before the end

-- the message, if its time is before the end
abbrev pub before : ℕ → Option Message → Option Message
before end None = None
before end (Some x) = cond (nat_lt x.time end) (Some x) None

is_before_end : (end : ℕ) (x : Message) → x.time < end → before end (Some x) ≡ Some x
is_before_end end x l = cond-true (nat_lt x.time end) (Some x) None (lt-ltb x.time end l)

is_past_end : (end : ℕ) (x : Message) → end ≤ x.time → before end (Some x) ≡ None
is_past_end end x l = cond-false (nat_lt x.time end) (Some x) None (le-ltb x.time end l)

before_lesser_first : (end : ℕ) (x y : Message) → IsAtMost x y → before end (lesser (Some x) (Some y)) ≡ lesser (before end (Some x)) (before end (Some y))
before_lesser_first end x y h =
    ap (before end) (lesser_first x y h) ∙ elim (cases_lt x.time end) [
      | inl l ↦ is_before_end end x l ∙ sym (ap (λ (o : Option Message). lesser o (before end (Some y))) (is_before_end end x l) ∙ elim (cases_lt y.time end) [
        | inl k ↦ ap (lesser (Some x)) (is_before_end end y k) ∙ lesser_first x y h
        | inr k ↦ ap (lesser (Some x)) (is_past_end end y k)
      ])
      | inr l ↦ (let later = time_from_at_most x y h in
          is_past_end end x l ∙ sym (ap (λ (o : Option Message). lesser o (before end (Some y))) (is_past_end end x l) ∙ is_past_end end y (omega arith)))
    ]

before_lesser : (end : ℕ) (x y : Option Message) → before end (lesser x y) ≡ lesser (before end x) (before end y)
before_lesser end None y = refl
before_lesser end (Some x) None = sym (lesser_none (before end (Some x)))
before_lesser end (Some x) (Some y) = elim (at_most_total x y) [
  | inl h ↦ before_lesser_first end x y h
  | inr h ↦ ap (before end) (lesser_comm (Some x) (Some y)) ∙ before_lesser_first end y x h ∙ lesser_comm (before end (Some y)) (before end (Some x))
]

before_first : (end : ℕ) (xs : List Message) → first_before end xs ≡ before end (first xs)
before_first end [] = refl
before_first end (x ∷ xs) = refl

least_nexts : (end : ℕ) (seats : List ProcessView) → (least_among (standings_of end seats)).next ≡ before end (least_of (processes_of seats))
least_nexts end [] = refl
least_nexts end (q ∷ seats) =
    ap (λ (o : Option Message). lesser o (least_among (standings_of end seats)).next) (before_first end q.process.waiting)
    ∙ ap (lesser (before end (first q.process.waiting))) (least_nexts end seats)
    ∙ sym (before_lesser end (first q.process.waiting) (least_of (processes_of seats)))

-- the least message of the tournament is the one that the node handles next
pub least_is : (p : Place) (seats : List ProcessView) (summaries : List Summary) → IsStaffed p seats summaries → before p.end (least_of (processes_of seats)) ≡ (least_among summaries).next
least_is p seats summaries h = sym (ap (λ (xs : List Summary). (least_among xs).next) h.known ∙ least_nexts p.end seats)

-- 2. Turns

module _ (m : Meaning) (end nodes : ℕ) where
  turn_idle : (rest : Work → Option Work) (w : Work) (o : Option Message) → before end o ≡ None → turn_here m end nodes rest w o ≡ Some w
  turn_idle rest w None e = refl
  turn_idle rest w (Some x) e = elim (cases_Bool (nat_lt x.time end)) [
    | inl l ↦ absurd (none-some x (sym e ∙ cond-true (nat_lt x.time end) (Some x) None l))
    | inr l ↦ cond-false (nat_lt x.time end) (cond (has_room m x (here nodes w x.to)) (rest (run_one_here m nodes x w)) None) (Some w) l
  ]

  turn_of : (rest : Work → Option Work) (w : Work) (o : Option Message) (x : Message) → before end o ≡ Some x → turn_here m end nodes rest w o ≡ cond (has_room m x (here nodes w x.to)) (rest (run_one_here m nodes x w)) None
  turn_of rest w None x e = absurd (none-some x e)
  turn_of rest w (Some y) x e = elim (cases_Bool (nat_lt y.time end)) [
    | inl l ↦
        cond-true (nat_lt y.time end) (cond (has_room m y (here nodes w y.to)) (rest (run_one_here m nodes y w)) None) (Some w) l
        ∙ ap (λ (z : Message). cond (has_room m z (here nodes w z.to)) (rest (run_one_here m nodes z w)) None) (same_Some y x (sym (cond-true (nat_lt y.time end) (Some y) None l) ∙ e))
    | inr l ↦ absurd (none-some x (sym (cond-false (nat_lt y.time end) (Some y) None l) ∙ e))
  ]

  run_idle : (budget : ℕ) (w : Work) → before end (least_of w.processes) ≡ None → run_here m end nodes budget w ≡ Some w
  run_idle zero w e = refl
  run_idle (suc budget) w e = turn_idle (λ (v : Work). run_here m end nodes budget v) w (least_of w.processes) e

  run_more : (budget : ℕ) (w : Work) (x : Message) → before end (least_of w.processes) ≡ Some x → run_here m end nodes (suc budget) w ≡ cond (has_room m x (here nodes w x.to)) (run_here m end nodes budget (run_one_here m nodes x w)) None
  run_more budget w x e = turn_of (λ (v : Work). run_here m end nodes budget v) w (least_of w.processes) x e

  one_less : (budget ran : ℕ) (w : Work) → ran < budget → run_here m end nodes (budget - ran) w ≡ run_here m end nodes (suc (budget - (ran + 1))) w
  one_less budget ran w l = ap (λ n. run_here m end nodes n w) {x = budget - ran} {y = suc (budget - (ran + 1))} (omega arith)

  pub turns_go_on : (budget ran : ℕ) (w w' : Work) (x : Message) (total : Option Work) → ran < budget → before end (least_of w.processes) ≡ Some x → has_room m x (here nodes w x.to) ≡ true →
      w' ≡ run_one_here m nodes x w → run_here m end nodes (budget - ran) w ≡ total → run_here m end nodes (budget - (ran + 1)) w' ≡ total
  turns_go_on budget ran w w' x total l e room one so_far =
      ap (run_here m end nodes (budget - (ran + 1))) one
      ∙ sym (cond-true (has_room m x (here nodes w x.to)) (run_here m end nodes (budget - (ran + 1)) (run_one_here m nodes x w)) None room)
      ∙ sym (run_more (budget - (ran + 1)) w x e)
      ∙ sym (one_less budget ran w l)
      ∙ so_far

  pub turns_fail : (budget ran : ℕ) (w : Work) (x : Message) (total : Option Work) → ran < budget → before end (least_of w.processes) ≡ Some x → has_room m x (here nodes w x.to) ≡ false →
      run_here m end nodes (budget - ran) w ≡ total → total ≡ None
  turns_fail budget ran w x total l e room so_far =
      sym so_far
      ∙ one_less budget ran w l
      ∙ run_more (budget - (ran + 1)) w x e
      ∙ cond-false (has_room m x (here nodes w x.to)) (run_here m end nodes (budget - (ran + 1)) (run_one_here m nodes x w)) None room

  pub turns_stop : (budget ran : ℕ) (w : Work) (total : Option Work) → before end (least_of w.processes) ≡ None → run_here m end nodes (budget - ran) w ≡ total → total ≡ Some w
  turns_stop budget ran w total e so_far = sym so_far ∙ run_idle (budget - ran) w e

  pub turns_done : (budget ran : ℕ) (w : Work) (total : Option Work) → budget ≤ ran → run_here m end nodes (budget - ran) w ≡ total → total ≡ Some w
  turns_done budget ran w total l so_far = sym so_far ∙ ap (λ n. run_here m end nodes n w) {x = budget - ran} {y = zero} (omega arith)

-- 3. The loop of turns; the fixed parts of the roster do not change

module _ (m : Meaning) (p p' : Place) (seats : List ProcessView) (summaries : List Summary) (same : p ≡ p') (staffed : IsStaffed p seats summaries) (budget ran : ℕ) (out : List Signed) (total : Option Work) where
  pub run_goes_on : (x : Message) (w : Work) → ran < budget → (least_among summaries).next ≡ Some x → has_room m x (here p.nodes (working (processes_of seats) out ran) x.to) ≡ true → w ≡ run_one_here m p.nodes x (working (processes_of seats) out ran) →
      run_here m p'.end p'.nodes (budget - ran) (working (processes_of seats) out ran) ≡ total → run_here m p'.end p'.nodes (budget - (ran + 1)) w ≡ total
  run_goes_on x w l e room one =
      subst (λ (k : Place). run_here m k.end k.nodes (budget - ran) (working (processes_of seats) out ran) ≡ total → run_here m k.end k.nodes (budget - (ran + 1)) w ≡ total) same
      (turns_go_on m p.end p.nodes budget ran (working (processes_of seats) out ran) w x total l (least_is p seats summaries staffed ∙ e) room one)

  pub run_fails : (x : Message) → ran < budget → (least_among summaries).next ≡ Some x → has_room m x (here p.nodes (working (processes_of seats) out ran) x.to) ≡ false →
      run_here m p'.end p'.nodes (budget - ran) (working (processes_of seats) out ran) ≡ total → total ≡ None
  run_fails x l e room =
      subst (λ (k : Place). run_here m k.end k.nodes (budget - ran) (working (processes_of seats) out ran) ≡ total → total ≡ None) same
      (turns_fail m p.end p.nodes budget ran (working (processes_of seats) out ran) x total l (least_is p seats summaries staffed ∙ e) room)

  pub run_stops : (least_among summaries).next ≡ None → run_here m p'.end p'.nodes (budget - ran) (working (processes_of seats) out ran) ≡ total → total ≡ Some (working (processes_of seats) out ran)
  run_stops e =
      subst (λ (k : Place). run_here m k.end k.nodes (budget - ran) (working (processes_of seats) out ran) ≡ total → total ≡ Some (working (processes_of seats) out ran)) same
      (turns_stop m p.end p.nodes budget ran (working (processes_of seats) out ran) total (least_is p seats summaries staffed ∙ e))

-- 4. A first turn without room

-- before the first turn the work is the initial one; after it, the first turn had room
pub record HasBegun (m : Meaning) (end nodes ran : ℕ) (first now : Work) : Type 0 where
  pub same : ran ≡ 0 → now ≡ first
  pub room : 0 < ran → run_here m end nodes 1 first ≡ None → ⊥

pub begun : (m : Meaning) (end nodes : ℕ) (w : Work) → HasBegun m end nodes 0 w w
begun m end nodes w = record { same = λ e. refl; room = λ l e. absurd (omega arith) }

module _ (m : Meaning) (p p' : Place) (seats : List ProcessView) (summaries : List Summary) (same : p ≡ p') (staffed : IsStaffed p seats summaries) (ran : ℕ) (out : List Signed) (first : Work) (h : HasBegun m p'.end p'.nodes ran first (working (processes_of seats) out ran)) where
  at_first : (none : run_here m p'.end p'.nodes 1 first ≡ None) → (ran ≡ 0) × (run_here m p'.end p'.nodes (1 - 0) (working (processes_of seats) out 0) ≡ None)
  at_first none = elim (cases_lt 0 ran) [
    | inl l ↦ absurd (h.room l none)
    | inr l ↦ (let zero_is : ran ≡ 0 = omega arith in
        (zero_is, ap (run_here m p'.end p'.nodes 1) (ap (working (processes_of seats) out) (sym zero_is) ∙ h.same zero_is) ∙ none))
  ]

  -- a node without a least message is not limited
  pub not_idle : (least_among summaries).next ≡ None → run_here m p'.end p'.nodes 1 first ≡ None → ⊥
  not_idle e none =
      let now = at_first none in
      some-none (working (processes_of seats) out 0) (sym (run_stops m p p' seats summaries same staffed 1 0 out None e now.1))

  -- the least message has no room
  pub lacks_at_first : (x : Message) → (least_among summaries).next ≡ Some x → run_here m p'.end p'.nodes 1 first ≡ None → has_room m x (here p.nodes (working (processes_of seats) out ran) x.to) ≡ false
  lacks_at_first x e none =
      let now = at_first none in
      elim (cases_Bool (has_room m x (here p.nodes (working (processes_of seats) out 0) x.to))) [
        | inl room ↦ absurd (some-none (run_one_here m p.nodes x (working (processes_of seats) out 0))
            (run_goes_on m p p' seats summaries same staffed 1 0 out None x (run_one_here m p.nodes x (working (processes_of seats) out 0)) (omega arith) e room refl now.1))
        | inr room ↦ ap (λ n. has_room m x (here p.nodes (working (processes_of seats) out n) x.to)) now.0 ∙ room
      ]

  pub begun_more : (x : Message) (w : Work) → (least_among summaries).next ≡ Some x → has_room m x (here p.nodes (working (processes_of seats) out ran) x.to) ≡ true → HasBegun m p'.end p'.nodes (ran + 1) first w
  begun_more x w e room = record {
    same = λ z. absurd (omega arith);
    room = λ l none. both_ways (has_room m x (here p.nodes (working (processes_of seats) out ran) x.to)) (lacks_at_first x e none) room;
  }

pub same_err : {A E : Type 0} {x y : E} → ◌≡◌ {A = Result A E} (Err x) (Err y) → x ≡ y
same_err e = cc
