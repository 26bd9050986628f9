-- The turns of a node: which process has the least message, how its handling changes the node, and
-- all turns together.
use Rattle.std.proofs.Common.{◌≡◌, ℕ, suc, ◌+◌, ◌/◌, ◌%◌, ◌<◌, true, false, Bool, List, [], ◌∷◌, ◌++◌, length, get_or, map, set, Option, Some, None, refl, sym, subst, ◌∙◌, ap, arith, inl, inr}
use Rattle.std.specs.Prelude.{nat_lt, ◌⊎◌}
use Rattle.std.specs.List.{AllByRecursion as Every}
use Rattle.std.proofs.lemmas.Bool.{cases_Bool, cond-true, cond-false}
use Rattle.std.proofs.lemmas.List.{get_or-map, length-map, map-set}
use Rattle.std.proofs.lemmas.Option.{none-some, same_Some}
use Rattle.eventkey.proofs.Bags.{at_most_total}
use Rattle.eventkey.proofs.Lists.{Every-get_or}
use Rattle.eventkey.specs.Message.{Message}
use Rattle.eventkey.specs.Signed.{plus}
use Rattle.eventkey.specs.declared.Signed.{Signed}
use Rattle.model.specs.Meaning.{Meaning}
use Rattle.process.specs.Process.{Process, handle, handling_of, has_room, nobody}
use Rattle.node.proofs.Deliveries.{working}
use Rattle.node.proofs.Lesser.{lesser_first, lesser_second}
use Rattle.node.proofs.Owns.{handle_done, handle_waiting}
use Rattle.node.proofs.Seats.{IsAt, IsOwnAt, length-lps, own_at, picked, staffed_again}
use Rattle.node.specs.Fault.{fault_of}
use Rattle.node.specs.Handling.{own_lps}
use Rattle.process.specs.View.{HasRun, LacksRoom, ProcessView}
use Rattle.queues.specs.Queue.{first_before}
use Rattle.node.specs.Node.{here, lesser, run_one_here}
use Rattle.node.specs.Roster.{IsSeated, IsStaffed, Place, processes_of}
use Rattle.node.specs.Seats.{represented_of}
use Rattle.node.specs.Tournament.{absent, least_among}
use Rattle.node.specs.declared.summary.Summary.{Summary}
use Rattle.node.specs.declared.NodeFault.TheVariants as node
use Rattle.process.specs.declared.ProcessFault.{ProcessFault}
use Rattle.process.specs.declared.ProcessFault.TheVariants.{BelowFloor, NoMemory, NotMine, NumberLimit, Spent}

-- 1. The process that has the least message

lesser_either : (x y : Option Message) → (lesser x y ≡ x) ⊎ (lesser x y ≡ y)
lesser_either None y = inr refl
lesser_either (Some x) None = inl refl
lesser_either (Some x) (Some y) = elim (at_most_total x y) [ inl h ↦ inl (lesser_first x y h) | inr h ↦ inr (lesser_second x y h) ]

-- the least message is that of one summary
pub record IsOneOf (xs : List Summary) (x : Message) : Type 0 where
  pub at : ℕ
  pub inside : at < length xs
  pub is : (get_or xs at absent).next ≡ Some x

one_later : (y : Summary) (xs : List Summary) (x : Message) → IsOneOf xs x → IsOneOf (y ∷ xs) x
one_later y xs x h = let l = h.inside in record { at = suc h.at; inside = omega arith; is = h.is }

least_is_one : (xs : List Summary) (x : Message) → (least_among xs).next ≡ Some x → IsOneOf xs x
least_is_one [] x e = absurd (none-some x e)
least_is_one (y ∷ xs) x e = elim (lesser_either y.next (least_among xs).next) [
  | inl h ↦ record { at = 0; inside = omega arith; is = sym h ∙ e }
  | inr h ↦ one_later y xs x (least_is_one xs x (sym h ∙ e))
]

first_fits : (P : Message → Type 0) (end : ℕ) (xs : List Message) (x : Message) → Every P xs → first_before end xs ≡ Some x → P x
first_fits P end [] x h e = absurd (none-some x e)
first_fits P end (y ∷ ys) x h e = elim (cases_Bool (nat_lt y.time end)) [
  | inl l ↦ subst P (same_Some y x (sym (cond-true (nat_lt y.time end) (Some y) None l) ∙ e)) h.0
  | inr l ↦ absurd (none-some x (sym (cond-false (nat_lt y.time end) (Some y) None l) ∙ e))
]

-- the process of the least message is at its place, and has it as its next one
pub record IsNext (p : Place) (seats : List ProcessView) (x : Message) (q : ProcessView) : Type 0 where
  pub sits : x.to % p.nodes ≡ p.node
  pub there : x.to < p.lps
  pub next : first_before p.end (get_or seats (x.to / p.nodes) q).process.waiting ≡ Some x

next_at : (p : Place) (seats : List ProcessView) (summaries : List Summary) (x : Message) (q : ProcessView) → IsStaffed p seats summaries → IsOneOf summaries x → IsNext p seats x q
next_at p seats summaries x q h one =
    let i : ℕ = one.at in
    let inside = one.inside in
    let len : length summaries ≡ length seats = ap length h.known ∙ length-map seats (λ (v : ProcessView). represented_of p.end v) in
    let inside' : i < length seats = omega arith in
    let next : first_before p.end (get_or seats i q).process.waiting ≡ Some x =
    ap (λ (s : Summary). s.next) (sym (get_or-map (λ (v : ProcessView). represented_of p.end v) seats i q absent inside') ∙ ap (λ (xs : List Summary). get_or xs i absent) (sym h.known)) ∙ one.is in
    let seated = Every-get_or (IsSeated p.floor) seats i q inside' h.seated in
    let own : x.to ≡ (get_or seats i q).lp = first_fits (λ (y : Message). y.to ≡ (get_or seats i q).lp) p.end (get_or seats i q).process.waiting x seated.own_waiting next in
    let lp : x.to ≡ get_or (own_lps p.nodes p.node p.lps) i 0 = own ∙ sym (get_or-map (λ (v : ProcessView). v.lp) seats i q 0 inside') ∙ ap (λ xs. get_or xs i 0) h.lps in
    let at : IsOwnAt p.nodes p.node p.lps i x.to = subst (IsOwnAt p.nodes p.node p.lps i) (sym lp) (own_at p.nodes p.node h.node p.lps i (rw (← length-lps p seats h.lps) inside')) in
    record {
      sits = at.sits;
      there = at.there;
      next = ap (λ k. first_before p.end (get_or seats k q).process.waiting) at.place ∙ next;
    }

-- 2. One turn

-- The facts before a turn
pub record IsTurn (p : Place) (seats : List ProcessView) (summaries : List Summary) (x : Message) (lp : ℕ) (q : ProcessView) : Type 0 where
  pub lp_is : lp ≡ x.to
  pub staffed : IsStaffed p seats summaries
  pub least : (least_among summaries).next ≡ Some x
  pub read : q ≡ get_or seats (lp / p.nodes) q

pub record IsOnTurn (p : Place) (seats : List ProcessView) (x : Message) (q : ProcessView) : Type 0 where
  pub sits : x.to % p.nodes ≡ p.node
  pub there : x.to < p.lps
  pub at : IsAt p seats x.to q
  pub read : q ≡ get_or seats (x.to / p.nodes) q
  pub next : first_before p.end q.process.waiting ≡ Some x

pub on_turn : (p : Place) (seats : List ProcessView) (summaries : List Summary) (x : Message) (lp : ℕ) (q : ProcessView) → IsTurn p seats summaries x lp q → IsOnTurn p seats x q
on_turn p seats summaries x lp q h =
    let n = next_at p seats summaries x q h.staffed (least_is_one summaries x h.least) in
    let read : q ≡ get_or seats (x.to / p.nodes) q = subst (λ k. q ≡ get_or seats (k / p.nodes) q) h.lp_is h.read in
    record {
      sits = n.sits;
      there = n.there;
      at = picked p seats summaries x.to q h.staffed n.sits n.there read;
      read = read;
      next = ap (λ (v : ProcessView). first_before p.end v.process.waiting) read ∙ n.next;
    }

-- the place that a turn reads, before it is known that a process is there
pub turn_place : (p : Place) (seats : List ProcessView) (summaries : List Summary) (x : Message) → IsStaffed p seats summaries → (least_among summaries).next ≡ Some x → (x.to % p.nodes ≡ p.node) × (x.to < p.lps)
turn_place p seats summaries x h e = let n = next_at p seats summaries x nothing h (least_is_one summaries x e) in (n.sits, n.there)
  where
    nothing : ProcessView
    nothing = record { lp = 0; floor = 0; spent = false; process = nobody }

-- a process that handled its next message
pub record IsHandled (m : Meaning) (x : Message) (q r : ProcessView) (out out' : List Signed) : Type 0 where
  pub process : r ≡ record { lp = q.lp; floor = q.floor; spent = q.spent; process = handle m q.lp x q.process }
  pub sent : out' ≡ out ++ map plus (handling_of m q.lp x q.process).sent

handled_next : (m : Meaning) (end : ℕ) (x : Message) (q r : ProcessView) (out out' : List Signed) → first_before end q.process.waiting ≡ Some x → HasRun m end q r out out' → IsHandled m x q r out out'
handled_next m end x q r out out' next h =
    let same : h.message ≡ x = same_Some h.message x (sym h.next ∙ next) in
    record {
      process = h.process ∙ ap (λ (y : Message). with_process q (handle m q.lp y q.process)) same;
      sent = h.out ∙ ap (λ (y : Message). out ++ map plus (handling_of m q.lp y q.process).sent) same;
    }
  where
    with_process : ProcessView → Process → ProcessView
    with_process v w = record { lp = v.lp; floor = v.floor; spent = v.spent; process = w }

-- the result of a process that has a next message
pub has_run : (m : Meaning) (end : ℕ) (x : Message) (q r : ProcessView) (out out' : List Signed) (did : Bool) → first_before end q.process.waiting ≡ Some x →
    (did ≡ true → HasRun m end q r out out') → (did ≡ false → first_before end q.process.waiting ≡ None) → IsHandled m x q r out out'
has_run m end x q r out out' did next ran idle = elim (cases_Bool did) [
  | inl e ↦ handled_next m end x q r out out' next (ran e)
  | inr e ↦ absurd (none-some x (sym (idle e) ∙ next))
]

handled_seated : (m : Meaning) (floor : ℕ) (x : Message) (q r : ProcessView) (out out' : List Signed) → x.to ≡ q.lp → IsSeated floor q → IsHandled m x q r out out' → IsSeated floor r
handled_seated m floor x q r out out' own h is = subst (IsSeated floor) (sym is.process) (record {
  from_floor = h.from_floor;
  unspent = h.unspent;
  own_done = handle_done (λ (y : Message). y.to ≡ q.lp) m q.lp x q.process own h.own_done;
  own_waiting = handle_waiting (λ (y : Message). y.to ≡ q.lp) m q.lp x q.process h.own_waiting;
})

pub turn_ready : (m : Meaning) (p : Place) (seats : List ProcessView) (summaries : List Summary) (x : Message) (lp : ℕ) (q r : ProcessView) (out out' : List Signed) (summary : Summary) → IsTurn p seats summaries x lp q →
    IsHandled m x q r out out' → summary ≡ represented_of p.end r → IsStaffed p (set seats (lp / p.nodes) r) (set summaries (lp / p.nodes) summary)
turn_ready m p seats summaries x lp q r out out' summary h is known =
    let t = on_turn p seats summaries x lp q h in
    subst (λ k. IsStaffed p (set seats (k / p.nodes) r) (set summaries (k / p.nodes) summary)) (sym h.lp_is)
    (staffed_again p seats summaries (x.to / p.nodes) q r summary h.staffed t.read (ap (λ (v : ProcessView). v.lp) is.process) (handled_seated m p.floor x q r out out' (sym t.at.lp_is) t.at.seated is) known)

pub turn_work : (m : Meaning) (p : Place) (seats : List ProcessView) (summaries : List Summary) (x : Message) (lp : ℕ) (q r : ProcessView) (out out' : List Signed) (ran : ℕ) → IsTurn p seats summaries x lp q →
    IsHandled m x q r out out' → working (processes_of (set seats (lp / p.nodes) r)) out' (ran + 1) ≡ run_one_here m p.nodes x (working (processes_of seats) out ran)
turn_work m p seats summaries x lp q r out out' ran h is =
    let t = on_turn p seats summaries x lp q h in
    let i : ℕ = x.to / p.nodes in
    let qs : List Process = processes_of seats in
    ap (λ k. working (processes_of (set seats (k / p.nodes) r)) out' (ran + 1)) h.lp_is
    ∙ ap (λ (xs : List Process). working xs out' (ran + 1))
    (map-set (λ (v : ProcessView). v.process) seats i r
    ∙ ap (λ (v : ProcessView). set qs i v.process) is.process
    ∙ ap (λ k. set qs i (handle m k x q.process)) t.at.lp_is
    ∙ ap (λ (v : Process). set qs i (handle m x.to x v)) (sym t.at.here))
    ∙ ap (λ (xs : List Signed). working (set qs i (handle m x.to x (get_or qs i nobody))) xs (ran + 1))
    (is.sent ∙ ap (λ k. out ++ map plus (handling_of m k x q.process).sent) t.at.lp_is ∙ ap (λ (v : Process). out ++ map plus (handling_of m x.to x v).sent) (sym t.at.here))

-- the send number has room in the process exactly if it has room in the node
pub room_here : (m : Meaning) (p : Place) (seats : List ProcessView) (summaries : List Summary) (x : Message) (lp : ℕ) (q : ProcessView) (out : List Signed) (ran : ℕ) → IsTurn p seats summaries x lp q →
    has_room m x (here p.nodes (working (processes_of seats) out ran) x.to) ≡ has_room m x q.process
room_here m p seats summaries x lp q out ran h = ap (has_room m x) (on_turn p seats summaries x lp q h).at.here

pub lacks_room : (m : Meaning) (end : ℕ) (x : Message) (q : Process) → first_before end q.waiting ≡ Some x → LacksRoom m end q → has_room m x q ≡ false
lacks_room m end x q next h = ap (λ (y : Message). has_room m y q) (sym (same_Some h.message x (sym h.next ∙ next))) ∙ h.room

-- a process that fails to run has met an allocation failure or has no room
pub run_fault : (Room : Type 0) (fault : ProcessFault) → (fault ≡ NotMine → ⊥) → (fault ≡ BelowFloor → ⊥) → (fault ≡ NumberLimit → Room) → (fault ≡ Spent → ⊥) →
    (fault_of fault ≡ node.NoMemory) ⊎ ((fault_of fault ≡ node.NumberLimit) × Room)
run_fault Room NotMine a b c d = absurd (a refl)
run_fault Room BelowFloor a b c d = absurd (b refl)
run_fault Room NoMemory a b c d = inl refl
run_fault Room NumberLimit a b c d = inr (refl, c refl)
run_fault Room Spent a b c d = absurd (d refl)

pub has_room_then : (m : Meaning) (end : ℕ) (x : Message) (q : Process) → first_before end q.waiting ≡ Some x → (LacksRoom m end q → ⊥) → has_room m x q ≡ true
has_room_then m end x q next h = elim (cases_Bool (has_room m x q)) [
  | inl e ↦ e
  | inr e ↦ absurd (h (record { message = x; next = next; room = e }))
]
