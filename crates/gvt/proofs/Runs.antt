-- The laws of a running system.
use Rattle.std.proofs.Common.{zero, suc, set, length, sym, length-set, ◌∙◌, ◌≡◌, ℕ, ◌≤◌, subst, arith, Some, refl, ap, Option, None, List, [], ◌∷◌, ◌++◌}
use Rattle.std.proofs.lemmas.Bool.{cond_both, ltb-true}
use Rattle.std.proofs.lemmas.Option.{same_Some, none-some}
use Rattle.std.specs.List.{AllByRecursion as Every}
use Rattle.std.specs.Prelude.{nat_lt, get_or, option_and_then, unwrap_or, ◌<◌, ◌^◌}
use Rattle.eventkey.proofs.Lists.{Every-all, Every-get_or, Every-left, Every-right}
use Rattle.eventkey.specs.Message.{Message}
use Rattle.model.proofs.Worlds.{upto_goes_on, upto_is_one}
use Rattle.model.specs.Meaning.{IsLawful, Meaning}
use Rattle.model.specs.World.{IsUpto, World, opening}
use Rattle.gvt.specs.Ledger.{least_floor}
use Rattle.gvt.proofs.Commits.{sound_commit}
use Rattle.gvt.proofs.Gvt.{gvt-le}
use Rattle.gvt.proofs.Opened.{opening_is_sound}
use Rattle.gvt.proofs.Posts.{sound_post}
use Rattle.gvt.proofs.Takes.{sound_take, taken_from}
use Rattle.gvt.specs.System.{System, gvt, opened}
use Rattle.gvt.specs.Moves.{Checkpoint, Commit, Move, Post, Run, Take, after_moves, after_runs, can_post, commit, move, moves_made, system_after_commit, system_after_post}
use Rattle.gvt.specs.Sound.{GoesOnFrom, IsOpening, IsSoundSystem, IsSystem}
use Rattle.gvt.specs.Laws.{AreMade, AreMadeInParts, FirstOpens, FrontsOpen, MovesAreSound, MovesMadeAreSound, MovesMadeJoin, MovesMadePart, RunsAreOneSimulation, RunsAreSound}
use Rattle.gvt.specs.Readers.{OptimisticIsSequential, SchedulesAgree}

-- floors, none of which has fallen
record HaveRisen (old new : List ℕ) : Type 0 where
  size : length new ≡ length old
  each : (i : ℕ) → get_or old i 0 ≤ get_or new i 0

risen_none : (fs : List ℕ) → HaveRisen fs fs
risen_none fs = record { size = refl; each = λ i. omega arith }

risen_set : (fs : List ℕ) (node floor : ℕ) → get_or fs node 0 ≤ floor → HaveRisen fs (set fs node floor)
risen_set fs node floor up = record { size = length-set fs node floor; each = λ i. go fs node i up }
  where
    go : (fs : List ℕ) (node i : ℕ) → get_or fs node 0 ≤ floor → get_or fs i 0 ≤ get_or (set fs node floor) i 0
    go [] node i l = omega arith
    go (f ∷ fs) zero zero l = l
    go (f ∷ fs) zero (suc i) l = omega arith
    go (f ∷ fs) (suc node) zero l = omega arith
    go (f ∷ fs) (suc node) (suc i) l = go fs node i l

kept_sound : (m : Meaning) (end : ℕ) (k : Move) (p p' : System) → IsSystem m end p → move m end k p ≡ Some p' → IsSoundSystem m end p' × (gvt end p ≤ gvt end p')
kept_sound m end (Post node picks budget) p p' h e = sound_post m end node picks budget p p' h.sound e
kept_sound m end (Take node) p p' h e = sound_take m end node p p' h e
kept_sound m end Commit p p' h e = sound_commit m end p p' h e
kept_sound m end Checkpoint p p' h e = subst (λ (q : System). IsSoundSystem m end q × (gvt end p ≤ gvt end q)) (same_Some p p' e) (h.sound, omega arith)

later_front : (m : Meaning) (end : ℕ) (k : Move) (p p' : System) → move m end k p ≡ Some p' → p.front.time ≤ p'.front.time
later_front m end (Post node picks budget) p p' e =
    cond_both (can_post p node picks) (Some (system_after_post end node picks budget p)) None (λ (r : Option System). r ≡ Some p' → p.front.time ≤ p'.front.time)
    (λ _ f. let g : p.front.time ≡ p'.front.time = ap (λ (q : System). q.front.time) (same_Some (system_after_post end node picks budget p) p' f) in omega arith)
    (λ _ f. absurd (none-some p' f)) e
later_front m end (Take node) p p' e =
    let t = taken_from m end node p p' (get_or p.parcels node None) refl e in
    let g : p.front.time ≡ p'.front.time = ap (λ (q : System). q.front.time) t.is in
    omega arith
later_front m end Commit p p' e =
    let g = ap (λ (q : System). q.front.time) (same_Some (system_after_commit m end p) p' e) in
    let h : p.front.time ≤ (system_after_commit m end p).front.time =
    cond_both (nat_lt p.front.time (least_floor end p.floors)) (commit m (least_floor end p.floors) p) p (λ (q : System). p.front.time ≤ q.front.time)
    (λ f. let less = ltb-true p.front.time (least_floor end p.floors) f in omega arith) (λ _. omega arith) in
    omega arith
later_front m end Checkpoint p p' e = let g = ap (λ (q : System). q.front.time) (same_Some p p' e) in omega arith

floors_kept : (m : Meaning) (end : ℕ) (k : Move) (p p' : System) → IsSoundSystem m end p → move m end k p ≡ Some p' → HaveRisen p.floors p'.floors
floors_kept m end (Post node picks budget) p p' h e =
    cond_both (can_post p node picks) (Some (system_after_post end node picks budget p)) None (λ (r : Option System). r ≡ Some p' → HaveRisen p.floors p'.floors)
    (λ _ f. subst (λ (q : System). HaveRisen p.floors q.floors) (same_Some (system_after_post end node picks budget p) p' f) (risen_none p.floors))
    (λ _ f. absurd (none-some p' f)) e
floors_kept m end (Take node) p p' h e =
    let t = taken_from m end node p p' (get_or p.parcels node None) refl e in
    subst (λ (q : System). HaveRisen p.floors q.floors) t.is (risen_set p.floors node t.parcel.floor (h.parcels node t.parcel t.posted).from)
floors_kept m end Commit p p' h e =
    let here : HaveRisen p.floors (system_after_commit m end p).floors =
    cond_both (nat_lt p.front.time (least_floor end p.floors)) (commit m (least_floor end p.floors) p) p (λ (q : System). HaveRisen p.floors q.floors) (λ _. risen_none p.floors) (λ _. risen_none p.floors) in
    subst (λ (q : System). HaveRisen p.floors q.floors) (same_Some (system_after_commit m end p) p' e) here
floors_kept m end Checkpoint p p' h e = subst (λ (q : System). HaveRisen p.floors q.floors) (same_Some p p' e) (risen_none p.floors)

goes_on : (m : Meaning) (end : ℕ) (p p' : System) → IsSoundSystem m end p → IsSoundSystem m end p' → gvt end p ≤ gvt end p' → HaveRisen p.floors p'.floors → p.front.time ≤ p'.front.time → GoesOnFrom end p p'
goes_on m end p p' h h' rises risen later = record {
  gvt_rises = rises;
  same_nodes = sym h'.seated.floors ∙ risen.size ∙ h.seated.floors;
  floors_rise = risen.each;
  time_rises = later;
  log_grows = upto_goes_on m end p.front.time p'.front.time p.front p'.front later h.front h'.front;
}

pub moves_are_sound : MovesAreSound
moves_are_sound m end k p p' h e =
    let new = kept_sound m end k p p' h e in
    (record { lawful = h.lawful; short = h.short; sound = new.0 }, goes_on m end p p' h.sound new.0 new.1 (floors_kept m end k p p' h.sound e) (later_front m end k p p' e))

module _ (m : Meaning) (end : ℕ) where
  goes_on_from : (p q r : System) → IsSystem m end p → IsSystem m end r → GoesOnFrom end p q → GoesOnFrom end q r → GoesOnFrom end p r
  goes_on_from p q r h h' a b =
      let a1 = a.gvt_rises in
      let b1 = b.gvt_rises in
      let a2 = a.time_rises in
      let b2 = b.time_rises in
      let later : p.front.time ≤ r.front.time = omega arith in
      record {
        gvt_rises = omega arith;
        same_nodes = b.same_nodes ∙ a.same_nodes;
        floors_rise = λ node. let x = a.floors_rise node in let y = b.floors_rise node in omega arith;
        time_rises = later;
        log_grows = upto_goes_on m end p.front.time r.front.time p.front r.front later h.sound.front h'.sound.front;
      }

  goes_nowhere : (p : System) → IsSystem m end p → GoesOnFrom end p p
  goes_nowhere p h = goes_on m end p p h.sound h.sound (omega arith) (risen_none p.floors) (omega arith)

  -- a refused move changes nothing
  one_move : (p : System) (o : Option System) → IsSystem m end p → ((p' : System) → o ≡ Some p' → IsSystem m end p' × GoesOnFrom end p p') →
      IsSystem m end (unwrap_or o p) × GoesOnFrom end p (unwrap_or o p)
  one_move p None h f = (h, goes_nowhere p h)
  one_move p (Some p') h f = f p' refl

  all_moves : (ks : List Move) (p : System) → IsSystem m end p → IsSystem m end (after_moves m end ks p) × GoesOnFrom end p (after_moves m end ks p)
  all_moves [] p h = (h, goes_nowhere p h)
  all_moves (k ∷ ks) p h =
      let next : System = unwrap_or (move m end k p) p in
      let one = one_move p (move m end k p) h (λ p' e. moves_are_sound m end k p p' h e) in
      let rest = all_moves ks next one.0 in
      (rest.0, goes_on_from p next (after_moves m end ks next) h rest.0 one.1 rest.1)

  after-append : (ks ls : List Move) (p : System) → after_moves m end (ks ++ ls) p ≡ after_moves m end ls (after_moves m end ks p)
  after-append [] ls p = refl
  after-append (k ∷ ks) ls p = after-append ks ls (unwrap_or (move m end k p) p)

pub runs_are_sound : RunsAreSound
runs_are_sound m end nodes w ks ls begins =
    let first = all_moves m end ks (opened m.lps nodes w) (opening_is_sound m end nodes w begins) in
    rw (after-append m end ks ls (opened m.lps nodes w)) (all_moves m end ls (after_moves m end ks (opened m.lps nodes w)) first.0)

-- Lists of moves of which none is refused

abbrev made_then : Meaning → ℕ → List Move → Option System → Option System
made_then m end ls o = option_and_then (λ (q : System). moves_made m end ls q) o

join_from : (m : Meaning) (end : ℕ) (ks ls : List Move) (o : Option System) → ((q : System) → moves_made m end (ks ++ ls) q ≡ made_then m end ls (moves_made m end ks q)) →
    made_then m end (ks ++ ls) o ≡ made_then m end ls (made_then m end ks o)
join_from m end ks ls None rest = refl
join_from m end ks ls (Some q) rest = rest q

pub moves_made_join : MovesMadeJoin
moves_made_join m end [] ls p = refl
moves_made_join m end (k ∷ ks) ls p = join_from m end ks ls (move m end k p) (λ q. moves_made_join m end ks ls q)

parts_of : (m : Meaning) (end : ℕ) (ks ls : List Move) (p r : System) (o : Option System) → moves_made m end ks p ≡ o → made_then m end ls o ≡ Some r → AreMadeInParts m end ks ls p r
parts_of m end ks ls p r None first e = absurd (none-some r e)
parts_of m end ks ls p r (Some q) first e = record { middle = q; first = first; others = e }

pub moves_made_part : MovesMadePart
moves_made_part m end ks ls p r e = parts_of m end ks ls p r (moves_made m end ks p) refl (sym (moves_made_join m end ks ls p) ∙ e)

one_more : (m : Meaning) (end : ℕ) (k : Move) (ks : List Move) (p q : System) (o : Option System) → ((r : System) → IsSystem m end r → moves_made m end ks r ≡ Some q → AreMade m end ks r q) →
    IsSystem m end p → move m end k p ≡ o → made_then m end ks o ≡ Some q → AreMade m end (k ∷ ks) p q
one_more m end k ks p q None rest h was e = absurd (none-some q e)
one_more m end k ks p q (Some r) rest h was e =
    let one = moves_are_sound m end k p r h was in
    let all = rest r one.0 e in
    record {
      system = all.system;
      goes_on = goes_on_from m end p r q h all.system one.1 all.goes_on;
      same = ap (λ (o : Option System). after_moves m end ks (unwrap_or o p)) was ∙ all.same;
    }

pub moves_made_are_sound : MovesMadeAreSound
moves_made_are_sound m end [] p q h e =
    let same : p ≡ q = same_Some p q e in
    subst (AreMade m end [] p) same (record { system = h; goes_on = goes_nowhere m end p h; same = refl })
moves_made_are_sound m end (k ∷ ks) p q h e = one_more m end k ks p q (move m end k p) (λ r. moves_made_are_sound m end ks r q) h refl e

-- Openings one after another

pub first_opens : FirstOpens
first_opens m end nodes law short some = record {
  lawful = law;
  short = short;
  some = some;
  soon = omega arith;
  front = record { steps = 0; reached = refl; time = refl; logged = tt; left = Every-all (λ (x : Message). 0 ≤ x.time) (λ x. omega arith) (opening m).pending };
}

pub fronts_open : FrontsOpen
fronts_open m end nodes p h some =
    let s = h.sound in
    let here : 0 < length p.floors = let a = s.some in let b = s.seated.floors in omega arith in
    let low = Every-get_or (λ (f : ℕ). p.front.time ≤ f) p.floors 0 0 here s.front_low in
    let high = Every-get_or (λ (f : ℕ). f ≤ gvt end p) p.floors 0 0 here s.floors_low in
    let end_is = gvt-le end p in
    record { lawful = h.lawful; short = h.short; some = some; soon = omega arith; front = s.front }

-- the front between two runs
record IsBetween (m : Meaning) (end : ℕ) (w : World) : Type 0 where
  front : IsUpto m end w.time w
  soon : w.time ≤ end

module _ (m : Meaning) (end : ℕ) (law : IsLawful m) (short : end ≤ 2 ^ 40) where
  opens : (nodes : ℕ) (w : World) → 1 ≤ nodes → IsBetween m end w → IsOpening m end nodes w
  opens nodes w some b = record { lawful = law; short = short; some = some; soon = b.soon; front = b.front }

  after_one : (r : Run) (w : World) → 1 ≤ r.nodes → IsBetween m end w → IsBetween m end (after_moves m end r.moves (opened m.lps r.nodes w)).front
  after_one r w some b =
      let all = all_moves m end r.moves (opened m.lps r.nodes w) (opening_is_sound m end r.nodes w (opens r.nodes w some b)) in
      let next = fronts_open m end r.nodes (after_moves m end r.moves (opened m.lps r.nodes w)) all.0 some in
      record { front = next.front; soon = next.soon }

  later_than : (r : Run) (w : World) → 1 ≤ r.nodes → IsBetween m end w → w.time ≤ (after_moves m end r.moves (opened m.lps r.nodes w)).front.time
  later_than r w some b = (all_moves m end r.moves (opened m.lps r.nodes w) (opening_is_sound m end r.nodes w (opens r.nodes w some b))).1.time_rises

  all_runs : (rs : List Run) (w : World) → Every (λ (r : Run). 1 ≤ r.nodes) rs → IsBetween m end w → IsBetween m end (after_runs m end rs w) × (w.time ≤ (after_runs m end rs w).time)
  all_runs [] w some b = (b, omega arith)
  all_runs (r ∷ rs) w some b =
      let next : World = (after_moves m end r.moves (opened m.lps r.nodes w)).front in
      let rest = all_runs rs next some.1 (after_one r w some.0 b) in
      let up = later_than r w some.0 b in
      let more = rest.1 in
      (rest.0, omega arith)

  runs-append : (rs ss : List Run) (w : World) → after_runs m end (rs ++ ss) w ≡ after_runs m end ss (after_runs m end rs w)
  runs-append [] ss w = refl
  runs-append (r ∷ rs) ss w = runs-append rs ss (after_moves m end r.moves (opened m.lps r.nodes w)).front

pub runs_are_one_simulation : RunsAreOneSimulation
runs_are_one_simulation m end rs ss law short some =
    let o = first_opens m end 1 law short (omega arith) in
    let start : IsBetween m end (opening m) = record { front = o.front; soon = o.soon } in
    let first = all_runs m end law short rs (opening m) (Every-left (λ (r : Run). 1 ≤ r.nodes) rs ss some) start in
    let v : World = after_runs m end rs (opening m) in
    let then' = all_runs m end law short ss v (Every-right (λ (r : Run). 1 ≤ r.nodes) rs ss some) first.0 in
    rw (runs-append m end law short rs ss (opening m)) (record {
      front = then'.0.front;
      soon = then'.0.soon;
      time_rises = then'.1;
      log_grows = upto_goes_on m end v.time (after_runs m end ss v).time v (after_runs m end ss v) then'.1 first.0.front then'.0.front;
    })

-- The user-level theorem

pub optimistic_is_sequential : OptimisticIsSequential
optimistic_is_sequential m end nodes w ks ls law short some soon front =
    let all = runs_are_sound m end nodes w ks ls (record { lawful = law; short = short; some = some; soon = soon; front = front }) in
    record { front = all.0.sound.front; log_grows = all.1.log_grows; gvt_rises = all.1.gvt_rises }

pub schedules_agree : SchedulesAgree
schedules_agree m end nodes nodes' u ks ls law short some some' soon front =
    let v : World = (after_moves m end ks (opened m.lps nodes u)).front in
    let w : World = (after_moves m end ls (opened m.lps nodes' u)).front in
    let a : IsUpto m end v.time v = (optimistic_is_sequential m end nodes u [] ks law short some soon front).front in
    let b : IsUpto m end w.time w = (optimistic_is_sequential m end nodes' u [] ls law short some' soon front).front in
    record {
      begins = λ up. upto_goes_on m end v.time w.time v w up a b;
      same = λ e. upto_is_one m end w.time v w (subst (λ (g : ℕ). IsUpto m end g v) e a) b;
    }
