-- A commit: the front is the sequential simulation, and the reports alone determine it.
use Rattle.std.proofs.Common.{◌≡◌, ℕ, zero, suc, ◌+◌, ◌%◌, ◌<◌, ◌≤◌, ◌^◌, List, [], ◌∷◌, ◌++◌, map, flat_map, length, get_or, min, refl, sym, ap, ◌∙◌, subst, arith, nat_lt, not, ◌==◌, ◌/◌, mod-lt, append_assoc, append-nil, lt-ltb, Some}
use Rattle.std.proofs.lemmas.Bool.{cond-true, cond_both, ltb-true}
use Rattle.std.proofs.lemmas.Option.{same_Some}
use Rattle.std.proofs.lemmas.List.{ext_get_or}
use Rattle.std.specs.List.{AllByRecursion as Every}
use Rattle.eventkey.proofs.Bags.{Every-from_members, Every-member, IsAscending-add_all, IsAscending-remove_all, copies-add_all, copies-remove_all, none_from_Every, same_ascending}
use Rattle.eventkey.proofs.Lists.{Every-append, Every-filter, Every-get_or-default, Every-map, Every-right, Every-unmap, Every-weaker}
use Rattle.eventkey.proofs.Times.{copies-of_sign-le}
use Rattle.eventkey.specs.Bag.{add_all, copies, least_time, remove_all, remove_one}
use Rattle.eventkey.specs.Message.{IsRanged, Message}
use Rattle.eventkey.specs.Signed.{of_sign}
use Rattle.eventkey.specs.declared.Sign.TheVariants.{Minus, Plus}
use Rattle.eventkey.specs.declared.Signed.{Signed}
use Rattle.model.proofs.Worlds.{IsUpto_IsWorld, Reaches-append}
use Rattle.model.specs.Meaning.{IsLawful, Meaning}
use Rattle.model.specs.World.{IsUpto, World, at_time, handled, number_of, opening, state_of}
use Rattle.queues.specs.Record.{messages}
use Rattle.process.specs.declared.Done.{Done}
use Rattle.process.specs.Process.{Process, nobody, number_after, state_after}
use Rattle.gvt.specs.Ledger.{least_floor}
use Rattle.gvt.proofs.Commit.{IsDone, IsReady, NothingTravels, finish}
use Rattle.gvt.proofs.Gathered.{before_is_early, filter_swap, length-reported_numbers, length-reported_states, reported_numbers-at, reported_states-at}
use Rattle.gvt.specs.System.{IsProcessInRange, System, floor_at, gvt, reported_messages, node_of, nodes_of, process_at, processes_of, reported_sends, reported_by, travelling}
use Rattle.gvt.specs.Moves.{Commit, after_messages, commit, merged, move, reported_numbers, system_after_commit, reported_states, reported_before, reported_from}
use Rattle.gvt.specs.Sound.{IsSoundSystem, IsSystem}
use Rattle.gvt.specs.Laws.{CommitIsByReports, CommitIsSequential, CommitsLogTheNextEvents, IsByReports, MayCommit, SystemsMayCommit}

below_least_time : (c t : ℕ) (xs : List Message) → c ≤ least_time t xs → (c ≤ t) × Every (λ (x : Message). c ≤ x.time) xs
below_least_time c t [] h = (h, tt)
below_least_time c t (x ∷ xs) h = let k = below_least_time c (min t x.time) xs h in let a = k.0 in (omega arith, (omega arith, k.1))

pub below_least_floor : (c t : ℕ) (fs : List ℕ) → c ≤ least_floor t fs → (c ≤ t) × ((k : ℕ) → k < length fs → c ≤ get_or fs k 0)
below_least_floor c t [] h = (h, λ k l. absurd (omega arith))
below_least_floor c t (f ∷ fs) h =
    let r = below_least_floor c (min t f) fs h in
    let a = r.0 in
    (omega arith, go r.1 (omega arith))
  where
    go : ((k : ℕ) → k < length fs → c ≤ get_or fs k 0) → c ≤ f → (k : ℕ) → k < suc (length fs) → c ≤ get_or (f ∷ fs) k 0
    go below here zero l = here
    go below here (suc k) l = below k (omega arith)

-- 1. A system state in which a commit may be made is ready for it

module _ (m : Meaning) (end c : ℕ) (p : System) (law : IsLawful m) (short : end ≤ 2 ^ 40) (may : MayCommit m end c p) where
  floors_above : (lp : ℕ) → c ≤ floor_at p lp
  floors_above lp = (below_least_floor c end p.floors may.answered).1 (lp % nodes_of p) (subst (λ n. lp % nodes_of p < n) (sym may.seated.floors) (mod-lt lp may.some))

  copies_merged : (x : Message) → copies x (merged c p.gathered) ≡ copies x (reported_messages (reported_before c p.gathered))
  copies_merged x = omega (arith, copies-add_all x (reported_messages (reported_before c p.gathered)) [])

  merged_below : Every (λ (x : Message). (x.to < m.lps) × (x.time < c)) (merged c p.gathered)
  merged_below =
      let there : Every (λ (x : Message). x.to < m.lps) (reported_messages (reported_before c p.gathered)) =
      Every-map (λ (x : Message). x.to < m.lps) (λ (d : Done). d.message) (reported_before c p.gathered) (Every-filter (λ (d : Done). d.message.to < m.lps) (λ (d : Done). nat_lt d.message.time c) p.gathered may.seated.reported) in
      let early : Every (λ (x : Message). x.time < c) (reported_messages (reported_before c p.gathered)) =
      Every-map (λ (x : Message). x.time < c) (λ (d : Done). d.message) (reported_before c p.gathered) (before_is_early c p.gathered) in
      Every-from_members (λ (x : Message). (x.to < m.lps) × (x.time < c)) (merged c p.gathered) (λ x n.
      let some : 1 ≤ copies x (reported_messages (reported_before c p.gathered)) = omega (arith, copies_merged x) in (
        Every-member (λ (x : Message). x.to < m.lps) (reported_messages (reported_before c p.gathered)) x there some,
        Every-member (λ (x : Message). x.time < c) (reported_messages (reported_before c p.gathered)) x early some,
      ))

  nothing_travels : NothingTravels c p
  nothing_travels x h =
      let waits : List Message = flat_map (λ (q : Process). q.waiting ++ q.antis) (processes_of p) in
      let moves : List Message = map (λ (s : Signed). s.message) (travelling p) in
      let late : Every (λ (y : Message). c ≤ y.time) moves = Every-right (λ (y : Message). c ≤ y.time) waits moves (below_least_time c end (waits ++ moves) may.safe).1 in
      let none : copies x moves ≡ 0 = none_from_Every (λ (y : Message). c ≤ y.time) moves x late (λ k. omega arith) in
      let le = copies-of_sign-le x (travelling p) in
      let a = le.0 in
      let b = le.1 in
      (omega arith, omega arith)

  in_range_at : (lp : ℕ) → IsProcessInRange (process_at p lp)
  in_range_at lp =
      let qs : Every IsProcessInRange (node_of p (lp % nodes_of p)) = Every-get_or-default (λ (qs : List Process). Every IsProcessInRange qs) p.nodes (lp % nodes_of p) [] may.in_range.1 tt in
      Every-get_or-default IsProcessInRange (node_of p (lp % nodes_of p)) (lp / nodes_of p) nobody qs (tt, tt, tt)

  ready : IsReady m c p (merged c p.gathered)
  ready = record {
    reported = may.reported;
    balanced = may.balanced;
    seated = may.seated;
    some = may.some;
    world = IsUpto_IsWorld m end p.front.time p.front law short may.front;
    ranged_reported = Every-unmap IsRanged (λ (d : Done). d.message) p.gathered may.in_range.0;
    ranged_done = λ lp. (in_range_at lp).0;
    floors = floors_above;
    clear = nothing_travels;
    ascending = IsAscending-add_all (reported_messages (reported_before c p.gathered)) [] tt;
    below = merged_below;
    are = copies_merged;
  }

  pub done : IsDone m end c law short (below_least_floor c end p.floors may.answered).0 p (merged c p.gathered)
  done = finish m end c law short (below_least_floor c end p.floors may.answered).0 (merged c p.gathered) p ready

-- 2. The sequential simulation

pub log_after : (m : Meaning) (w : World) (xs : List Message) → (after_messages m w xs).log ≡ w.log ++ xs
log_after m w [] = sym (append-nil w.log)
log_after m w (x ∷ xs) = log_after m (handled m w x (remove_one x w.pending)) xs ∙ append_assoc w.log (x ∷ []) xs

pub commit_is_sequential : CommitIsSequential
commit_is_sequential m end c p may =
    let law = may.lawful in
    let short = may.short in
    let xs : List Message = merged c p.gathered in
    let d = done m end c p law short may in
    let log = log_after m p.front xs in
    let upto = may.front in
    let later = may.later in
    record {
      front = record {
        steps = upto.steps + length xs;
        reached = Reaches-append m end upto.steps (length xs) (opening m) (at_time 0 p.front) (at_time 0 (after_messages m p.front xs)) upto.reached d.reached;
        time = refl;
        logged = subst (Every (λ (x : Message). x.time < c)) (sym log)
            (Every-append (λ (x : Message). x.time < c) p.front.log xs
            (Every-weaker (λ (x : Message). x.time < p.front.time) (λ (x : Message). x.time < c) (λ x h. omega arith) p.front.log upto.logged)
            (Every-weaker (λ (x : Message). (x.to < m.lps) × (x.time < c)) (λ (x : Message). x.time < c) (λ x h. h.1) xs (merged_below m end c p law short may)));
        left = d.left;
      };
      log = log;
      reported = d.reported;
      balanced = d.balanced;
      in_range = (
        Every-map IsRanged (λ (d : Done). d.message) (reported_from c p.gathered)
            (Every-filter (λ (d : Done). IsRanged d.message) (λ (d : Done). not (nat_lt d.message.time c)) p.gathered (Every-unmap IsRanged (λ (d : Done). d.message) p.gathered may.in_range.0)),
        may.in_range.1,
        may.in_range.2,
      );
      seated = record {
        seats = may.seated.seats;
        parcels = may.seated.parcels;
        floors = may.seated.floors;
        reported = Every-filter (λ (d : Done). d.message.to < m.lps) (λ (d : Done). not (nat_lt d.message.time c)) p.gathered may.seated.reported;
      };
      same_gvt = refl;
    }

-- 3. The front from the reports

pub commit_is_by_reports : CommitIsByReports
commit_is_by_reports m end c p may =
    let law = may.lawful in
    let short = may.short in
    let xs : List Message = merged c p.gathered in
    let ds : List Done = reported_before c p.gathered in
    let d = done m end c p law short may in
    let is = IsUpto_IsWorld m end p.front.time p.front law short may.front in
    let w : World = after_messages m p.front xs in
    let swap : (lp : ℕ) → reported_before c (reported_by lp p.gathered) ≡ reported_by lp ds = λ lp. filter_swap (λ (d : Done). nat_lt d.message.time c) (λ (d : Done). d.message.to == lp) p.gathered in
    let states : w.states ≡ reported_states ds p.front.states =
    ext_get_or [] w.states (reported_states ds p.front.states) (d.world.states ∙ sym (length-reported_states ds p.front.states ∙ is.states)) (λ lp l.
    d.states lp ∙ ap (λ zs. state_after zs (state_of p.front lp)) (swap lp) ∙ sym (reported_states-at ds p.front.states lp (subst (λ n. lp < n) (d.world.states ∙ sym is.states) l))) in
    let numbers : w.numbers ≡ reported_numbers ds p.front.numbers =
    ext_get_or 0 w.numbers (reported_numbers ds p.front.numbers) (d.world.numbers ∙ sym (length-reported_numbers ds p.front.numbers ∙ is.numbers)) (λ lp l.
    d.numbers lp ∙ ap (λ zs. number_after zs (number_of p.front lp)) (swap lp) ∙ sym (reported_numbers-at ds p.front.numbers lp (subst (λ n. lp < n) (d.world.numbers ∙ sym is.numbers) l))) in
    let bag : List Message = add_all (reported_sends ds) p.front.pending in
    let all : (y : Message) → copies y w.pending + copies y xs ≡ copies y bag = λ y. let a = d.pending y in omega (arith, copies-add_all y (reported_sends ds) p.front.pending) in
    let pending : w.pending ≡ remove_all xs bag =
    same_ascending w.pending (remove_all xs bag) d.world.ascending (IsAscending-remove_all xs bag (IsAscending-add_all (reported_sends ds) p.front.pending is.ascending)) (λ y.
    let a = all y in
    omega (arith, copies-remove_all y xs bag (λ x. let b = all x in omega arith))) in
    record {
      front = λ i. record { time = c; states = states i; numbers = numbers i; pending = pending i; log = log_after m p.front xs i };
      states = λ lp l. d.states lp;
      numbers = λ lp l. d.numbers lp;
    }

-- 4. The move of a sound system state

pub least_floor-le : (t : ℕ) (fs : List ℕ) → least_floor t fs ≤ t
least_floor-le t [] = omega arith
least_floor-le t (f ∷ fs) = omega (arith, least_floor-le (min t f) fs)

-- the least floor is at most any bound of all floors, if there is a floor
least_floor-under : (t g : ℕ) (fs : List ℕ) → 1 ≤ length fs → Every (λ (f : ℕ). f ≤ g) fs → least_floor t fs ≤ g
least_floor-under t g [] some h = absurd (omega arith)
least_floor-under t g (f ∷ fs) some h = let a = h.0 in omega (arith, least_floor-le (min t f) fs)

-- at any time from the front's on that is at most each node's floor
pub systems_may_commit : SystemsMayCommit
systems_may_commit m end c p system later answered = let h = system.sound in record {
  lawful = system.lawful;
  short = system.short;
  seated = h.seated;
  in_range = h.in_range;
  reported = h.reported;
  balanced = h.balanced;
  front = h.front;
  some = h.some;
  later = later;
  safe = (let some = h.some in omega (arith, least_floor-under end (gvt end p) p.floors (subst (λ n. 1 ≤ n) (sym h.seated.floors) h.some) h.floors_low));
  answered = answered;
}

least_floor-each : (t : ℕ) (fs : List ℕ) → Every (λ (f : ℕ). least_floor t fs ≤ f) fs
least_floor-each t [] = tt
least_floor-each t (f ∷ fs) = (omega (arith, least_floor-le (min t f) fs), least_floor-each (min t f) fs)

-- a commit keeps a system state sound, and does not change global virtual time
module _ (m : Meaning) (end : ℕ) (p : System) (system : IsSystem m end p) where
  sound_at : (c : ℕ) → p.front.time ≤ c → c ≤ least_floor end p.floors → IsSoundSystem m end (commit m c p)
  sound_at c later answered =
      let h = system.sound in
      let is = commit_is_sequential m end c p (systems_may_commit m end c p system later answered) in
      record {
        front = is.front;
        in_range = is.in_range;
        reported = is.reported;
        balanced = is.balanced;
        seated = is.seated;
        some = h.some;
        front_low = Every-weaker (λ (f : ℕ). least_floor end p.floors ≤ f) (λ (f : ℕ). c ≤ f) (λ f a. omega arith) p.floors (least_floor-each end p.floors);
        floors_low = h.floors_low;
        there = h.there;
        parcels = h.parcels;
      }

  sound_committed : IsSoundSystem m end (system_after_commit m end p) × (gvt end p ≤ gvt end (system_after_commit m end p))
  sound_committed =
      cond_both (nat_lt p.front.time (least_floor end p.floors)) (commit m (least_floor end p.floors) p) p (λ (q : System). IsSoundSystem m end q × (gvt end p ≤ gvt end q))
      (λ e. let less = ltb-true p.front.time (least_floor end p.floors) e in (sound_at (least_floor end p.floors) (omega arith) (omega arith), omega arith))
      (λ _. (system.sound, omega arith))

pub sound_commit : (m : Meaning) (end : ℕ) (p p' : System) → IsSystem m end p → move m end Commit p ≡ Some p' → IsSoundSystem m end p' × (gvt end p ≤ gvt end p')
sound_commit m end p p' system e =
    subst (λ (q : System). IsSoundSystem m end q × (gvt end p ≤ gvt end q)) (same_Some (system_after_commit m end p) p' e) (sound_committed m end p system)

-- a commit appends the next events of the sequential simulation: the messages reported below the
-- new time, in message order
pub commits_log : CommitsLogTheNextEvents
commits_log m end p system less =
    let c = least_floor end p.floors in
    let may = systems_may_commit m end c p system (omega arith) (omega arith) in
    let is = commit_is_sequential m end c p may in
    let by = commit_is_by_reports m end c p may in
    let e : system_after_commit m end p ≡ commit m c p = cond-true (nat_lt p.front.time c) (commit m c p) p (lt-ltb p.front.time c less) in
    record {
      front = subst (λ (q : System). IsUpto m end c q.front) (sym e) is.front;
      log = ap (λ (q : System). q.front.log) e ∙ is.log;
      in_order = IsAscending-add_all (reported_messages (reported_before c p.gathered)) [] tt;
      by_reports = subst (λ (q : System). IsByReports m.lps c p q.front) (sym e) by;
    }
