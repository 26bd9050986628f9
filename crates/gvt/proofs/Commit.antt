-- A commit: along the merged messages, each is the least pending one, and the first that its
-- process reported.
use Rattle.std.proofs.Common.{◌≡◌, ℕ, List, [], ◌∷◌, refl, inl, inr, arith, nat_lt, ◌<◌, ◌≤◌, ◌+◌, flat_map, ap, ap₂, ◌∙◌, length, subst, ◌^◌, true, ◌++◌, sym, Some, None, get_or-set_same, get_or-set_other, nat_le, lt-ltb, le-leb, ◌==◌}
use Rattle.std.proofs.lemmas.Bool.{cases_lt, cases_eq, and_from, cond-true}
use Rattle.std.specs.List.{AllByRecursion as Every}
use Rattle.eventkey.proofs.Bags.{Every-from_members, Every-member, IsAscending-remove_one, at_most_from_before, copies-add_all, copies-append, copies-remove_one, copies-remove_one-le, earlier_before, head_at_most, least_is_head, none_from_Every, one_if_same_itself, same_from_at_most, time_from_at_most}
use Rattle.eventkey.proofs.Lists.{Every-filter, Every-unmap, Every-weaker, IsAscending-left}
use Rattle.eventkey.specs.Bag.{IsAscending, copies, one_if_same, remove_one}
use Rattle.eventkey.specs.Message.{IsAtMost, IsRanged, Message}
use Rattle.eventkey.specs.Signed.{of_sign}
use Rattle.eventkey.specs.declared.Sign.TheVariants.{Minus, Plus}
use Rattle.model.proofs.Worlds.{handled_IsWorld, length-stamp, stamp_later, words_at}
use Rattle.model.specs.Meaning.{IsAddressed, IsLawful, IsSend, IsWords, Meaning, stamp}
use Rattle.model.specs.World.{IsWorld, Reaches, World, at_time, can_handle, handled, number_of, state_of, step, step_from}
use Rattle.model.specs.declared.Outgoing.{Outgoing}
use Rattle.queues.specs.Record.{Record, messages, number_before, state_before}
use Rattle.process.specs.declared.Done.{Done}
use Rattle.process.specs.Process.{number_after, sent_by, state_after}
use Rattle.process.specs.Consistent.{IsFold, IsConsistentProcess, AreConsistent}
use Rattle.gvt.proofs.Gathered.{Every-without, copies-before_without, copies-sent_without, copies-reported_before, copies-reported_by, copies-reported_without, from_same, none_before, none_reported, sent_before_without, split_first, reported_before-cons, reported_by-apart, reported_by-without, filter_swap}
use Rattle.gvt.proofs.Places.{sent_by_none}
use Rattle.gvt.specs.System.{IsBalanced, IsSeatedBy, IsConsistent, System, all_sent, floor_at, reported_messages, nodes_of, process_at, processes_of, reported_sends, reported_by, travelling}
use Rattle.gvt.specs.Moves.{after_messages, reported_before, reported_from}

-- 1. Sends

stamp_none : (lps lp t k : ℕ) (os : List Outgoing) (x : Message) → Every (IsSend lps) os → x.time ≤ t → copies x (stamp lp t k os) ≡ 0
stamp_none lps lp t k os x h le = none_from_Every (λ (y : Message). t < y.time) (stamp lp t k os) x (stamp_later lps lp t k os h) (λ n. omega arith)

-- handlings that are not before x did not send x
sends_none : (m : Meaning) (lp : ℕ) (state : List ℕ) (number : ℕ) (hs : List Record) (state' : List ℕ) (number' : ℕ) (x : Message) → IsLawful m → lp < m.lps → IsWords state →
    Every IsRanged (messages hs) → IsFold m lp state number hs state' number' → Every (λ (y : Message). x.time ≤ y.time) (messages hs) → copies x (flat_map (λ (h : Record). h.sent) hs) ≡ 0
sends_none m lp state number [] state' number' x law l words ranged f late = refl
sends_none m lp state number (h ∷ hs) state' number' x law l words ranged f late =
    let sends : List Outgoing = m.sends lp state h.message in
    let here : copies x h.sent ≡ 0 = ap (copies x) f.2 ∙ stamp_none m.lps lp h.message.time number sends x (law.each lp state h.message l words ranged.0) late.0 in
    let next : IsWords (m.next_state lp state h.message) = law.words lp state h.message l words ranged.0 in
    let rest = sends_none m lp (m.next_state lp state h.message) (number + length h.sent) hs state' number' x law l next ranged.1 f.4 late.1 in
    omega (arith, copies-append x h.sent (flat_map (λ (h : Record). h.sent) hs))

-- the same for reported handlings, and the state after them
reported_none : (m : Meaning) (lp : ℕ) (state : List ℕ) (number : ℕ) (ds : List Done) (x : Message) → IsLawful m → lp < m.lps → IsWords state →
    Every (λ (d : Done). IsRanged d.message) ds → AreConsistent m lp state number ds → Every (λ (d : Done). x.time ≤ d.message.time) ds → (copies x (reported_sends ds) ≡ 0) × IsWords (state_after ds state)
reported_none m lp state number [] x law l words ranged f late = (refl, words)
reported_none m lp state number (d ∷ ds) x law l words ranged f late =
    let sends : List Outgoing = m.sends lp state d.message in
    let here : copies x d.sent ≡ 0 = ap (copies x) f.0 ∙ stamp_none m.lps lp d.message.time number sends x (law.each lp state d.message l words ranged.0) late.0 in
    let next : IsWords d.after = subst IsWords (sym f.1) (law.words lp state d.message l words ranged.0) in
    let rest = reported_none m lp d.after d.number_after ds x law l next ranged.1 f.4 late.1 in
    let none = rest.0 in
    (omega (arith, copies-append x d.sent (reported_sends ds)), rest.1)

-- 2. A system state within a commit: these messages are still to be committed

-- nothing before c is under way
abbrev pub NothingTravels : ℕ → System → Type 0
NothingTravels c p = (x : Message) → x.time < c → (copies x (of_sign Plus (travelling p)) ≡ 0) × (copies x (of_sign Minus (travelling p)) ≡ 0)

pub record IsReady (m : Meaning) (c : ℕ) (p : System) (xs : List Message) : Type 0 where
  pub reported : IsConsistent m p
  pub balanced : IsBalanced m p
  pub seated : IsSeatedBy m.lps p
  pub some : 1 ≤ nodes_of p
  pub world : IsWorld m.lps p.front
  pub ranged_reported : Every (λ (d : Done). IsRanged d.message) p.gathered
  pub ranged_done : (lp : ℕ) → Every IsRanged (messages (process_at p lp).done)
  pub floors : (lp : ℕ) → c ≤ floor_at p lp
  pub clear : NothingTravels c p
  pub ascending : IsAscending xs
  pub below : Every (λ (x : Message). (x.to < m.lps) × (x.time < c)) xs
  pub are : (x : Message) → copies x xs ≡ copies x (reported_messages (reported_before c p.gathered))

module _ (m : Meaning) (end c : ℕ) (law : IsLawful m) (short : end ≤ 2 ^ 40) (le : c ≤ end) where
  module _ (p : System) (xs : List Message) (is : IsReady m c p xs) where
    -- below c, the messages to be committed are those pending and those sent
    balance_below : (x : Message) → x.to < m.lps → x.time < c → copies x xs ≡ copies x p.front.pending + copies x (all_sent p)
    balance_below x l h =
        let q = process_at p x.to in
        let t = is.reported x.to l in
        let f = is.floors x.to in
        let done : copies x (messages q.done) ≡ 0 = none_from_Every (λ (y : Message). floor_at p x.to ≤ y.time) (messages q.done) x t.done_from (λ k. omega arith) in
        let waiting : copies x q.waiting ≡ 0 = none_from_Every (λ (y : Message). floor_at p x.to ≤ y.time) q.waiting x t.waiting_from (λ k. omega arith) in
        let antis : copies x q.antis ≡ 0 = none_from_Every (λ (y : Message). floor_at p x.to ≤ y.time) q.antis x t.antis_from (λ k. omega arith) in
        let cl = is.clear x h in
        let plus = cl.0 in
        let minus = cl.1 in
        omega (arith, is.balanced x l, is.are x, copies-reported_before x c p.gathered h)

  -- 3. The first of these messages, x

  -- a process that reported x before c, and nothing less than x, reported x first
  reported_first : (x : Message) (ds : List Done) → IsAscending (reported_messages ds) → 1 ≤ copies x (reported_messages ds) → ((d : Done) (es : List Done) → ds ≡ d ∷ es → IsAtMost x d.message) →
      (d : Done) × (rest : List Done) × (ds ≡ d ∷ rest) × (d.message ≡ x)
  reported_first x [] up n least = absurd (omega arith)
  reported_first x (d ∷ ds) up n least =
      (d, ds, refl, same_from_at_most d.message x (head_at_most d.message x (reported_messages ds) up n) (least d ds refl))

  module _ (p : System) (x : Message) (xs : List Message) (is : IsReady m c p (x ∷ xs)) where
    x_to : x.to < m.lps
    x_to = is.below.0.0

    x_time : x.time < c
    x_time = is.below.0.1

    x_in : 1 ≤ copies x (x ∷ xs)
    x_in = omega (arith, one_if_same_itself x)

    -- the messages reported before c are at least x
    least_reported : (y : Message) → 1 ≤ copies y (reported_messages p.gathered) → y.time < c → IsAtMost x y
    least_reported y n h = head_at_most x y xs is.ascending (omega (arith, is.are y, copies-reported_before y c p.gathered h))

    reported_late : Every (λ (d : Done). x.time ≤ d.message.time) p.gathered
    reported_late =
        Every-unmap (λ (y : Message). x.time ≤ y.time) (λ (d : Done). d.message) p.gathered
        (Every-from_members (λ (y : Message). x.time ≤ y.time) (reported_messages p.gathered) (λ y n. elim (cases_lt y.time c) [
          | inl h ↦ time_from_at_most x y (least_reported y n h)
          | inr h ↦ (let t = x_time in omega arith)
        ]))

    reported_by_late : (lp : ℕ) → Every (λ (d : Done). x.time ≤ d.message.time) (reported_by lp p.gathered)
    reported_by_late lp = Every-filter (λ (d : Done). x.time ≤ d.message.time) (λ (d : Done). d.message.to == lp) p.gathered reported_late

    reported_by_ranged : (lp : ℕ) → Every (λ (d : Done). IsRanged d.message) (reported_by lp p.gathered)
    reported_by_ranged lp = Every-filter (λ (d : Done). IsRanged d.message) (λ (d : Done). d.message.to == lp) p.gathered is.ranged_reported

    reported_by_none : (lp : ℕ) → lp < m.lps → (copies x (reported_sends (reported_by lp p.gathered)) ≡ 0) × IsWords (state_after (reported_by lp p.gathered) (state_of p.front lp))
    reported_by_none lp l =
        reported_none m lp (state_of p.front lp) (number_of p.front lp) (reported_by lp p.gathered) x law l (words_at p.front lp is.world.words) (reported_by_ranged lp) (is.reported lp l).consistent_fold (reported_by_late lp)

    done_none : (lp : ℕ) → lp < m.lps → copies x (sent_by (process_at p lp)) ≡ 0
    done_none lp l =
        let q = process_at p lp in
        let t = is.reported lp l in
        sends_none m lp (state_before q.done q.state) (number_before q.done q.number) q.done q.state q.number x law l (subst IsWords (sym t.state_meets) (reported_by_none lp l).1) (is.ranged_done lp) t.history
        (Every-weaker (λ (y : Message). floor_at p lp ≤ y.time) (λ (y : Message). x.time ≤ y.time) (λ y k. let f = is.floors lp in let u = x_time in omega arith) (messages q.done) t.done_from)

    not_sent : copies x (all_sent p) ≡ 0
    not_sent =
        let reported : copies x (reported_sends p.gathered) ≡ 0 = none_reported m.lps x p.gathered is.seated.reported (λ lp l. (reported_by_none lp l).0) in
        let done : copies x (flat_map sent_by (processes_of p)) ≡ 0 = sent_by_none m.lps x p is.seated done_none in
        omega (arith, copies-append x (reported_sends p.gathered) (flat_map sent_by (processes_of p)))

    pending_is : p.front.pending ≡ x ∷ remove_one x p.front.pending
    pending_is =
        least_is_head x p.front.pending is.world.ascending
        (let b = balance_below p (x ∷ xs) is x x_to x_time in let n = not_sent in let i = x_in in omega arith)
        (λ y n. elim (cases_lt y.time c) [
          | inl h ↦
              (let l : y.to < m.lps = (Every-member (IsAddressed m.lps) p.front.pending y is.world.addressed n).to in
              let b = balance_below p (x ∷ xs) is y l h in
              head_at_most x y xs is.ascending (omega arith))
          | inr h ↦ at_most_from_before x y (earlier_before x y (let t = x_time in omega arith))
        ])

    first : (d : Done) × (rest : List Done) × (reported_by x.to p.gathered ≡ d ∷ rest) × (d.message ≡ x)
    first =
        let mine = reported_by x.to p.gathered in
        let t = is.reported x.to x_to in
        let up : IsAscending (reported_messages mine) = IsAscending-left (reported_messages mine) (messages (process_at p x.to).done) t.ascending in
        let there : 1 ≤ copies x (reported_messages mine) = (let i = x_in in let s = x_time in omega (arith, is.are x, copies-reported_before x c p.gathered s, copies-reported_by x x.to p.gathered refl)) in
        reported_first x mine up there
        (λ d es e.
        let here : 1 ≤ copies d.message (reported_messages mine) = subst (λ zs. 1 ≤ copies d.message (reported_messages zs)) (sym e) (omega (arith, one_if_same_itself d.message)) in
        let own : Every (λ (d : Done). d.message.to ≡ x.to) (d ∷ es) = subst (Every (λ (d : Done). d.message.to ≡ x.to)) e t.own_reported in
        let up' : IsAscending (reported_messages (d ∷ es)) = subst (λ zs. IsAscending (reported_messages zs)) e up in
        let there' : 1 ≤ copies x (reported_messages (d ∷ es)) = subst (λ zs. 1 ≤ copies x (reported_messages zs)) e there in
        let before : d.message.time ≤ x.time = time_from_at_most d.message x (head_at_most d.message x (reported_messages es) up' there') in
        least_reported d.message (omega (arith, copies-reported_by d.message x.to p.gathered own.0)) (let s = x_time in omega arith))

  -- 4. The system state after x

  -- a system state with another front, and with the rest of the reports
  abbrev with_front : System → World → List Done → System
  with_front p w ds = record p { front = w; gathered = ds }

  module _ (p : System) (x : Message) (xs : List Message) (is : IsReady m c p (x ∷ xs)) (d : Done) (rest ls rs : List Done)
      (e : reported_by x.to p.gathered ≡ d ∷ rest) (dm : d.message ≡ x) (split : p.gathered ≡ ls ++ d ∷ rs) (none : reported_by x.to ls ≡ []) (left : reported_by x.to rs ≡ rest) where
    abbrev state_old : List ℕ
    state_old = state_of p.front x.to

    abbrev number_old : ℕ
    number_old = number_of p.front x.to

    abbrev sent_now : List Outgoing
    sent_now = m.sends x.to state_old x

    abbrev front_after : World
    front_after = handled m p.front x (remove_one x p.front.pending)

    abbrev after : System
    after = with_front p front_after (ls ++ rs)

    own_reported : IsConsistentProcess m x.to p.front.time state_old number_old (floor_at p x.to) (d ∷ rest) (process_at p x.to)
    own_reported = subst (λ zs. IsConsistentProcess m x.to p.front.time state_old number_old (floor_at p x.to) zs (process_at p x.to)) e (is.reported x.to is.below.0.0)

    early : d.message.time < c
    early = subst (λ (y : Message). y.time < c) (sym dm) is.below.0.1

    sent_is : d.sent ≡ stamp x.to x.time number_old sent_now
    sent_is = subst (λ (y : Message). d.sent ≡ stamp x.to y.time number_old (m.sends x.to state_old y)) dm own_reported.consistent_fold.0

    sent_count : length d.sent ≡ length sent_now
    sent_count = ap length sent_is ∙ length-stamp x.to x.time number_old sent_now

    state_is : d.after ≡ m.next_state x.to state_old x
    state_is = subst (λ (y : Message). d.after ≡ m.next_state x.to state_old y) dm own_reported.consistent_fold.1

    number_is : d.number_after ≡ number_old + length sent_now
    number_is = own_reported.consistent_fold.2 ∙ ap (λ n. number_old + n) sent_count

    room : number_old + length sent_now ≤ 2 ^ 63
    room = subst (λ n. n ≤ 2 ^ 63) number_is own_reported.consistent_fold.3

    can : can_handle m end p.front x ≡ true
    can =
        and_from (nat_lt x.time end) (nat_le (number_old + length sent_now) (2 ^ 63))
        (lt-ltb x.time end (let t = is.below.0.1 in omega arith))
        (le-leb (number_old + length sent_now) (2 ^ 63) room)

    step_after : step m end (at_time 0 p.front) ≡ Some (at_time 0 front_after)
    step_after =
        ap (step_from m end (at_time 0 p.front)) (pending_is p x xs is)
        ∙ cond-true (can_handle m end p.front x) (Some (at_time 0 front_after)) None can

    reported_by_own : reported_by x.to (ls ++ rs) ≡ rest
    reported_by_own = reported_by-apart x.to ls rs ∙ ap (λ zs. zs ++ reported_by x.to rs) none ∙ left

    reported_by_others : (lp : ℕ) → (lp ≡ x.to → ⊥) → reported_by lp (ls ++ rs) ≡ reported_by lp p.gathered
    reported_by_others lp ne = sym (reported_by-without lp ls d rs (λ f. ne (sym f ∙ ap (λ (y : Message). y.to) dm))) ∙ ap (reported_by lp) (sym split)

    state_at_own : state_of front_after x.to ≡ d.after
    state_at_own = get_or-set_same p.front.states x.to (m.next_state x.to state_old x) [] (subst (λ n. x.to < n) (sym is.world.states) is.below.0.0) ∙ sym state_is

    number_at_own : number_of front_after x.to ≡ d.number_after
    number_at_own = get_or-set_same p.front.numbers x.to (number_old + length sent_now) 0 (subst (λ n. x.to < n) (sym is.world.numbers) is.below.0.0) ∙ sym number_is

    state_at_other : (lp : ℕ) → (lp ≡ x.to → ⊥) → state_of front_after lp ≡ state_of p.front lp
    state_at_other lp ne = get_or-set_other p.front.states x.to lp (m.next_state x.to state_old x) [] ne

    number_at_other : (lp : ℕ) → (lp ≡ x.to → ⊥) → number_of front_after lp ≡ number_of p.front lp
    number_at_other lp ne = get_or-set_other p.front.numbers x.to lp (number_old + length sent_now) 0 ne

    own_reported_after : IsConsistentProcess m x.to p.front.time d.after d.number_after (floor_at p x.to) rest (process_at p x.to)
    own_reported_after = record {
      consistent_fold = own_reported.consistent_fold.4;
      history = own_reported.history;
      state_meets = own_reported.state_meets;
      number_meets = own_reported.number_meets;
      number_limit = own_reported.number_limit;
      ascending = own_reported.ascending.1;
      waiting_ascending = own_reported.waiting_ascending;
      antis_ascending = own_reported.antis_ascending;
      behind = own_reported.behind;
      own_reported = own_reported.own_reported.1;
      own_done = own_reported.own_done;
      own_waiting = own_reported.own_waiting;
      own_antis = own_reported.own_antis;
      reported_from = own_reported.reported_from.1;
      reported_below = own_reported.reported_below.1;
      done_from = own_reported.done_from;
      waiting_from = own_reported.waiting_from;
      antis_from = own_reported.antis_from;
    }

    reported_at_own : IsConsistentProcess m x.to p.front.time (state_of front_after x.to) (number_of front_after x.to) (floor_at p x.to) (reported_by x.to (ls ++ rs)) (process_at p x.to)
    reported_at_own =
        subst (λ zs. IsConsistentProcess m x.to p.front.time (state_of front_after x.to) (number_of front_after x.to) (floor_at p x.to) zs (process_at p x.to)) (sym reported_by_own)
        (subst (λ k. IsConsistentProcess m x.to p.front.time (state_of front_after x.to) k (floor_at p x.to) rest (process_at p x.to)) (sym number_at_own)
        (subst (λ t. IsConsistentProcess m x.to p.front.time t d.number_after (floor_at p x.to) rest (process_at p x.to)) (sym state_at_own) own_reported_after))

    reported_at_other : (lp : ℕ) → (lp ≡ x.to → ⊥) → lp < m.lps → IsConsistentProcess m lp p.front.time (state_of front_after lp) (number_of front_after lp) (floor_at p lp) (reported_by lp (ls ++ rs)) (process_at p lp)
    reported_at_other lp ne l =
        subst (λ zs. IsConsistentProcess m lp p.front.time (state_of front_after lp) (number_of front_after lp) (floor_at p lp) zs (process_at p lp)) (sym (reported_by_others lp ne))
        (subst (λ k. IsConsistentProcess m lp p.front.time (state_of front_after lp) k (floor_at p lp) (reported_by lp p.gathered) (process_at p lp)) (sym (number_at_other lp ne))
        (subst (λ t. IsConsistentProcess m lp p.front.time t (number_of p.front lp) (floor_at p lp) (reported_by lp p.gathered) (process_at p lp)) (sym (state_at_other lp ne)) (is.reported lp l)))

    reported_after : IsConsistent m after
    reported_after lp l = elim (cases_eq lp x.to) [
      | inl f ↦ subst (λ k. IsConsistentProcess m k p.front.time (state_of front_after k) (number_of front_after k) (floor_at p k) (reported_by k (ls ++ rs)) (process_at p k)) (sym f) reported_at_own
      | inr ne ↦ reported_at_other lp ne l
    ]

    sent_after : (y : Message) → copies y (all_sent p) ≡ copies y d.sent + copies y (all_sent after)
    sent_after y =
        let reported : copies y (reported_sends p.gathered) ≡ copies y d.sent + copies y (reported_sends (ls ++ rs)) = ap (λ zs. copies y (reported_sends zs)) split ∙ copies-sent_without y ls d rs in
        omega (arith, copies-append y (reported_sends p.gathered) (flat_map sent_by (processes_of p)), copies-append y (reported_sends (ls ++ rs)) (flat_map sent_by (processes_of p)))

    pending_after : (y : Message) → one_if_same y x + copies y front_after.pending ≡ copies y p.front.pending + copies y d.sent
    pending_after y =
        let x_pending : 1 ≤ copies x p.front.pending = subst (λ zs. 1 ≤ copies x zs) (sym (pending_is p x xs is)) (omega (arith, one_if_same_itself x)) in
        let s : copies y d.sent ≡ copies y (stamp x.to x.time number_old sent_now) = ap (copies y) sent_is in
        omega (arith, copies-add_all y (stamp x.to x.time number_old sent_now) (remove_one x p.front.pending), copies-remove_one y x p.front.pending x_pending)

    gathered_after : (y : Message) → copies y (reported_messages p.gathered) ≡ one_if_same y x + copies y (reported_messages (ls ++ rs))
    gathered_after y =
        ap (λ zs. copies y (reported_messages zs)) split ∙ (copies-reported_without y ls d rs ∙ ap (λ z. one_if_same y z + copies y (reported_messages (ls ++ rs))) dm)

    before_after : (y : Message) → copies y (reported_messages (reported_before c p.gathered)) ≡ one_if_same y x + copies y (reported_messages (reported_before c (ls ++ rs)))
    before_after y =
        ap (λ zs. copies y (reported_messages (reported_before c zs))) split
        ∙ (copies-before_without c ls d rs early y ∙ ap (λ z. one_if_same y z + copies y (reported_messages (reported_before c (ls ++ rs)))) dm)

    balanced_after : IsBalanced m after
    balanced_after y l = omega (arith, is.balanced y l, sent_after y, pending_after y, gathered_after y)

    x_ranged : IsRanged x
    x_ranged = subst IsRanged dm (subst (Every (λ (d : Done). IsRanged d.message)) e (reported_by_ranged p x xs is x.to)).0

    world_after : IsWorld m.lps front_after
    world_after =
        let r : List Message = remove_one x p.front.pending in
        handled_IsWorld m p.front x r law is.world (record { to = is.below.0.0; ranged = x_ranged }) (let t = is.below.0.1 in omega arith) room
        (IsAscending-remove_one x p.front.pending is.world.ascending)
        (Every-from_members (IsAddressed m.lps) r (λ y n.
        Every-member (IsAddressed m.lps) p.front.pending y is.world.addressed (omega (arith, copies-remove_one-le y x p.front.pending))))

    ready_after : IsReady m c after xs
    ready_after = record {
      reported = reported_after;
      balanced = balanced_after;
      seated = record {
        seats = is.seated.seats;
        parcels = is.seated.parcels;
        floors = is.seated.floors;
        reported = Every-without (λ (d : Done). d.message.to < m.lps) ls d rs (subst (Every (λ (d : Done). d.message.to < m.lps)) split is.seated.reported);
      };
      some = is.some;
      world = world_after;
      ranged_reported = Every-without (λ (d : Done). IsRanged d.message) ls d rs (subst (Every (λ (d : Done). IsRanged d.message)) split is.ranged_reported);
      ranged_done = is.ranged_done;
      floors = is.floors;
      clear = is.clear;
      ascending = is.ascending.1;
      below = is.below.1;
      are = λ y. omega (arith, is.are y, before_after y);
    }

    -- the reports before c of each process
    own_before : reported_before c (reported_by x.to p.gathered) ≡ d ∷ reported_before c (reported_by x.to (ls ++ rs))
    own_before = ap (reported_before c) e ∙ (reported_before-cons c d rest early ∙ ap (λ zs. d ∷ reported_before c zs) (sym reported_by_own))

    state_goes_on : (lp : ℕ) → state_after (reported_before c (reported_by lp (ls ++ rs))) (state_of front_after lp) ≡ state_after (reported_before c (reported_by lp p.gathered)) (state_of p.front lp)
    state_goes_on lp = elim (cases_eq lp x.to) [
      | inl f ↦ subst (λ k. state_after (reported_before c (reported_by k (ls ++ rs))) (state_of front_after k) ≡ state_after (reported_before c (reported_by k p.gathered)) (state_of p.front k)) (sym f)
          (ap (state_after (reported_before c (reported_by x.to (ls ++ rs)))) state_at_own ∙ ap (λ zs. state_after zs state_old) (sym own_before))
      | inr ne ↦ ap₂ (λ zs s. state_after (reported_before c zs) s) (reported_by_others lp ne) (state_at_other lp ne)
    ]

    number_goes_on : (lp : ℕ) → number_after (reported_before c (reported_by lp (ls ++ rs))) (number_of front_after lp) ≡ number_after (reported_before c (reported_by lp p.gathered)) (number_of p.front lp)
    number_goes_on lp = elim (cases_eq lp x.to) [
      | inl f ↦ subst (λ k. number_after (reported_before c (reported_by k (ls ++ rs))) (number_of front_after k) ≡ number_after (reported_before c (reported_by k p.gathered)) (number_of p.front k)) (sym f)
          (ap (number_after (reported_before c (reported_by x.to (ls ++ rs)))) number_at_own ∙ ap (λ zs. number_after zs number_old) (sym own_before))
      | inr ne ↦ ap₂ (λ zs s. number_after (reported_before c zs) s) (reported_by_others lp ne) (number_at_other lp ne)
    ]

    sent_goes_on : (y : Message) → copies y (reported_sends (reported_before c p.gathered)) ≡ copies y d.sent + copies y (reported_sends (reported_before c (ls ++ rs)))
    sent_goes_on y = ap (λ zs. copies y (reported_sends (reported_before c zs))) split ∙ sent_before_without c ls d rs early y

    rest_same : reported_from c (ls ++ rs) ≡ reported_from c p.gathered
    rest_same = sym (from_same c ls d rs early) ∙ ap (reported_from c) (sym split)

  -- 5. Along all of them

  abbrev committed : System → List Message → System
  committed p xs = with_front p (at_time c (after_messages m p.front xs)) (reported_from c p.gathered)

  pub record IsDone (p : System) (xs : List Message) : Type 0 where
    pub reached : Reaches m end (length xs) (at_time 0 p.front) (at_time 0 (after_messages m p.front xs))
    pub left : Every (λ (x : Message). c ≤ x.time) (after_messages m p.front xs).pending
    pub world : IsWorld m.lps (after_messages m p.front xs)
    pub reported : IsConsistent m (committed p xs)
    pub balanced : IsBalanced m (committed p xs)
    pub states : (lp : ℕ) → state_of (after_messages m p.front xs) lp ≡ state_after (reported_before c (reported_by lp p.gathered)) (state_of p.front lp)
    pub numbers : (lp : ℕ) → number_of (after_messages m p.front xs) lp ≡ number_after (reported_before c (reported_by lp p.gathered)) (number_of p.front lp)
    pub pending : (y : Message) → copies y (after_messages m p.front xs).pending + copies y xs ≡ copies y p.front.pending + copies y (reported_sends (reported_before c p.gathered))

  module _ (p : System) (is : IsReady m c p []) where
    nothing : (reported_before c p.gathered ≡ []) × (reported_from c p.gathered ≡ p.gathered) × Every (λ (d : Done). c ≤ d.message.time) p.gathered
    nothing = none_before c p.gathered (λ x. sym (is.are x))

    nothing_by : (lp : ℕ) → reported_before c (reported_by lp p.gathered) ≡ []
    nothing_by lp = filter_swap (λ (d : Done). nat_lt d.message.time c) (λ (d : Done). d.message.to == lp) p.gathered ∙ ap (reported_by lp) nothing.0

    reported_here : (lp : ℕ) → lp < m.lps → IsConsistentProcess m lp c (state_of p.front lp) (number_of p.front lp) (floor_at p lp) (reported_by lp p.gathered) (process_at p lp)
    reported_here lp l =
        let t = is.reported lp l in
        record {
          consistent_fold = t.consistent_fold;
          history = t.history;
          state_meets = t.state_meets;
          number_meets = t.number_meets;
          number_limit = t.number_limit;
          ascending = t.ascending;
          waiting_ascending = t.waiting_ascending;
          antis_ascending = t.antis_ascending;
          behind = t.behind;
          own_reported = t.own_reported;
          own_done = t.own_done;
          own_waiting = t.own_waiting;
          own_antis = t.own_antis;
          reported_from = Every-filter (λ (d : Done). c ≤ d.message.time) (λ (d : Done). d.message.to == lp) p.gathered nothing.2;
          reported_below = t.reported_below;
          done_from = t.done_from;
          waiting_from = t.waiting_from;
          antis_from = t.antis_from;
        }

    done_here : IsDone p []
    done_here = record {
      reached = refl;
      left = Every-from_members (λ (x : Message). c ≤ x.time) p.front.pending (λ x n. elim (cases_lt x.time c) [
        | inl h ↦ absurd (let b = balance_below p [] is x (Every-member (IsAddressed m.lps) p.front.pending x is.world.addressed n).to h in omega arith)
        | inr h ↦ h
      ]);
      world = is.world;
      reported = subst (λ ds. IsConsistent m (with_front p (at_time c p.front) ds)) (sym nothing.1) reported_here;
      balanced = subst (λ ds. IsBalanced m (with_front p (at_time c p.front) ds)) (sym nothing.1) is.balanced;
      states = λ lp. ap (λ ds. state_after ds (state_of p.front lp)) (sym (nothing_by lp));
      numbers = λ lp. ap (λ ds. number_after ds (number_of p.front lp)) (sym (nothing_by lp));
      pending = λ y. let n : copies y (reported_sends (reported_before c p.gathered)) ≡ 0 = ap (λ ds. copies y (reported_sends ds)) nothing.0 in omega arith;
    }

  pub finish : (xs : List Message) (p : System) → IsReady m c p xs → IsDone p xs
  finish [] p is = done_here p is
  finish (x ∷ xs) p is =
      let f = first p x xs is in
      let s = split_first x.to f.0 f.1 p.gathered f.2 in
      let w : World = handled m p.front x (remove_one x p.front.pending) in
      let gs : List Done = s.before ++ s.after in
      let d : IsDone (with_front p w gs) xs = finish xs (with_front p w gs) (ready_after p x xs is f.0 f.1 s.before s.after f.2 f.3 s.is s.none s.left) in
      let same : reported_from c gs ≡ reported_from c p.gathered = rest_same p x xs is f.0 f.1 s.before s.after f.2 f.3 s.is s.none s.left in
      record {
        reached = (at_time 0 w, step_after p x xs is f.0 f.1 s.before s.after f.2 f.3 s.is s.none s.left, d.reached);
        left = d.left;
        world = d.world;
        reported = subst (λ ds. IsConsistent m (with_front p (at_time c (after_messages m w xs)) ds)) same d.reported;
        balanced = subst (λ ds. IsBalanced m (with_front p (at_time c (after_messages m w xs)) ds)) same d.balanced;
        states = λ lp. d.states lp ∙ state_goes_on p x xs is f.0 f.1 s.before s.after f.2 f.3 s.is s.none s.left lp;
        numbers = λ lp. d.numbers lp ∙ number_goes_on p x xs is f.0 f.1 s.before s.after f.2 f.3 s.is s.none s.left lp;
        pending = λ y.
            let a = pending_after p x xs is f.0 f.1 s.before s.after f.2 f.3 s.is s.none s.left y in
            let b = sent_goes_on p x xs is f.0 f.1 s.before s.after f.2 f.3 s.is s.none s.left y in
            let e = d.pending y in
            omega arith;
      }
