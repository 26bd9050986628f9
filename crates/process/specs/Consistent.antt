-- The invariants of a process: its handlings are what the model does, in message order.
use Rattle.std.specs.List.{AllByRecursion as Every}
use Rattle.std.specs.Prelude.{ℕ, ◌+◌, ◌≡◌, ◌^◌, ◌≤◌, List, [], ◌∷◌, ◌++◌, length, map, flat_map}
use Rattle.std.specs.Prelude.{◌<◌, ⊤}
use Rattle.eventkey.specs.Bag.{IsAscending, copies}
use Rattle.eventkey.specs.Message.{IsAtMost, IsRanged, Message}
use Rattle.eventkey.specs.Signed.{of_sign}
use Rattle.eventkey.specs.declared.Sign.TheVariants.{Minus, Plus}
use Rattle.eventkey.specs.declared.Signed.{Signed}
use Rattle.model.specs.Meaning.{IsLawful, IsWords, Meaning, stamp}
use Rattle.queues.specs.Queue.{back, last_of}
use Rattle.queues.specs.Record.{Record, handled_from, messages, number_before, state_before}
use Rattle.process.specs.Process.{Process, arrive, fossils_of, handle, handling_of, number_after}
use Rattle.process.specs.Process.{queue_of, release, sent_by, state_after, cancelled_sends}
use Rattle.process.specs.declared.Done.{Done}

-- the number of copies of a message that the process has, handled or waiting
abbrev pub held : Message → Process → ℕ
held x q = copies x (messages q.done) + copies x q.waiting

-- These handlings are what the model does, from this state and number to that state and number.
abbrev pub IsFold : Meaning → ℕ → List ℕ → ℕ → List Record → List ℕ → ℕ → Type 0
IsFold m lp state number [] state' number' = (state' ≡ state) × (number' ≡ number)
IsFold m lp state number (h ∷ hs) state' number' =
    (h.before ≡ state) × (h.number_before ≡ number)
    × (h.sent ≡ stamp lp h.message.time number (m.sends lp state h.message))
    × (number + length h.sent ≤ 2 ^ 63)
    × IsFold m lp (m.next_state lp state h.message) (number + length h.sent) hs state' number'

-- These reported handlings are what the model does, from this state and number on.
abbrev pub AreConsistent : Meaning → ℕ → List ℕ → ℕ → List Done → Type 0
AreConsistent m lp state number [] = ⊤
AreConsistent m lp state number (d ∷ ds) =
    (d.sent ≡ stamp lp d.message.time number (m.sends lp state d.message))
    × (d.after ≡ m.next_state lp state d.message)
    × (d.number_after ≡ number + length d.sent)
    × (d.number_after ≤ 2 ^ 63)
    × AreConsistent m lp d.after d.number_after ds

-- The handlings of a process are what the model does, from the state and the number before the
-- first of them.
abbrev pub IsHistory : Meaning → ℕ → Process → Type 0
IsHistory m lp q = IsFold m lp (state_before q.done q.state) (number_before q.done q.number) q.done
    q.state q.number

-- Process lp is consistent with the model: `reported` are the handlings that it reported since the
-- front, whose time, state and number these are, `q` is what it has now, and `floor` is the floor
-- of its node.
pub record IsConsistentProcess (m : Meaning) (lp time : ℕ) (state : List ℕ) (number floor : ℕ) (reported : List Done)
    (q : Process) : Type 0 where
  pub consistent_fold : AreConsistent m lp state number reported
  pub history : IsHistory m lp q
  -- the handlings of q follow the reported ones
  pub state_meets : state_before q.done q.state ≡ state_after reported state
  pub number_meets : number_before q.done q.number ≡ number_after reported number
  pub number_limit : q.number ≤ 2 ^ 63
  pub ascending : IsAscending (map (λ (d : Done). d.message) reported ++ messages q.done)
  pub waiting_ascending : IsAscending q.waiting
  pub antis_ascending : IsAscending q.antis
  -- no waiting message is less than the last done one
  pub behind : Every (λ (w : Message). Every (λ (d : Message). IsAtMost d w) (messages q.done))
      q.waiting
  pub own_reported : Every (λ (d : Done). d.message.to ≡ lp) reported
  pub own_done : Every (λ (x : Message). x.to ≡ lp) (messages q.done)
  pub own_waiting : Every (λ (x : Message). x.to ≡ lp) q.waiting
  pub own_antis : Every (λ (x : Message). x.to ≡ lp) q.antis
  pub reported_from : Every (λ (d : Done). time ≤ d.message.time) reported
  pub reported_below : Every (λ (d : Done). d.message.time < floor) reported
  pub done_from : Every (λ (x : Message). floor ≤ x.time) (messages q.done)
  pub waiting_from : Every (λ (x : Message). floor ≤ x.time) q.waiting
  pub antis_from : Every (λ (x : Message). floor ≤ x.time) q.antis

-- A history that is what the model does stays so through arrivals, handlings and releases, in any
-- order.
abbrev pub HistoriesAreKept : Type 0
HistoriesAreKept = (m : Meaning) (lp : ℕ) (q : Process) → IsHistory m lp q →
    ((s : Signed) → IsHistory m lp (arrive s q))
    × ((x : Message) → q.number + length (m.sends lp q.state x) ≤ 2 ^ 63 → IsHistory m lp
    (handle m lp x q))
    × ((floor : ℕ) → IsHistory m lp (release floor q))

-- The reported handlings are what the model does from the state before the history on, and end
-- where the rest of the history begins.
abbrev pub ReportsFollowModel : Type 0
ReportsFollowModel = (m : Meaning) (lp floor : ℕ) (q : Process) → IsHistory m lp q →
    AreConsistent m lp (state_before q.done q.state) (number_before q.done q.number)
    (fossils_of floor q)
    × (state_after (fossils_of floor q) (state_before q.done q.state) ≡ state_before
    (handled_from floor q.done) q.state)
    × (number_after (fossils_of floor q) (number_before q.done q.number) ≡ number_before
    (handled_from floor q.done) q.number)

-- An arrival keeps a process consistent with the model, if it is for this process and not below its
-- floor.
abbrev pub ArrivalStaysConsistent : Type 0
ArrivalStaysConsistent = (m : Meaning) (lp time : ℕ) (state : List ℕ) (number floor : ℕ) (reported : List Done)
    (s : Signed) (q : Process) →
    s.message.to ≡ lp → floor ≤ s.message.time → IsConsistentProcess m lp time state number floor reported q →
    IsConsistentProcess m lp time state number floor reported (arrive s q)

-- For every message: the number of its copies that the process has, less its antimessages, changes
-- by exactly what arrived.
abbrev pub ArrivalIsBalanced : Type 0
ArrivalIsBalanced = (x : Message) (s : Signed) (q : Process) →
    held x (arrive s q) + copies x q.antis + copies x (of_sign Minus (s ∷ [])) ≡ held x q
    + copies x (arrive s q).antis + copies x (of_sign Plus (s ∷ []))

-- An arrival sends only antimessages, one for each send that it undoes.
abbrev pub ArrivalCancelsSends : Type 0
ArrivalCancelsSends = (x : Message) (s : Signed) (q : Process) →
    (copies x (sent_by (arrive s q)) + copies x (of_sign Minus (cancelled_sends s q))
    ≡ copies x (sent_by q)) × (copies x (of_sign Plus (cancelled_sends s q)) ≡ 0)

-- The antimessages that an arrival sends are not before what arrived, and are for processes of the
-- model.
abbrev pub ArrivalLooksAhead : Type 0
ArrivalLooksAhead = (m : Meaning) (lp : ℕ) (s : Signed) (q : Process) → IsLawful m → lp < m.lps →
    IsHistory m lp q → IsWords (state_before q.done q.state) → Every IsRanged (messages q.done) →
    IsAscending (messages q.done) →
    Every (λ (t : Signed). (s.message.time ≤ t.message.time) × (t.message.to < m.lps))
    (cancelled_sends s q)

-- A process that handles its first waiting message stays consistent with the model.
abbrev pub HandlingStaysConsistent : Type 0
HandlingStaysConsistent = (m : Meaning) (lp : ℕ) (x : Message) (q : Process) (time : ℕ) (state : List ℕ)
    (number floor : ℕ) (reported : List Done) (rest : List Message) →
    q.waiting ≡ x ∷ rest → q.number + length (m.sends lp q.state x) ≤ 2 ^ 63 → IsConsistentProcess m lp time
    state number floor reported q → IsConsistentProcess m lp time state number floor reported (handle m lp x q)

-- A handling keeps every message of the process, and adds its own sends to those of the process.
abbrev pub HandlingIsBalanced : Type 0
HandlingIsBalanced = (m : Meaning) (lp : ℕ) (x : Message) (q : Process) (y : Message)
    (rest : List Message) → q.waiting ≡ x ∷ rest →
    (held y (handle m lp x q) ≡ held y q) × (copies y (sent_by (handle m lp x q))
    ≡ copies y (sent_by q) + copies y (handling_of m lp x q).sent)

-- Reporting what is below a floor keeps a process consistent with the model, if nothing below that
-- floor waits.
abbrev pub ReportsStayConsistent : Type 0
ReportsStayConsistent = (m : Meaning) (lp time : ℕ) (state : List ℕ) (number floor floor' : ℕ)
    (reported : List Done) (q : Process) → time ≤ floor → floor ≤ floor' →
    Every (λ (x : Message). floor' ≤ x.time) q.waiting → Every (λ (x : Message). floor' ≤ x.time)
    q.antis →
    IsConsistentProcess m lp time state number floor reported q → IsConsistentProcess m lp time state number floor'
    (reported ++ fossils_of floor' q) (release floor' q)

-- The reported handlings, with their sends, are exactly what the process no longer has.
abbrev pub ReportIsBalanced : Type 0
ReportIsBalanced = (x : Message) (floor : ℕ) (q : Process) →
    (copies x (map (λ (d : Done). d.message) (fossils_of floor q)) + held x (release floor q)
    ≡ held x q)
    × (copies x (flat_map (λ (d : Done). d.sent) (fossils_of floor q))
    + copies x (sent_by (release floor q)) ≡ copies x (sent_by q))

-- An arrival at or after a floor undoes no handling before the floor.
abbrev pub RollbacksStayAbove : Type 0
RollbacksStayAbove = (floor : ℕ) (s : Signed) (q : Process) → IsAscending (messages q.done) → floor
    ≤ s.message.time →
    Every (λ (h : Record). floor ≤ h.message.time) (last_of (back s (queue_of q)) q.done)

-- So the report of the handlings before a floor is final: no arrival and no handling at or after
-- the floor changes it.
abbrev pub FossilsAreFinal : Type 0
FossilsAreFinal = (floor : ℕ) (q : Process) → IsAscending (messages q.done) →
    ((s : Signed) → floor ≤ s.message.time → fossils_of floor (arrive s q) ≡ fossils_of floor q)
    × ((m : Meaning) (lp : ℕ) (x : Message) → floor ≤ x.time → fossils_of floor (handle m lp x q)
    ≡ fossils_of floor q)

-- A process that released them also does the same with everything that arrives at or after the
-- floor.
abbrev pub ReleasesAreUnseen : Type 0
ReleasesAreUnseen = (floor : ℕ) (s : Signed) (q : Process) → IsAscending (messages q.done) → floor
    ≤ s.message.time →
    (arrive s (release floor q) ≡ release floor (arrive s q)) × (cancelled_sends s (release floor q)
    ≡ cancelled_sends s q)
