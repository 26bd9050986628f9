-- One logical process (Jefferson 1985): how it takes an arrival, handles a message, and releases
-- what no rollback reaches.
use Rattle.process.specs.declared.Done.{Done}
use Rattle.std.specs.Prelude.{ℕ, List, map, ◌+◌, [], ◌∷◌, ◌++◌, length, ◌^◌, Bool, nat_le}
use Rattle.eventkey.specs.Bag.{remove_one}
use Rattle.eventkey.specs.Message.{Message}
use Rattle.eventkey.specs.Signed.{minus}
use Rattle.eventkey.specs.declared.Signed.{Signed}
use Rattle.model.specs.Meaning.{Meaning, stamp}
use Rattle.queues.specs.Record.{handled_before, handled_from, messages, number_before, sent_in}
use Rattle.queues.specs.Record.{Record, state_before}
use Rattle.queues.specs.Queue.{Queue, arrived, back, but_last, last_of}

-- one logical process: what it handled and has not reported yet, its two bags, its state and its
-- send number
pub record Process : Type 0 where
  pub done : List Record
  pub waiting : List Message  -- a bag
  pub antis : List Message  -- a bag
  pub state : List ℕ
  pub number : ℕ

abbrev pub queue_of : Process → Queue
queue_of q = record { done = messages q.done; waiting = q.waiting; antis = q.antis }

-- the process after an arrival, and the antimessages of the sends that the arrival undoes
abbrev pub arrive : Signed → Process → Process
arrive s q =
    let n = back s (queue_of q) in
    let r = arrived s (queue_of q) in
    record {
      done = but_last n q.done;
      waiting = r.waiting;
      antis = r.antis;
      state = state_before (last_of n q.done) q.state;
      number = number_before (last_of n q.done) q.number;
    }

abbrev pub cancelled_sends : Signed → Process → List Signed
cancelled_sends s q = map minus (sent_in (last_of (back s (queue_of q)) q.done))

-- The record that a process makes of a message, and the process after it
abbrev pub handling_of : Meaning → ℕ → Message → Process → Record
handling_of m lp x q = record {
  message = x;
  before = q.state;
  number_before = q.number;
  sent = stamp lp x.time q.number (m.sends lp q.state x);
}

abbrev pub handle : Meaning → ℕ → Message → Process → Process
handle m lp x q = record {
  done = q.done ++ handling_of m lp x q ∷ [];
  waiting = remove_one x q.waiting;
  antis = q.antis;
  state = m.next_state lp q.state x;
  number = q.number + length (handling_of m lp x q).sent;
}

-- the send number has room for the sends of this handling
abbrev pub has_room : Meaning → Message → Process → Bool
has_room m x q = nat_le (q.number + length (m.sends x.to q.state x)) (2 ^ 63)

abbrev pub nobody : Process
nobody = record { done = []; waiting = []; antis = []; state = []; number = 0 }

-- the messages sent by the handlings that the process has not reported yet
abbrev pub sent_by : Process → List Message
sent_by q = sent_in q.done

-- the process without the handlings before the floor
abbrev pub release : ℕ → Process → Process
release floor q = record q { done = handled_from floor q.done }

-- the reports of these handlings, where this state and this number follow the last one
abbrev pub reported : List Record → List ℕ → ℕ → List Done
reported [] state number = []
reported (h ∷ hs) state number = record {
  message = h.message;
  sent = h.sent;
  after = state_before hs
      state;
  number_after = number_before hs number;
} ∷ reported hs state number

abbrev pub fossils_of : ℕ → Process → List Done
fossils_of floor q = reported (handled_before floor q.done) (state_before (handled_from floor q.done)
    q.state) (number_before (handled_from floor q.done) q.number)

-- the state after these reported handlings, or the given state if there are none
abbrev pub state_after : List Done → List ℕ → List ℕ
state_after [] state = state
state_after (d ∷ ds) state = state_after ds d.after

abbrev pub number_after : List Done → ℕ → ℕ
number_after [] number = number
number_after (d ∷ ds) number = number_after ds d.number_after
