-- What a process handled and has not reported yet, with the state and the send number to which that
-- led.
use Rattle.std.specs.Prelude.{ℕ, List, [], ◌∷◌, ◌≡◌, ◌≤◌, length}
use Rattle.queues.specs.Record.{Record}
use Rattle.process.specs.Process.{number_after, state_after}
use Rattle.process.specs.declared.Done.{Done}
use Rattle.process.specs.declared.history.History.TheInside.{Inside}

-- these handlings as records, each with the state and the send number before it, where this state
-- and this number are before the first one
abbrev pub records_of : List ℕ → ℕ → List Done → List Record
records_of state number [] = []
records_of state number (d ∷ ds) = record {
  message = d.message;
  before = state;
  number_before = number;
  sent = d.sent;
} ∷ records_of d.after d.number_after ds

pub record Course : Type 0 where
  pub done : List Record
  pub state : List ℕ
  pub number : ℕ

abbrev pub course_of : Inside → Course
course_of h = record {
  done = records_of h.start.items h.start_number h.handlings;
  state = h.state.items;
  number = h.number;
}

-- the handlings lead from the state and the send number before them to the present ones
pub record IsCourse (h : Inside) : Type 0 where
  pub state : h.state.items ≡ state_after h.handlings h.start.items
  pub number : h.number ≡ number_after h.handlings h.start_number
  pub few : length h.start.items ≤ 16
