-- The wave of a circuit: a value change dump (VCD: IEEE 1364-2005, clause 18) of the pins and the
-- output of each gate. These are words 0 to 3 of the state of its process, as the model's meaning
-- computes them from the events of a log.
use Rattle.std.specs.Prelude.{ℕ, zero, suc, List, [], ◌∷◌, ◌++◌, ◌+◌, ◌==◌, ◌&&◌, ◌||◌, Bool}
use Rattle.std.specs.Prelude.{◌≡◌, ◌<◌, ◌≤◌, ◌^◌, Option, None}
use Rattle.std.specs.Prelude.{codes, decimal, get_or, if◌then◌else◌, length, nat_le, nat_lt, set}
use Rattle.std.specs.Prelude.{slice_index}
use Rattle.std.specs.List.{list_all, AllByRecursion as Every}
use Rattle.eventkey.specs.Message.{Message}
use Rattle.model.specs.Origins.{continued, from_world}
use Rattle.model.specs.World.{IsUpto, World, origin_of}
use Rattle.model.specs.declared.origin.Origin.{Origin}
use Rattle.circuit.specs.Circuit.{IsNetlist, Netlist, circuit_meaning}

-- 1. Names

-- `is_letter`: a letter or an underscore; `is_word`: also a digit or a dollar sign
abbrev pub is_letter : ℕ → Bool
is_letter b = (nat_le 65 b && nat_le b 90) || ((nat_le 97 b && nat_le b 122) || (b == 95))

abbrev pub is_word : ℕ → Bool
is_word b = is_letter b || ((nat_le 48 b && nat_le b 57) || (b == 36))

-- a simple identifier: it begins with a letter or an underscore
abbrev pub is_simple : List ℕ → Bool
is_simple name = is_letter (slice_index name 0) && list_all is_word name

-- A gate's name, or its number if it has none. A name that is not a simple identifier is written as
-- an escaped one, which starts with a backslash and ends at a blank.
abbrev pub name_text : List (List ℕ) → ℕ → List ℕ
name_text names lp =
    if length (get_or names lp []) == 0 then codes "gate" ++ decimal lp
    else if is_simple (get_or names lp []) then get_or names lp []
    else codes "\\" ++ get_or names lp []

-- 2. Declarations

-- a name, and the end of its declaration
abbrev pub named : List ℕ → List ℕ
named name = codes " " ++ name ++ codes " $end\n"

-- the declaration of a signal of a gate, by the letter of its identifier and its name
abbrev pub declared_signal : List ℕ → List ℕ → ℕ → List ℕ
declared_signal letter name lp = codes "$var wire 1 " ++ letter ++ decimal lp ++ named name

abbrev pub declared_signals : ℕ → List ℕ
declared_signals lp =
    declared_signal (codes "o") (codes "output") lp ++ declared_signal (codes "p") (codes "pin0") lp
    ++ declared_signal (codes "q") (codes "pin1") lp ++ declared_signal (codes "r") (codes "pin2")
    lp

abbrev pub begun_gate : List (List ℕ) → ℕ → List ℕ
begun_gate names lp = codes "$scope module " ++ name_text names lp ++ codes " $end\n"

abbrev pub declared_gate : List (List ℕ) → ℕ → List ℕ
declared_gate names lp = begun_gate names lp ++ declared_signals lp ++ codes "$upscope $end\n"

-- the declarations of the first `lp` gates
abbrev pub declared_gates : List (List ℕ) → ℕ → List ℕ
declared_gates names zero = []
declared_gates names (suc lp) = declared_gates names lp ++ declared_gate names lp

-- 3. Values

abbrev pub value_text : List ℕ → ℕ → ℕ → List ℕ
value_text letter lp value = decimal value ++ letter ++ decimal lp ++ codes "\n"

-- the values of all signals of a gate with this state
abbrev pub state_text : ℕ → List ℕ → List ℕ
state_text lp state =
    value_text (codes "o") lp (slice_index state 3) ++ value_text (codes "p") lp
    (slice_index state 0)
    ++ value_text (codes "q") lp (slice_index state 1) ++ value_text (codes "r") lp
    (slice_index state 2)

-- the values of all signals of gates with these states, the first of which is gate `lp`
abbrev pub states_text : ℕ → List (List ℕ) → List ℕ
states_text lp [] = []
states_text lp (state ∷ states) = state_text lp state ++ states_text (lp + 1) states

-- the value of a signal, if it changes
abbrev pub change_text : List ℕ → ℕ → ℕ → ℕ → List ℕ
change_text letter lp was value = if was == value then [] else value_text letter lp value

abbrev pub changes_text : ℕ → List ℕ → List ℕ → List ℕ
changes_text lp was now =
    change_text (codes "o") lp (slice_index was 3) (slice_index now 3)
    ++ change_text (codes "p") lp (slice_index was 0) (slice_index now 0)
    ++ change_text (codes "q") lp (slice_index was 1) (slice_index now 1)
    ++ change_text (codes "r") lp (slice_index was 2) (slice_index now 2)

-- 4. Events

-- the state of an event's receiver after it, from these states of the processes
abbrev pub state_after : Netlist → List (List ℕ) → Message → List ℕ
state_after n states x = (circuit_meaning n).next_state x.to (get_or states x.to []) x

abbrev pub states_after : Netlist → List (List ℕ) → Message → List (List ℕ)
states_after n states x = set states x.to (state_after n states x)

abbrev pub event_text : Netlist → List (List ℕ) → Message → List ℕ
event_text n states x = if nat_lt x.to (length states)
    then changes_text x.to (get_or states x.to []) (state_after n states x) else []

-- an event in a wave: its time, and the values of the signals that change
pub record Change : Type 0 where
  pub time : ℕ
  pub lines : List ℕ

-- the changes at the events of a log, in order, from these states of the processes
abbrev pub changes_of : Netlist → List (List ℕ) → List Message → List Change
changes_of n states [] = []
changes_of n states (x ∷ xs) =
    record { time = x.time; lines = event_text n states x }
    ∷ changes_of n (states_after n states x) xs

-- a time that differs from the last one
abbrev pub time_text : ℕ → ℕ → List ℕ
time_text last time = if last == time then [] else codes "#" ++ decimal time ++ codes "\n"

-- changes, each behind its time, and the time of the end
abbrev pub dated_text : ℕ → ℕ → List Change → List ℕ
dated_text last end [] = time_text last end
dated_text last end (c ∷ cs) = time_text last c.time ++ c.lines ++ dated_text c.time end cs

abbrev pub events_text : Netlist → List (List ℕ) → ℕ → ℕ → List Message → List ℕ
events_text n states last end log = dated_text last end (changes_of n states log)

-- 5. The whole

abbrev pub head_text : List ℕ
head_text = codes "$timescale 1 ns $end\n$scope module circuit $end\n"

-- the end of the declarations, and the time of the first values
abbrev pub between_text : ℕ → List ℕ
between_text from =
    codes "$upscope $end\n$enddefinitions $end\n#" ++ decimal from ++ codes "\n$dumpvars\n"

-- The wave that begins at time `from` with the values of these states, up to a time, from the
-- events in between.
abbrev pub wave_text : Netlist → List (List ℕ) → List (List ℕ) → ℕ → ℕ → List Message → List ℕ
wave_text n names states from time log =
    head_text ++ declared_gates names (length n.gates) ++ between_text from
    ++ states_text 0 states ++ codes "$end\n" ++ events_text n states from time log

-- The states with which a simulation begins: those of the origin, if it goes on from another one,
-- and otherwise those in which the gates start.
abbrev pub first_states : Netlist → Option Origin → List (List ℕ)
first_states n o = (origin_of (continued (circuit_meaning n) o)).states

-- 6. The wave of a part

-- The changes of the whole simulation are, before g0, those of its part v, and from g0 on those of
-- the part w that goes on from v.
pub record ShowsPart (n : Netlist) (g0 : ℕ) (v w : World) : Type 0 where
  pub joined : changes_of n (first_states n None) (v.log ++ w.log)
      ≡ changes_of n (first_states n None) v.log ++ changes_of n v.states w.log
  pub before : Every (λ (c : Change). c.time < g0) (changes_of n (first_states n None) v.log)
  pub behind : Every (λ (c : Change). g0 ≤ c.time) (changes_of n v.states w.log)

-- Let v be the simulation of a circuit up to g0, and w the one that goes on from v, up to g. The
-- wave of w, which begins at g0 with the values of the states of v, has exactly the changes that
-- the wave of the whole simulation has from g0 on.
abbrev pub WaveOfPart : Type 0
WaveOfPart = (n : Netlist) (end g0 g : ℕ) (v w : World) → IsNetlist n → end ≤ 2 ^ 40 →
    IsUpto (circuit_meaning n) end g0 v → IsUpto (from_world (circuit_meaning n) v) end g w →
    ShowsPart n g0 v w
