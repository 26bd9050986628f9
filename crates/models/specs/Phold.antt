-- PHOLD (Fujimoto 1990): each handled message is sent on to a drawn
-- process, with a drawn delay.
use Rattle.std.specs.Prelude.{None, ℕ, ◌+◌, ◌-◌, ◌*◌, ◌%◌, ◌^◌, ◌<◌, ◌≤◌, List, [], ◌∷◌, map, min}
use Rattle.std.specs.Prelude.{slice_index}
use Rattle.eventkey.specs.Message.{Message}
use Rattle.model.specs.Meaning.{Meaning}
use Rattle.model.specs.World.{below}
use Rattle.model.specs.declared.Outgoing.{Outgoing}
use Rattle.models.specs.Words.{next_key, word}

-- the parameters of PHOLD
pub record Hold : Type 0 where
  pub lps : ℕ  -- the number of processes
  pub population : ℕ  -- how many messages each of them starts with
  pub spread : ℕ  -- the greatest delay, in ticks
  pub seed : ℕ  -- the key of the first words

pub record IsHold (h : Hold) : Type 0 where
  pub some : 1 ≤ h.lps
  pub few : h.lps ≤ 1024
  pub some_messages : 1 ≤ h.population
  pub few_messages : h.population ≤ 8
  pub far : 1 ≤ h.spread
  pub spread_fits : h.spread < 2 ^ 32
  pub seed_fits : h.seed < 2 ^ 63

-- parameters that are in their ranges
pub record GoodHold : Type 0 where
  pub hold : Hold
  pub good : IsHold hold

-- the state's words; a missing one counts as 0
abbrev pub hold_key : List ℕ → ℕ
hold_key state = slice_index state 0

abbrev pub hold_count : List ℕ → ℕ
hold_count state = slice_index state 1

-- a delay of 1 to spread ticks, by a drawn word
abbrev pub delay_by : ℕ → ℕ → ℕ
delay_by spread word = 1 + word % spread

-- a process sends its first message k to itself, with a delay by word k
abbrev pub first_hold : Hold → ℕ → ℕ → Outgoing
first_hold h lp k = record {
  to = lp;
  delay = delay_by h.spread (word h.seed lp k);
  a = lp * h.population + k;
  b = 0;
  c = 0;
  d = 0;
}

-- a message is sent on: word 0 draws the receiver, word 1 the delay, and b counts its handlings
abbrev pub held_on : Hold → ℕ → List ℕ → Message → Outgoing
held_on h lp state x = record {
  to = word (hold_key state) lp 0 % h.lps;
  delay = delay_by h.spread (word (hold_key state) lp 1);
  a = x.a;
  b = (x.b + 1) % 2 ^ 64;
  c = x.c;
  d = x.d;
}

-- the state is the key, then the number of handled messages, which saturates at 64 bits
abbrev pub hold_meaning : Hold → Meaning
hold_meaning h = record {
  lps = h.lps;
  identity = 2 ∷ h.population ∷ h.spread ∷ h.seed ∷ [];
  origin = None;
  start_state = λ lp. next_key h.seed lp h.population ∷ 0 ∷ [];
  start_sends = λ lp. map (first_hold h lp) (below h.population);
  next_state = λ lp state x.
      next_key (hold_key state) lp 2 ∷ min (hold_count state + 1) (2 ^ 64 - 1) ∷ [];
  sends = λ lp state x. held_on h lp state x ∷ [];
}
