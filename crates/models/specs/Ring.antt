-- A ring of processes that hand tokens round. Each process counts the
-- tokens that reach it.
use Rattle.std.specs.List.{filter}
use Rattle.std.specs.Prelude.{None, ℕ, ◌+◌, ◌-◌, ◌*◌, ◌%◌, ◌^◌, ◌<◌, ◌≤◌, ◌==◌, List, [], ◌∷◌, map, min}
use Rattle.std.specs.Prelude.{slice_index}
use Rattle.eventkey.specs.Message.{Message}
use Rattle.model.specs.Meaning.{Meaning}
use Rattle.model.specs.World.{below}
use Rattle.model.specs.declared.Outgoing.{Outgoing}

-- the parameters of a ring
pub record Ring : Type 0 where
  pub lps : ℕ  -- the number of processes
  pub hold : ℕ  -- for how many ticks a process holds a token
  pub tokens : ℕ  -- the number of tokens

pub record IsRing (r : Ring) : Type 0 where
  pub some : 1 ≤ r.lps
  pub few : r.lps ≤ 1024
  pub held : 1 ≤ r.hold
  pub hold_fits : r.hold < 2 ^ 32
  pub some_tokens : 1 ≤ r.tokens
  pub few_tokens : r.tokens ≤ 8 * r.lps

-- a ring whose parameters are in their ranges
pub record GoodRing : Type 0 where
  pub ring : Ring
  pub good : IsRing ring

-- the tokens that start at process lp, ascending: token j starts at process j mod lps
abbrev pub tokens_at : ℕ → ℕ → ℕ → List ℕ
tokens_at lps tokens lp = filter (λ j. j % lps == lp) (below tokens)

-- a process first sends each token that starts there to itself
abbrev pub first_send : ℕ → ℕ → Outgoing
first_send lp j = record { to = lp; delay = 1; a = j; b = 0; c = 0; d = 0 }

-- the count goes up by one and saturates at 64 bits; a missing word counts as 0
abbrev pub counted : List ℕ → ℕ
counted state = min (slice_index state 0 + 1) (2 ^ 64 - 1)

-- a token goes to the next process, and b counts how often it was handed on
abbrev pub handed_on : Ring → ℕ → Message → Outgoing
handed_on r lp x = record {
  to = (lp + 1) % r.lps;
  delay = r.hold;
  a = x.a;
  b = (x.b + 1) % 2 ^ 64;
  c = x.c;
  d = x.d;
}

abbrev pub ring_meaning : Ring → Meaning
ring_meaning r = record {
  lps = r.lps;
  identity = 1 ∷ r.hold ∷ r.tokens ∷ [];
  origin = None;
  start_state = λ lp. 0 ∷ [];
  start_sends = λ lp. map (first_send lp) (tokens_at r.lps r.tokens lp);
  next_state = λ lp state x. counted state ∷ [];
  sends = λ lp state x. handed_on r lp x ∷ [];
}
