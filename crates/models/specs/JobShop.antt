-- A job shop: machines in a ring. Each serves one job at a time, in the
-- order of arrival, and sends it to the next machine.
use Rattle.std.specs.Prelude.{None, ℕ, ◌+◌, ◌-◌, ◌*◌, ◌%◌, ◌^◌, ◌<◌, ◌≤◌, List, [], ◌∷◌, Bool, nat_lt}
use Rattle.std.specs.Prelude.{map, max, min, slice_index, if◌then◌else◌}
use Rattle.eventkey.specs.Message.{Message}
use Rattle.model.specs.Meaning.{Meaning}
use Rattle.model.specs.World.{below}
use Rattle.model.specs.declared.Outgoing.{Outgoing}
use Rattle.models.specs.Words.{next_key, word}

-- the parameters of a job shop
pub record Shop : Type 0 where
  pub lps : ℕ  -- the number of machines
  pub jobs : ℕ  -- how many jobs each of them starts with
  pub service : ℕ  -- the greatest number of ticks for which a machine serves a job
  pub seed : ℕ  -- the key of the first words

pub record IsShop (s : Shop) : Type 0 where
  pub some : 1 ≤ s.lps
  pub few : s.lps ≤ 1024
  pub some_jobs : 1 ≤ s.jobs
  pub few_jobs : s.jobs ≤ 8
  pub some_service : 1 ≤ s.service
  pub service_fits : s.service < 2 ^ 32
  pub seed_fits : s.seed < 2 ^ 63

-- a job shop whose parameters are in their ranges
pub record GoodShop : Type 0 where
  pub shop : Shop
  pub good : IsShop shop

-- the state's words; a missing one counts as 0
abbrev pub free_at : List ℕ → ℕ
free_at state = slice_index state 0

abbrev pub served : List ℕ → ℕ
served state = slice_index state 1

abbrev pub waited : List ℕ → ℕ
waited state = slice_index state 2

abbrev pub turned_away : List ℕ → ℕ
turned_away state = slice_index state 3

abbrev pub shop_key : List ℕ → ℕ
shop_key state = slice_index state 4

-- counts saturate at the greatest 64-bit number
abbrev pub saturated : ℕ → ℕ
saturated n = min n (2 ^ 64 - 1)

-- service of a job that arrives at time t begins when the machine is free
abbrev pub begun : List ℕ → ℕ → ℕ
begun state t = max t (free_at state)

-- and ends 1 to service ticks later, by word 0
abbrev pub ended : Shop → ℕ → List ℕ → ℕ → ℕ
ended s lp state t = begun state t + 1 + word (shop_key state) lp 0 % s.service

-- a job that would leave after more ticks than a delay can have is turned away
abbrev pub is_turned_away : Shop → ℕ → List ℕ → ℕ → Bool
is_turned_away s lp state t = nat_lt (2 ^ 32 - 1) (ended s lp state t - t)

-- first job k of a machine arrives at time 1 + k
abbrev pub first_job : Shop → ℕ → ℕ → Outgoing
first_job s lp k = record { to = lp; delay = 1 + k; a = lp * s.jobs + k; b = 0; c = 0; d = 0 }

-- a served job goes to the next machine when its service ends, and b counts its machines
abbrev pub passed_on : Shop → ℕ → List ℕ → Message → Outgoing
passed_on s lp state x = record {
  to = (lp + 1) % s.lps;
  delay = ended s lp state x.time - x.time;
  a = x.a;
  b = (x.b + 1) % 2 ^ 64;
  c = x.c;
  d = x.d;
}

-- the state after a job that is served
abbrev pub after_service : Shop → ℕ → List ℕ → ℕ → List ℕ
after_service s lp state t =
    ended s lp state t
    ∷ saturated (served state + 1)
    ∷ saturated (waited state + (begun state t - t))
    ∷ turned_away state
    ∷ next_key (shop_key state) lp 1
    ∷ []

-- the state after a job that is turned away
abbrev pub after_refusal : ℕ → List ℕ → List ℕ
after_refusal lp state =
    free_at state
    ∷ served state
    ∷ waited state
    ∷ saturated (turned_away state + 1)
    ∷ next_key (shop_key state) lp 1
    ∷ []

abbrev pub shop_meaning : Shop → Meaning
shop_meaning s = record {
  lps = s.lps;
  identity = 3 ∷ s.jobs ∷ s.service ∷ s.seed ∷ [];
  origin = None;
  start_state = λ lp. 0 ∷ 0 ∷ 0 ∷ 0 ∷ next_key s.seed lp 0 ∷ [];
  start_sends = λ lp. map (first_job s lp) (below s.jobs);
  next_state = λ lp state x.
      if is_turned_away s lp state x.time then after_refusal lp state
      else after_service s lp state x.time;
  sends = λ lp state x. if is_turned_away s lp state x.time then []
      else passed_on s lp state x ∷ [];
}
