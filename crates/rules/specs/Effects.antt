-- What statements do to the words of the state, the local names, the sends and the count of drawn
-- words.
use Rattle.std.specs.Prelude.{ℕ, zero, suc, ◌+◌, ◌-◌, ◌%◌, ◌^◌, List, [], ◌∷◌, ◌++◌, max, min}
use Rattle.std.specs.Prelude.{Bool, slice_set, if◌then◌else◌}
use Rattle.model.specs.declared.Outgoing.{Outgoing}
use Rattle.rules.specs.Costs.{draws}
use Rattle.rules.specs.Distributions.{saturated}
use Rattle.rules.specs.Elements.{with_element}
use Rattle.rules.specs.Values.{is_true, value_of}
use Rattle.rules.specs.declared.arrays.Array.{Array}
use Rattle.rules.specs.declared.evaluate.Context.{Context}
use Rattle.rules.specs.declared.tree.Expression.{Expression}
use Rattle.rules.specs.declared.tree.Sending.{Sending}
use Rattle.rules.specs.declared.tree.Statement.{Statement, Row_of-Statement, end_of-Statement}
use Rattle.rules.specs.declared.tree.Statement.{more_of-Statement}
use Rattle.rules.specs.declared.tree.Statement.TheVariants.{Let, Set, Send, If', Repeat', Put}
use Rattle.rules.specs.declared.tree.Statement.TheVariants.{RepeatUntil'}

-- the progress of a handling
pub record Progress : Type 0 where
  pub context : Context
  pub drawn : ℕ  -- the number of words drawn so far
  pub sends : List Outgoing

abbrev pub progress : Context → ℕ → List Outgoing → Progress
progress context drawn sends = record { context = context; drawn = drawn; sends = sends }

-- a delay is from 1 to 2^32 - 1; another value counts as the nearest of these
abbrev pub delay_of : ℕ → ℕ
delay_of n = min (max n 1) (2 ^ 32 - 1)

-- the message of a send before which k words were drawn; its values are computed from the left
abbrev pub sent : List (List ℕ) → Context → Sending → ℕ → Outgoing
sent tables s x k =
    let after = k + draws x.to in
    let a = after + draws x.after in
    let b = a + draws x.a in
    let c = b + draws x.b in
    record {
      to = value_of tables s x.to k % s.processes;
      delay = delay_of (value_of tables s x.after after);
      a = value_of tables s x.a a;
      b = value_of tables s x.b b;
      c = value_of tables s x.c c;
      d = value_of tables s x.d (c + draws x.c);
    }

abbrev pub send_draws : Sending → ℕ
send_draws x = draws x.to + draws x.after + draws x.a + draws x.b + draws x.c + draws x.d

abbrev pub with_local : ℕ → ℕ → Context → Context
with_local place n s = record s { locals = slice_set s.locals place n }

abbrev pub with_word : ℕ → ℕ → Context → Context
with_word place n s = record s { words = slice_set s.words place n }

abbrev pub with_array : Array → ℕ → ℕ → Context → Context
with_array a i n s = record s { words = with_element a s.words i n }

-- turn after turn, from number 0
abbrev pub turns : ℕ → (ℕ → Progress → Progress) → Progress → Progress
turns zero turn p = p
turns (suc n) turn p = turn n (turns n turn p)

-- the place has the number of the turn
abbrev pub at_turn : ℕ → ℕ → Progress → Progress
at_turn place k p = progress (with_local place (saturated k) p.context) p.drawn p.sends

-- before a turn: the value that may end the repeat is computed, and whether it is true
abbrev pub asked : Expression → ℕ → ℕ → Progress → Progress
asked e place k p =
    let q : Progress = at_turn place k p in progress q.context (q.drawn + draws e) q.sends

abbrev pub is_ended : List (List ℕ) → Expression → ℕ → ℕ → Progress → Bool
is_ended tables e place k p =
    is_true (value_of tables (at_turn place k p).context e p.drawn)

-- at most n turns, from number k on, up to the first before which the repeat is ended
abbrev pub turns_until : (ℕ → Progress → Bool) → (ℕ → Progress → Progress) →
    (Progress → Progress) → ℕ → ℕ → Progress → Progress
turns_until ended before turn zero k p = p
turns_until ended before turn (suc n) k p =
    if ended k p then before k p
    else turns_until ended before turn n (suc k) (turn (before k p))

abbrev mutual
  -- after a statement
  pub after : List (List ℕ) → Statement → Progress → Progress
  after tables (Let i e) p = record {
    context = with_local i (value_of tables p.context e p.drawn) p.context;
    drawn = p.drawn + draws e;
    sends = p.sends;
  }
  after tables (Set i e) p = record {
    context = with_word i (value_of tables p.context e p.drawn) p.context;
    drawn = p.drawn + draws e;
    sends = p.sends;
  }
  after tables (Send x) p = record {
    context = p.context;
    drawn = p.drawn + send_draws x;
    sends = p.sends ++ sent tables p.context x p.drawn ∷ [];
  }
  after tables (If' e s met t unmet) p =
      let q : Progress = progress p.context (p.drawn + draws e) p.sends in
      if is_true (value_of tables p.context e p.drawn) then after_row tables met q
      else after_row tables unmet q
  after tables (Repeat' i n s body) p =
      turns n (λ k q. after_row tables body (at_turn i k q)) p
  after tables (RepeatUntil' i n e s body) p =
      turns_until (is_ended tables e i) (asked e i) (λ q. after_row tables body q) n 0 p
  after tables (Put a i e) p = record {
    context =
        with_array a (value_of tables p.context i p.drawn)
        (value_of tables p.context e (p.drawn + draws i)) p.context;
    drawn = p.drawn + draws i + draws e;
    sends = p.sends;
  }

  -- after the statements of a block
  pub after_row : List (List ℕ) → {m : _} → Row_of-Statement m → Progress → Progress
  after_row tables end_of-Statement p = p
  after_row tables (more_of-Statement x rest) p = after_row tables rest (after tables x p)

-- after the statements of a list
abbrev pub after_all : List (List ℕ) → List Statement → Progress → Progress
after_all tables [] p = p
after_all tables (x ∷ xs) p = after_all tables xs (after tables x p)
