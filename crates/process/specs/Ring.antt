-- A model for the tests: three processes pass a token around, each after two ticks.
use Rattle.std.specs.Prelude.{None, ℕ, ◌+◌, ◌-◌, ◌%◌, ◌^◌, List, [], ◌∷◌, min, slice_index}
use Rattle.std.proofs.Common.{arith, lit<, lit≤}
use Rattle.std.proofs.Math.Nat.{mod-lt}
use Rattle.model.specs.Meaning.{IsLawful, Meaning}

-- the number of messages so far, which stops at the greatest number
abbrev pub counted : List ℕ → ℕ
counted state = min (slice_index state 0 + 1) (2 ^ 64 - 1)

abbrev pub ring_meaning : Meaning
ring_meaning = record {
  lps = 3;
  identity = [];
  origin = None;
  start_state = λ lp. 0 ∷ [];
  start_sends = λ lp. [];
  next_state = λ lp state x. counted state ∷ [];
  sends = λ lp state x. record {
    to = (lp + 1) % 3;
    delay = 2;
    a = x.a;
    b = (x.b + 1) % 2 ^ 64;
    c = x.c;
    d = x.d;
  } ∷ [];
}

pub ring_lawful : IsLawful ring_meaning
ring_lawful = record {
  some = lit≤ tt;
  few_lps = lit≤ tt;
  identity_few = lit≤ tt;
  identity_words = tt;
  begins = tt;
  start_words = λ lp l. (lit≤ tt, (lit< tt, tt));
  start_few = λ lp l. lit≤ tt;
  start = λ lp l. tt;
  words = λ lp state x l words is. (lit≤ tt, (omega arith, tt));
  few = λ lp state x l words is. lit≤ tt;
  each = λ lp state x l words is. (
    record {
      delay = lit≤ tt;
      delay_fits = lit< tt;
      to = mod-lt
          (lp + 1) (lit≤ tt);
      a = is.a;
      b = mod-lt (x.b + 1) (lit< tt);
      c = is.c;
      d = is.d;
    },
    tt,
  );
}
