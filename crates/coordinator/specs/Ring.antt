-- A model for the tests: three processes pass two tokens round, each with a delay of two ticks.
use Rattle.std.specs.Prelude.{None, Bool, List, [], false, if◌then◌else◌, min, nat_lt, slice_index, true}
use Rattle.std.specs.Prelude.{ℕ, ◌%◌, ◌+◌, ◌-◌, ◌<◌, ◌^◌, ◌∷◌, ◌≡◌}
use Rattle.std.specs.List.{AllByRecursion as Every}
use Rattle.std.proofs.Common.{arith, length, lit<, lit≤, refl, ◌≤◌}
use Rattle.std.proofs.Math.Nat.{mod-lt}
use Rattle.std.proofs.lemmas.Bool.{ltb-true}
use Rattle.model.specs.Meaning.{IsLawful, IsSend, Meaning}
use Rattle.model.specs.declared.Outgoing.{Outgoing}

-- the number of messages so far, at most 2^64 - 1
abbrev pub counted : List ℕ → ℕ
counted state = min (slice_index state 0 + 1) (2 ^ 64 - 1)

-- token 0 starts at process 0, and token 1 at process 1
abbrev pub token_at : ℕ → Bool → List Outgoing
token_at lp here = if here then record { to = lp; delay = 1; a = lp; b = 0; c = 0; d = 0 }
    ∷ [] else []

abbrev pub ring_meaning : Meaning
ring_meaning = record {
  lps = 3;
  identity = 1 ∷ 2 ∷ 2 ∷ [];
  origin = None;
  start_state = λ lp. 0 ∷ [];
  start_sends = λ lp. token_at lp (nat_lt lp 2);
  next_state = λ lp state x. counted state ∷ [];
  sends = λ lp state x. record {
    to = (lp + 1) % 3;
    delay = 2;
    a = x.a;
    b = (x.b + 1) % 2 ^ 64;
    c = x.c;
    d = x.d;
  } ∷ [];
}

few_starts : (lp : ℕ) (v : Bool) → length (token_at lp v) ≤ 8
few_starts lp true = lit≤ tt
few_starts lp false = lit≤ tt

starts : (lp : ℕ) (v : Bool) → nat_lt lp 2 ≡ v → Every (IsSend 3) (token_at lp v)
starts lp true is =
    let below : lp < 2 = ltb-true lp 2 is in (
      record {
        delay = lit≤ tt;
        delay_fits = lit< tt;
        to = omega (arith, below);
        a = omega
            (arith, below);
        b = lit< tt;
        c = lit< tt;
        d = lit< tt;
      },
      tt,
    )
starts lp false is = tt

pub ring_lawful : IsLawful ring_meaning
ring_lawful = record {
  some = lit≤ tt;
  few_lps = lit≤ tt;
  identity_few = lit≤ tt;
  identity_words = (lit< tt, (lit< tt, (lit< tt, tt)));
  begins = tt;
  start_words = λ lp l. (lit≤ tt, (lit< tt, tt));
  start_few = λ lp l. few_starts lp (nat_lt lp 2);
  start = λ lp l. starts lp (nat_lt lp 2) refl;
  words = λ lp state x l words is. (lit≤ tt, (omega arith, tt));
  few = λ lp state x l words is. lit≤ tt;
  each = λ lp state x l words is. (
    record {
      delay = lit≤ tt;
      delay_fits = lit< tt;
      to = mod-lt
          (lp + 1) (lit≤ tt);
      a = is.a;
      b = mod-lt (x.b + 1) (lit< tt);
      c = is.c;
      d = is.d;
    },
    tt,
  );
}
