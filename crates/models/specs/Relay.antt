-- Six processes that send each message on twice, soon and much later. The
-- receiver and the delay of the first depend on the state.
use Rattle.std.specs.Prelude.{None, ℕ, ◌+◌, ◌*◌, ◌%◌, ◌^◌, ◌<◌, List, [], ◌∷◌, slice_index}
use Rattle.std.proofs.Common.{arith, lit<, lit≤}
use Rattle.std.proofs.Math.Nat.{mod-lt}
use Rattle.eventkey.specs.Message.{Message}
use Rattle.model.specs.Meaning.{IsLawful, Meaning}
use Rattle.model.specs.declared.Outgoing.{Outgoing}

-- the one word of a state
abbrev pub seen : List ℕ → ℕ
seen state = slice_index state 0

-- the word after a message, which depends on the order of the messages
abbrev pub seen_after : List ℕ → Message → ℕ
seen_after state x = ((seen state * 3) % 2 ^ 64 + x.time) % 2 ^ 64

abbrev pub soon : ℕ → List ℕ → Message → Outgoing
soon lp state x = record {
  to = (lp + seen state % 6) % 6;
  delay = 1 + seen state % 3;
  a = x.a;
  b = (x.b + seen state) % 2 ^ 64;
  c = x.c;
  d = x.d;
}

abbrev pub later : ℕ → List ℕ → Message → Outgoing
later lp state x = record { to = (lp + 1) % 6; delay = 23; a = x.b; b = x.a; c = x.c; d = x.d }

abbrev pub relay_meaning : Meaning
relay_meaning = record {
  lps = 6;
  identity = [];
  origin = None;
  start_state = λ lp. 0 ∷ [];
  start_sends = λ lp. record { to = lp; delay = 1 + lp; a = lp; b = 0; c = 0; d = 0 } ∷ [];
  next_state = λ lp state x. seen_after state x ∷ [];
  sends = λ lp state x. soon lp state x ∷ later lp state x ∷ [];
}

pub relay_lawful : IsLawful relay_meaning
relay_lawful = record {
  some = lit≤ tt;
  few_lps = lit≤ tt;
  identity_few = lit≤ tt;
  identity_words = tt;
  begins = tt;
  start_words = λ lp l. (lit≤ tt, (lit< tt, tt));
  start_few = λ lp l. lit≤ tt;
  start = λ lp l. (
    record {
      delay = omega arith;
      delay_fits = omega arith;
      to = l;
      a = omega arith;
      b = lit< tt;
      c = lit< tt;
      d = lit< tt;
    },
    tt,
  );
  words = λ lp state x l words is.
      (lit≤ tt, (mod-lt ((seen state * 3) % 2 ^ 64 + x.time) (lit< tt), tt));
  few = λ lp state x l words is. lit≤ tt;
  each = λ lp state x l words is. (
    record {
      delay = omega arith;
      delay_fits = (let small : seen state % 3 < 3 = mod-lt (seen state) (lit≤ tt) in omega arith);
      to = mod-lt (lp + seen state % 6) (lit≤ tt);
      a = is.a;
      b = mod-lt (x.b + seen state) (lit< tt);
      c = is.c;
      d = is.d;
    },
    (
      record {
        delay = lit≤ tt;
        delay_fits = lit< tt;
        to = mod-lt (lp + 1) (lit≤ tt);
        a = is.b;
        b = is.a;
        c = is.c;
        d = is.d;
      },
      tt,
    ),
  );
}
