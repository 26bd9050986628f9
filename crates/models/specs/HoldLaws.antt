-- PHOLD obeys the laws of a model.
use Rattle.std.specs.Prelude.{ℕ, ◌+◌, ◌*◌, ◌^◌, ◌<◌, ◌≤◌}
use Rattle.std.proofs.Common.{arith, lit<, lit≤}
use Rattle.std.proofs.Math.Nat.{mod-lt, mul-le-mul_left}
use Rattle.std.proofs.lemmas.List.{length-map}
use Rattle.eventkey.proofs.Lists.{Every-map, Every-weaker}
use Rattle.model.proofs.Worlds.{Every-below, length-below}
use Rattle.model.specs.Meaning.{IsLawful, IsSend}
use Rattle.model.specs.World.{below}
use Rattle.models.specs.Phold.{GoodHold, Hold, IsHold, delay_by, first_hold, hold_key, hold_meaning}
use Rattle.models.specs.WordLaws.{key_lt}
use Rattle.models.specs.Words.{word}

delay_lt : (spread word : ℕ) → 1 ≤ spread → spread < 2 ^ 32 → delay_by spread word < 2 ^ 32
delay_lt spread word far fits = let d = mod-lt word far in omega arith

first_lawful : (h : Hold) → IsHold h → (lp : ℕ) → lp < h.lps → (k : ℕ) → k < h.population
    → IsSend h.lps (first_hold h lp k)
first_lawful h good lp l k b =
    let most : lp * h.population ≤ lp * 8 = mul-le-mul_left lp good.few_messages in
    record {
      delay = omega arith;
      delay_fits = delay_lt h.spread (word h.seed lp k) good.far good.spread_fits;
      to = l;
      a = omega (arith, good.few, good.few_messages);
      b = lit< tt;
      c = lit< tt;
      d = lit< tt;
    }

pub hold_lawful : (h : GoodHold) → IsLawful (hold_meaning h.hold)
hold_lawful h = record {
  some = h.good.some;
  few_lps = omega (arith, h.good.few);
  identity_few = lit≤ tt;
  identity_words = (
    lit< tt,
    (
      omega (arith, h.good.few_messages),
      (omega (arith, h.good.spread_fits), (omega (arith, h.good.seed_fits), tt)),
    ),
  );
  begins = tt;
  start_words = λ lp l. (lit≤ tt, (key_lt h.hold.seed lp h.hold.population, (lit< tt, tt)));
  start_few = λ lp l. rw (length-map, length-below h.hold.population) h.good.few_messages;
  start = λ lp l.
      Every-map (IsSend h.hold.lps) (first_hold h.hold lp) (below h.hold.population)
      (Every-weaker (λ k. k < h.hold.population) (λ k. IsSend h.hold.lps (first_hold h.hold lp k))
      (first_lawful h.hold h.good lp l) (below h.hold.population) (Every-below h.hold.population));
  words = λ lp state x l words ranged. (lit≤ tt, (key_lt (hold_key state) lp 2, (omega arith, tt)));
  few = λ lp state x l words ranged. lit≤ tt;
  each = λ lp state x l words ranged. (
    record {
      delay = omega arith;
      delay_fits = delay_lt h.hold.spread (word (hold_key state) lp 1) h.good.far
          h.good.spread_fits;
      to = mod-lt (word (hold_key state) lp 0) h.good.some;
      a = ranged.a;
      b = mod-lt (x.b + 1) (lit< tt);
      c = ranged.c;
      d = ranged.d;
    },
    tt,
  );
}
