-- Every job shop obeys the laws of a model.
use Rattle.std.specs.List.{AllByRecursion as Every}
use Rattle.std.specs.Prelude.{◌≡◌, ℕ, ◌+◌, ◌-◌, ◌*◌, ◌^◌, ◌<◌, ◌≤◌, List, [], ◌∷◌, false, length}
use Rattle.std.specs.Prelude.{if◌then◌else◌}
use Rattle.std.proofs.Common.{arith, lit<, lit≤, inl, inr}
use Rattle.std.proofs.Math.Nat.{mod-lt, mul-le-mul_left}
use Rattle.std.proofs.lemmas.Bool.{cases_Bool, ltb-false}
use Rattle.std.proofs.lemmas.List.{length-map}
use Rattle.eventkey.proofs.Lists.{Every-map, Every-weaker}
use Rattle.eventkey.specs.Message.{IsRanged, Message}
use Rattle.model.proofs.ForLaws.{word_fits}
use Rattle.model.proofs.Worlds.{Every-below, length-below}
use Rattle.model.specs.Meaning.{IsLawful, IsSend, IsWords}
use Rattle.model.specs.World.{below}
use Rattle.models.specs.JobShop.{GoodShop, IsShop, Shop, after_refusal, after_service, ended}
use Rattle.models.specs.JobShop.{first_job, is_turned_away, passed_on, shop_key, shop_meaning}
use Rattle.models.specs.WordLaws.{key_lt}

first_lawful : (s : Shop) → IsShop s → (lp : ℕ) → lp < s.lps →
    (k : ℕ) → k < s.jobs → IsSend s.lps (first_job s lp k)
first_lawful s good lp l k b =
    let most : lp * s.jobs ≤ lp * 8 = mul-le-mul_left lp good.few_jobs in
    record {
      delay = omega arith;
      delay_fits = omega (arith, good.few_jobs);
      to = l;
      a = omega (arith, good.few, good.few_jobs);
      b = lit< tt;
      c = lit< tt;
      d = lit< tt;
    }

refused_words : (lp : ℕ) (state : List ℕ) → IsWords state → IsWords (after_refusal lp state)
refused_words lp state is = (
  lit≤ tt,
  (
    word_fits state 0 is,
    (
      word_fits state 1 is,
      (word_fits state 2 is, (omega arith, (key_lt (shop_key state) lp 1, tt))),
    ),
  ),
)

served_words : (s : Shop) (lp : ℕ) (state : List ℕ) (t : ℕ) → t < 2 ^ 41 →
    is_turned_away s lp state t ≡ false → IsWords state
    → IsWords (after_service s lp state t)
served_words s lp state t early stays is =
    let soon : ended s lp state t - t ≤ 2 ^ 32 - 1 = ltb-false (2 ^ 32 - 1)
    (ended s lp state t - t) stays in (
      lit≤ tt,
      (
        omega arith,
        (omega arith, (omega arith, (word_fits state 3 is, (key_lt (shop_key state) lp 1, tt)))),
      ),
    )

next_words : (s : Shop) (lp : ℕ) (state : List ℕ) (t : ℕ) → t < 2 ^ 41 → IsWords state
    → IsWords (if is_turned_away s lp state t then after_refusal lp state
    else after_service s lp state t)
next_words s lp state t early is = elim (cases_Bool (is_turned_away s lp state t)) [
  | inl e ↦ rw e (refused_words lp state is)
  | inr e ↦ rw e (served_words s lp state t early e is)
]

passed_lawful : (s : Shop) → IsShop s → (lp : ℕ) (state : List ℕ) (x : Message) → IsRanged x →
    is_turned_away s lp state x.time ≡ false
    → IsSend s.lps (passed_on s lp state x)
passed_lawful s good lp state x ranged stays =
    let soon : ended s lp state x.time - x.time ≤ 2 ^ 32 - 1 = ltb-false (2 ^ 32 - 1)
    (ended s lp state x.time - x.time) stays in
    record {
      delay = omega arith;
      delay_fits = omega arith;
      to = mod-lt (lp + 1) good.some;
      a = ranged.a;
      b = mod-lt (x.b + 1) (lit< tt);
      c = ranged.c;
      d = ranged.d;
    }

module _ (s : Shop) (good : IsShop s) (lp : ℕ) (state : List ℕ) (x : Message)
    (ranged : IsRanged x) where
  few_sends : length (if is_turned_away s lp state x.time then []
      else passed_on s lp state x ∷ []) ≤ 8
  few_sends = elim (cases_Bool (is_turned_away s lp state x.time)) [
    | inl e ↦ rw e (lit≤ tt)
    | inr e ↦ rw e (lit≤ tt)
  ]

  each_send : Every (IsSend s.lps) (if is_turned_away s lp state x.time then []
      else passed_on s lp state x ∷ [])
  each_send = elim (cases_Bool (is_turned_away s lp state x.time)) [
    | inl e ↦ rw e tt
    | inr e ↦ rw e (passed_lawful s good lp state x ranged e, tt)
  ]

pub shop_lawful : (s : GoodShop) → IsLawful (shop_meaning s.shop)
shop_lawful s = record {
  some = s.good.some;
  few_lps = omega (arith, s.good.few);
  identity_few = lit≤ tt;
  identity_words = (
    lit< tt,
    (
      omega (arith, s.good.few_jobs),
      (omega (arith, s.good.service_fits), (omega (arith, s.good.seed_fits), tt)),
    ),
  );
  begins = tt;
  start_words = λ lp l.
      (lit≤ tt, (lit< tt, (lit< tt, (lit< tt, (lit< tt, (key_lt s.shop.seed lp 0, tt))))));
  start_few = λ lp l. rw (length-map, length-below s.shop.jobs) s.good.few_jobs;
  start = λ lp l.
      Every-map (IsSend s.shop.lps) (first_job s.shop lp) (below s.shop.jobs)
      (Every-weaker (λ k. k < s.shop.jobs) (λ k. IsSend s.shop.lps (first_job s.shop lp k))
      (first_lawful s.shop s.good lp l) (below s.shop.jobs) (Every-below s.shop.jobs));
  words = λ lp state x l words ranged. next_words s.shop lp state x.time ranged.time words;
  few = λ lp state x l words ranged. few_sends s.shop s.good lp state x ranged;
  each = λ lp state x l words ranged. each_send s.shop s.good lp state x ranged;
}
