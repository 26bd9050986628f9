-- Every token ring obeys the laws of a model.
use Rattle.std.specs.List.{AllByRecursion as Every}
use Rattle.std.specs.Prelude.{ℕ, zero, suc, ◌+◌, ◌-◌, ◌*◌, ◌%◌, ◌<◌, ◌≤◌, ◌≡◌, ◌==◌, ◌++◌, [], ◌∷◌}
use Rattle.std.specs.Prelude.{Bool, true, false, filter, length, cond}
use Rattle.std.proofs.Common.{arith, lit<, lit≤, ap, ◌∙◌, inl, inr, add-suc, add-zero, zero-add}
use Rattle.std.proofs.Common.{add-one, eq-eqb, length-append}
use Rattle.std.proofs.Math.Nat.{mod-lt}
use Rattle.std.proofs.lemmas.Bool.{ne_eqb, cases_lt}
use Rattle.std.proofs.lemmas.List.{append-nil, length-map}
use Rattle.std.proofs.lemmas.List.Elements.{filter-append}
use Rattle.std.proofs.lemmas.Nat.{mod-mul-add}
use Rattle.eventkey.proofs.Lists.{Every-append, Every-map}
use Rattle.model.specs.Meaning.{IsLawful, IsSend}
use Rattle.model.specs.World.{below}
use Rattle.models.specs.Ring.{GoodRing, IsRing, Ring, first_send, ring_meaning, tokens_at}

-- a property of each number below n holds of those that a test keeps
pub Every-kept : (P : ℕ → Type 0) (p : ℕ → Bool) (n : ℕ) →
    ((j : ℕ) → j < n → P j) → Every P (filter p (below n))
Every-kept P p zero h = tt
Every-kept P p (suc n) h =
    rw (filter-append p (below n) (n ∷ []))
    (Every-append P (filter p (below n)) (filter p (n ∷ []))
    (Every-kept P p n (λ j l. h j (omega arith)))
    (elim (p n) as (λ b. Every P (cond b (n ∷ []) []))
    [ true ↦ (h n (omega arith), tt) | false ↦ tt ]))

-- further numbers, none of which the test keeps
pub none_kept : (p : ℕ → Bool) (m d : ℕ) → ((i : ℕ) → i < d → p (m + i) ≡ false) →
    filter p (below (m + d)) ≡ filter p (below m)
none_kept p m zero h = rw add-zero
none_kept p m (suc d) h =
    rw (add-suc, filter-append p (below (m + d)) ((m + d) ∷ []), h d (omega arith), append-nil)
    (none_kept p m d (λ i l. h i (omega arith)))

-- one further number, which the test keeps
pub one_kept : (p : ℕ → Bool) (m : ℕ) → p m ≡ true →
    filter p (below (m + 1)) ≡ filter p (below m) ++ m ∷ []
one_kept p m h = rw (add-one, filter-append p (below m) (m ∷ []), h)

-- of more numbers the test keeps at least as many
pub more_kept : (p : ℕ → Bool) (m d : ℕ) →
    length (filter p (below m)) ≤ length (filter p (below (m + d)))
more_kept p m zero = rw add-zero (omega arith)
more_kept p m (suc d) =
    rw (add-suc, filter-append p (below (m + d)) ((m + d) ∷ []), length-append)
    (omega (arith, more_kept p m d))

module _ (n lp : ℕ) (l : lp < n) where
  pub is_place : (k : ℕ) → ((k * n + lp) % n == lp) ≡ true
  is_place k = eq-eqb _ _ (mod-mul-add k n lp l)

  -- no token between two tokens of this process starts at it
  no_place : (k d : ℕ) → d + 1 < n → ((k * n + lp + 1 + d) % n == lp) ≡ false
  no_place k d h = elim (cases_lt (lp + 1 + d) n) [
    | inl low ↦
        let at : (k * n + lp + 1 + d) % n ≡ lp + 1 + d = ap (λ i. i % n) (omega arith)
        ∙ mod-mul-add k n (lp + 1 + d) low in
        ne_eqb _ _ (λ e. absurd (omega arith))
    | inr high ↦
        let at : (k * n + lp + 1 + d) % n ≡ lp + 1 + d - n = ap (λ i. i % n) (omega arith)
        ∙ mod-mul-add (k + 1) n (lp + 1 + d - n) (omega arith) in
        ne_eqb _ _ (λ e. absurd (omega arith))
  ]

  before_first : (i : ℕ) → i < lp → ((0 + i) % n == lp) ≡ false
  before_first i h =
      let start : 0 + i ≡ 0 * n + i = omega arith in
      let at : (0 + i) % n ≡ i = ap (λ j. j % n) start ∙ mod-mul-add 0 n i (omega arith) in
      ne_eqb _ _ (λ e. absurd (omega arith))

  pub no_first : (m : ℕ) → m ≤ lp → filter (λ j. j % n == lp) (below m) ≡ []
  no_first m h = rw zero-add at
      (none_kept (λ j. j % n == lp) 0 m (λ i b. before_first i (omega arith)))

  pub none_first : filter (λ j. j % n == lp) (below lp) ≡ []
  none_first = no_first lp (omega arith)

  -- up to the next token of this process there is one more
  pub one_more : (k d : ℕ) → d < n →
      filter (λ j. j % n == lp) (below (k * n + lp + 1 + d))
      ≡ filter (λ j. j % n == lp) (below (k * n + lp)) ++ (k * n + lp) ∷ []
  one_more k d h =
      none_kept (λ j. j % n == lp) (k * n + lp + 1) d (λ i b. no_place k i (omega arith))
      ∙ one_kept (λ j. j % n == lp) (k * n + lp) (is_place k)

  pub how_many : (k : ℕ) → length (filter (λ j. j % n == lp) (below (k * n + lp))) ≡ k
  how_many zero =
      let start : 0 * n + lp ≡ lp = omega arith in
      ap (λ i. length (filter (λ j. j % n == lp) (below i))) start ∙ ap length none_first
  how_many (suc k) =
      let next : suc k * n + lp ≡ k * n + lp + 1 + (n - 1) = omega arith in
      ap (λ i. length (filter (λ j. j % n == lp) (below i))) next
      ∙ ap length (one_more k (n - 1) (omega arith))
      ∙ length-append (filter (λ j. j % n == lp) (below (k * n + lp))) ((k * n + lp) ∷ [])
      ∙ ap (λ i. i + 1) (how_many k) ∙ add-one k

first_lawful : (r : Ring) → IsRing r → (lp : ℕ) → lp < r.lps →
    (j : ℕ) → j < r.tokens → IsSend r.lps (first_send lp j)
first_lawful r h lp l j b = record {
  delay = lit≤ tt;
  delay_fits = lit< tt;
  to = l;
  a = omega (arith, h.few, h.few_tokens);
  b = lit< tt;
  c = lit< tt;
  d = lit< tt;
}

few_first : (r : Ring) → IsRing r → (lp : ℕ) → lp < r.lps → length (tokens_at r.lps r.tokens lp) ≤ 8
few_first r h lp l =
    let rest : ℕ = 8 * r.lps + lp - r.tokens in
    let all : r.tokens + rest ≡ 8 * r.lps + lp = omega (arith, h.few_tokens) in
    omega (
      arith,
      more_kept (λ j. j % r.lps == lp) r.tokens rest,
      ap (λ i. length (filter (λ j. j % r.lps == lp) (below i))) all,
      how_many r.lps lp l 8,
    )

pub ring_lawful : (r : GoodRing) → IsLawful (ring_meaning r.ring)
ring_lawful r = record {
  some = r.good.some;
  few_lps = omega (arith, r.good.few);
  identity_few = lit≤ tt;
  identity_words = (
    lit< tt,
    (omega (arith, r.good.hold_fits), (omega (arith, r.good.few, r.good.few_tokens), tt)),
  );
  begins = tt;
  start_words = λ lp l. (lit≤ tt, (lit< tt, tt));
  start_few = λ lp l. rw length-map (few_first r.ring r.good lp l);
  start = λ lp l. Every-map (IsSend r.ring.lps) (first_send lp)
      (tokens_at r.ring.lps r.ring.tokens lp)
      (Every-kept (λ j. IsSend r.ring.lps (first_send lp j))
      (λ j. j % r.ring.lps == lp) r.ring.tokens (first_lawful r.ring r.good lp l));
  words = λ lp state x l words ranged. (lit≤ tt, (omega arith, tt));
  few = λ lp state x l words ranged. lit≤ tt;
  each = λ lp state x l words ranged. (
    record {
      delay = r.good.held;
      delay_fits = r.good.hold_fits;
      to = mod-lt (lp + 1) r.good.some;
      a = ranged.a;
      b = mod-lt (x.b + 1) (lit< tt);
      c = ranged.c;
      d = ranged.d;
    },
    tt,
  );
}
