-- Values in buckets, and what one more value changes.
use Rattle.std.proofs.Common.{◌≡◌, ◌==◌, ◌≢◌, ℕ, true, false, zero, suc, inl, inr, ◌+◌, ◌-◌, ◌*◌, ◌/◌, ◌^◌, ◌<◌, ◌≤◌, List, [], ◌∷◌, ◌++◌, drop, get_or, length, map, max, min, replicate, set, take, arith, ap, sym, refl, ◌∙◌, subst, eq-eqb}
use Rattle.std.specs.Prelude.{if◌then◌else◌, nat_lt}
use Rattle.std.specs.List.{filter}
use Rattle.std.proofs.lemmas.Bool.{cases_Bool, cases_lt}
use Rattle.std.proofs.lemmas.List.{get_or-replicate, get_or-set_other, get_or-set_same, length-append, length-replicate, map-append, drop_all, take_all, append-nil}
use Rattle.std.proofs.lemmas.List.Elements.{filter-append}
use Rattle.std.proofs.Common.{length-set}
use Rattle.std.proofs.Math.Nat.{pow-le-pow_right}
use Rattle.std.proofs.lemmas.Nat.{mul-le}
use Rattle.pictures.specs.Levels.{greatest_of, least_of, total}
use Rattle.pictures.specs.Quotients.{saturated}
use Rattle.pictures.specs.Tallies.{AreCounts, AreMoments, IsRanking, bucket_of, bucket_within, count_in, word_saturated}
use Rattle.pictures.specs.declared.tallies.Moments.{Moments}
use Rattle.pictures.specs.declared.tallies.Ranking.{Ranking}

-- 1. One more value

total-one : (ns : List ℕ) (v : ℕ) → total (ns ++ v ∷ []) ≡ total ns + v
total-one [] v = omega arith
total-one (n ∷ ns) v = omega (arith, total-one ns v)

least-one : (ns : List ℕ) (v : ℕ) → least_of (ns ++ v ∷ []) ≡ min (least_of ns) v
least-one [] v = omega arith
least-one (n ∷ ns) v = omega (arith, least-one ns v)

greatest-one : (ns : List ℕ) (v : ℕ) → greatest_of (ns ++ v ∷ []) ≡ max (greatest_of ns) v
greatest-one [] v = omega arith
greatest-one (n ∷ ns) v = omega (arith, greatest-one ns v)

squares-one : (ns : List ℕ) (v : ℕ) → total (map (λ n. n * n) (ns ++ v ∷ [])) ≡ total (map (λ n. n * n) ns) + v * v
squares-one ns v = ap total (map-append (λ (n : ℕ). n * n) ns (v ∷ [])) ∙ total-one (map (λ (n : ℕ). n * n) ns) (v * v)

pub moments_more : (values : List ℕ) (v : ℕ) (old new : Moments) → AreMoments values old → new.count ≡ word_saturated (old.count + 1) → new.sum ≡ saturated (old.sum + v) → new.squares ≡ saturated (old.squares + saturated (v * v))
    → new.least ≡ min old.least v → new.most ≡ max old.most v → AreMoments (values ++ v ∷ []) new
moments_more values v old new is count sum squares least most = record {
  count = omega (arith, is.count, count, length-append values (v ∷ []));
  sum = omega (arith, is.sum, sum, total-one values v);
  squares = omega (arith, is.squares, squares, squares-one values v);
  least = least ∙ ap (λ n. min n v) is.least ∙ sym (least-one values v);
  most = most ∙ ap (λ n. max n v) is.most ∙ sym (greatest-one values v);
}

-- 2. The bucket of a value

pub bucket_here : (n v : ℕ) → v < 256 → bucket_within n v ≡ v
unfolding bucket_within
bucket_here zero v small = omega arith
bucket_here (suc n) v small = rw (lt-true v small) refl
  where
    lt-true : (v : ℕ) → v < 256 → nat_lt v 256 ≡ true
    lt-true v small = grind arith

pub bucket_next : (n v : ℕ) → 256 ≤ v → bucket_within (suc n) v ≡ 128 + bucket_within n (v / 2)
unfolding bucket_within
bucket_next n v large = rw (lt-false v large) refl
  where
    lt-false : (v : ℕ) → 256 ≤ v → nat_lt v 256 ≡ false
    lt-false v large = grind arith

pub bucket_last : (v : ℕ) → bucket_within 0 v ≡ min v 255
unfolding bucket_within
bucket_last v = refl

-- the loop halves once more
pub halved : (whole k v : ℕ) → k < 56 → 256 ≤ v → whole ≡ 128 * k + bucket_within (56 - k) v → whole ≡ 128 * (k + 1) + bucket_within (56 - (k + 1)) (v / 2)
halved whole k v more large is =
    let one : 56 - k ≡ suc (56 - (k + 1)) = omega arith in
    omega (arith, is ∙ ap (λ n. 128 * k + bucket_within n v) one, bucket_next (56 - (k + 1)) v large)

-- 3. Counts

count-one : (b : ℕ) (values : List ℕ) (v : ℕ) → count_in b (values ++ v ∷ []) ≡ count_in b values + length (filter (λ w. bucket_of w == b) (v ∷ []))
count-one b values v = ap length (filter-append (λ (w : ℕ). bucket_of w == b) values (v ∷ [])) ∙ length-append (filter (λ (w : ℕ). bucket_of w == b) values) (filter (λ (w : ℕ). bucket_of w == b) (v ∷ []))

counts-here : (b : ℕ) (values : List ℕ) (v : ℕ) → bucket_of v ≡ b → count_in b (values ++ v ∷ []) ≡ count_in b values + 1
counts-here b values v here = count-one b values v ∙ ap (λ t. count_in b values + length (if t then v ∷ [] else [])) (eq-eqb (bucket_of v) b here)

counts-past : (b : ℕ) (values : List ℕ) (v : ℕ) → (bucket_of v == b) ≡ false → count_in b (values ++ v ∷ []) ≡ count_in b values
counts-past b values v past = count-one b values v ∙ ap (λ t. count_in b values + length (if t then v ∷ [] else [])) past ∙ omega arith

pub no_counts : AreCounts [] (replicate 7424 0)
no_counts = record {
  long = length-replicate {A = ℕ} 7424 0;
  each = λ b l. get_or-replicate 7424 b 0 0 l ∙ omega arith;
}

pub counts_more : (values counts after : List ℕ) (v b n : ℕ) → AreCounts values counts → b ≡ bucket_of v → b < 7424 → n ≡ word_saturated (get_or counts b 0 + 1) → after ≡ set counts b n → AreCounts (values ++ v ∷ []) after
counts_more values counts after v b n is here few one after_is = record {
  long = ap length after_is ∙ length-set counts b n ∙ is.long;
  each = λ k l. ap (λ cs. get_or cs k 0) after_is ∙ elim (cases_Bool (bucket_of v == k)) [
    | inl e ↦
        let same : bucket_of v ≡ k = grind arith in
        let at : k ≡ b = sym same ∙ sym here in
        ap (λ j. get_or (set counts b n) j 0) at ∙ get_or-set_same counts b n 0 (omega (arith, is.long)) ∙ one
        ∙ omega (arith, is.each b few, ap (λ j. count_in j values) at, counts-here k values v same)
    | inr e ↦
        let apart : k ≢ b = λ at. absurd (other (sym here ∙ sym at) e) in
        get_or-set_other counts b k n 0 apart ∙ is.each k l ∙ ap word_saturated (sym (counts-past k values v e))
  ];
}
  where
    other : {k : ℕ} → bucket_of v ≡ k → (bucket_of v == k) ≡ false → ⊥
    other {k} same e = grind (arith, eq-eqb (bucket_of v) k same)

pub total-next : (ns : List ℕ) (i n : ℕ) → i < length ns → n ≡ get_or ns i 0 → total (take (i + 1) ns) ≡ total (take i ns) + n
total-next ns i n l is = ap (λ k. total (take k ns)) one ∙ go ns i l is
  where
    one : i + 1 ≡ suc i
    one = omega arith

    go : (ns : List ℕ) (i : ℕ) → i < length ns → n ≡ get_or ns i 0 → total (take (suc i) ns) ≡ total (take i ns) + n
    go [] i l is = absurd (omega arith)
    go (x ∷ xs) zero l is = omega (arith, is)
    go (x ∷ xs) (suc i) l is = omega (arith, go xs i (omega arith) is)

pub total-whole : (ns : List ℕ) (i : ℕ) → length ns ≤ i → total (take i ns) ≡ total ns
total-whole [] zero l = refl
total-whole [] (suc i) l = refl
total-whole (n ∷ ns) zero l = absurd (omega arith)
total-whole (n ∷ ns) (suc i) l = ap (λ t. n + t) (total-whole ns i (omega arith))

-- 4. The greatest value of a bucket

pub upper_fits : (a s : ℕ) → a ≤ 256 → s ≤ 56 → a * 2 ^ s ≤ 2 ^ 64
upper_fits a s few short = mul-le a (2 ^ s) 256 (2 ^ 56) few (pow-le-pow_right (omega arith) short)

-- 5. A whole slice that is written back

pub whole_slice : (xs old : List ℕ) (n : ℕ) → length xs ≡ length old → n ≡ length old → take n (xs ++ drop (length xs) old) ≡ xs
whole_slice xs old n long whole =
    ap (λ ys. take n (xs ++ ys)) (drop_all (length xs) old (omega arith)) ∙ ap (take n) (append-nil xs) ∙ take_all n xs (omega arith)

-- 6. A ranking with one more value

pub ranking_counted : (values : List ℕ) (v : ℕ) (old new : Ranking) → IsRanking values old → 0 < length old.counts.items → (AreCounts values old.counts.items → AreCounts (values ++ v ∷ []) new.counts.items)
    → IsRanking (values ++ v ∷ []) new
ranking_counted values v old new is some more =
    let many : 65536 < length values = elim (cases_lt 65536 (length values)) [
      | inl l ↦ l
      | inr l ↦ absurd (omega (arith, ap length (is.exact l).1))
    ] in
    record {
      exact = λ few. absurd (omega (arith, length-append values (v ∷ [])));
      rounded = λ l. more (is.rounded many);
    }

few_values : (values : List ℕ) (old : Ranking) → IsRanking values old → length old.counts.items ≡ 0 → length values ≤ 65536
few_values values old is none = elim (cases_lt 65536 (length values)) [
  | inl l ↦ absurd (omega (arith, (is.rounded l).long))
  | inr l ↦ l
]

pub ranking_kept : (values : List ℕ) (v : ℕ) (old new : Ranking) → IsRanking values old → length old.counts.items ≡ 0 → length old.values.items < 65536 → new.values.items ≡ old.values.items ++ v ∷ []
    → new.counts.items ≡ old.counts.items → IsRanking (values ++ v ∷ []) new
ranking_kept values v old new is none few new_is same =
    let both = is.exact (few_values values old is none) in
    record {
      exact = λ l. (new_is ∙ ap (λ vs. vs ++ v ∷ []) both.0, same ∙ both.1);
      rounded = λ l. absurd (omega (arith, length-append values (v ∷ []), ap length both.0));
    }

pub ranking_rounded : (values : List ℕ) (v : ℕ) (old new : Ranking) (counts : List ℕ) → IsRanking values old → length old.counts.items ≡ 0 → 65536 ≤ length old.values.items → AreCounts old.values.items counts
    → ((vs : List ℕ) → AreCounts vs counts → AreCounts (vs ++ v ∷ []) new.counts.items) → IsRanking (values ++ v ∷ []) new
ranking_rounded values v old new counts is none many counted more =
    let both = is.exact (few_values values old is none) in
    record {
      exact = λ l. absurd (omega (arith, length-append values (v ∷ []), ap length both.0));
      rounded = λ l. more values (subst (λ vs. AreCounts vs counts) both.0 counted);
    }

-- the counts after one more value was counted through a slice of the whole
pub counted_slice : (values now old after : List ℕ) (v n : ℕ) → now ≡ old → length after ≡ length now → n ≡ length old → ((vs : List ℕ) → AreCounts vs now → AreCounts (vs ++ v ∷ []) after)
    → AreCounts values old → AreCounts (values ++ v ∷ []) (take n (after ++ drop (length after) old))
counted_slice values now old after v n same long whole more is =
    subst (AreCounts (values ++ v ∷ [])) (sym (whole_slice after old n (long ∙ ap length same) whole)) (more values (subst (AreCounts values) (sym same) is))
