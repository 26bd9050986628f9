-- What a level has after its number kept a value for some ticks.
use Rattle.std.proofs.Common.{◌≡◌, ℕ, zero, suc, ◌+◌, ◌-◌, ◌*◌, ◌^◌, ◌<◌, List, [], ◌∷◌, ◌++◌, drop, length, max, min, replicate, arith, ap, sym, ◌∙◌}
use Rattle.std.proofs.lemmas.List.{drop-replicate, length-append, length-replicate}
use Rattle.std.proofs.Common.{append-nil}
use Rattle.pictures.specs.Levels.{IsLevel, greatest_of, held, least_of, total}
use Rattle.pictures.specs.Quotients.{saturated}
use Rattle.pictures.specs.declared.levels.Level.{Level}

total-same : (k v : ℕ) → total (replicate k v) ≡ k * v
total-same zero v = omega arith
total-same (suc k) v = omega (arith, total-same k v)

pub total-append_same : (ns : List ℕ) (k v : ℕ) → total (ns ++ replicate k v) ≡ total ns + k * v
total-append_same [] k v = omega (arith, total-same k v)
total-append_same (n ∷ ns) k v = omega (arith, total-append_same ns k v)

least_of-same : (k v : ℕ) → least_of (replicate (suc k) v) ≡ min (2 ^ 64 - 1) v
least_of-same zero v = omega arith
least_of-same (suc k) v = omega (arith, least_of-same k v)

pub least_of-append_same : (ns : List ℕ) (k v : ℕ) → least_of (ns ++ replicate (suc k) v) ≡ min (least_of ns) v
least_of-append_same [] k v = least_of-same k v
least_of-append_same (n ∷ ns) k v = omega (arith, least_of-append_same ns k v)

greatest_of-same : (k v : ℕ) → greatest_of (replicate (suc k) v) ≡ v
greatest_of-same zero v = omega arith
greatest_of-same (suc k) v = omega (arith, greatest_of-same k v)

pub greatest_of-append_same : (ns : List ℕ) (k v : ℕ) → greatest_of (ns ++ replicate (suc k) v) ≡ max (greatest_of ns) v
greatest_of-append_same [] k v = greatest_of-same k v ∙ omega arith
greatest_of-append_same (n ∷ ns) k v = omega (arith, greatest_of-append_same ns k v)

drop-joined : {X : Type 0} (i : ℕ) (xs ys : List X) → drop i (xs ++ ys) ≡ drop i xs ++ drop (i - length xs) ys
drop-joined zero xs ys = let none : 0 - length xs ≡ 0 = omega arith in ap (λ k. xs ++ drop k ys) (sym none)
drop-joined (suc i) [] ys = let all : suc i - 0 ≡ suc i = omega arith in ap (λ k. drop k ys) (sym all)
drop-joined (suc i) (x ∷ xs) ys = let less : i - length xs ≡ suc i - suc (length xs) = omega arith in drop-joined i xs ys ∙ ap (λ k. drop i xs ++ drop k ys) less

-- which of the values count after a value was kept
counted : (values : List ℕ) (from n v : ℕ) → drop from (values ++ replicate n v) ≡ drop from values ++ replicate (n - (from - length values)) v
counted values from n v = drop-joined from values (replicate n v) ∙ ap (λ t. drop from values ++ t) (drop-replicate (from - length values) n v)

pub level_kept : (values : List ℕ) (time : ℕ) (old new : Level) → IsLevel values old → time - max old.from old.since ≡ 0 → new.from ≡ old.from → new.since ≡ max old.since time
    → new.integral ≡ old.integral → new.least ≡ old.least → new.most ≡ old.most → IsLevel (held time old values) new
level_kept values time old new is early from since integral least most =
    let none : time - old.since - (old.from - length values) ≡ zero = omega (arith, is.since) in
    let same : drop new.from (held time old values) ≡ drop old.from values ++ [] =
    ap (λ f. drop f (held time old values)) from ∙ counted values old.from (time - old.since) old.value ∙ ap (λ k. drop old.from values ++ replicate k old.value) none in
    let bare : drop new.from (held time old values) ≡ drop old.from values = same ∙ append-nil (drop old.from values) in
    record {
      since = since ∙ omega (arith, is.since, length-append values (replicate (time - old.since) old.value), length-replicate (time - old.since) old.value);
      integral = integral ∙ is.integral ∙ ap (λ vs. saturated (total vs)) (sym bare);
      least = least ∙ is.least ∙ ap least_of (sym bare);
      most = most ∙ is.most ∙ ap greatest_of (sym bare);
    }

pub level_held : (values : List ℕ) (time ticks : ℕ) (old new : Level) → IsLevel values old → ticks ≡ time - max old.from old.since → 0 < ticks → new.from ≡ old.from → new.since ≡ max old.since time
    → new.integral ≡ saturated (old.integral + saturated (ticks * old.value)) → new.least ≡ min old.least old.value → new.most ≡ max old.most old.value → IsLevel (held time old values) new
level_held values time ticks old new is ticks_are some from since integral least most =
    let more : time - old.since - (old.from - length values) ≡ suc (ticks - 1) = omega (arith, is.since) in
    let after : drop new.from (held time old values) ≡ drop old.from values ++ replicate (suc (ticks - 1)) old.value =
    ap (λ f. drop f (held time old values)) from ∙ counted values old.from (time - old.since) old.value ∙ ap (λ k. drop old.from values ++ replicate k old.value) more in
    let one : suc (ticks - 1) ≡ ticks = omega arith in
    let sum : total (drop new.from (held time old values)) ≡ total (drop old.from values) + ticks * old.value =
    ap total after ∙ total-append_same (drop old.from values) (suc (ticks - 1)) old.value ∙ ap (λ k. total (drop old.from values) + k * old.value) one in
    record {
      since = since ∙ omega (arith, is.since, length-append values (replicate (time - old.since) old.value), length-replicate (time - old.since) old.value);
      integral = integral ∙ omega (arith, is.integral, sum);
      least = least ∙ ap (λ n. min n old.value) is.least ∙ sym (ap least_of after ∙ least_of-append_same (drop old.from values) (ticks - 1) old.value);
      most = most ∙ ap (λ n. max n old.value) is.most ∙ sym (ap greatest_of after ∙ greatest_of-append_same (drop old.from values) (ticks - 1) old.value);
    }
