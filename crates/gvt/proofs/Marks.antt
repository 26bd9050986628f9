-- Items without a mark: part by part, moved to the front in place, and as those that no pick names.
use Rattle.std.proofs.Common.{ℕ, zero, suc, ◌≡◌, ◌+◌, ◌≤◌, ◌<◌, List, [], ◌∷◌, ◌++◌, Bool, true, false, cond, length, take, drop, get_or, set, append-nil, replicate, ◌-◌, refl, ap, ◌∙◌, sym, arith, add-one, subst}
use Rattle.std.proofs.Math.Seq.{drop-cons}
use Rattle.std.proofs.lemmas.List.{drop-set-lt, get_or-drop, length-replicate, length-set, length-take, replicate-append-replicate, take_all, take_more, take_more_set}
use Rattle.eventkey.specs.declared.Signed.{Signed}
use Rattle.gvt.specs.Marks.{unmarked}
use Rattle.gvt.specs.Picks.{has, not_picked}

module _ {X : Type 0} where
  unmarked-none : (xs : List X) → unmarked [] xs ≡ xs
  unmarked-none [] = refl
  unmarked-none (x ∷ xs) = refl

  unmarked-append : (bs cs : List Bool) (xs ys : List X) → length bs ≡ length xs → unmarked (bs ++ cs) (xs ++ ys) ≡ unmarked bs xs ++ unmarked cs ys
  unmarked-append [] cs [] ys e = refl
  unmarked-append [] cs (x ∷ xs) ys e = absurd (omega arith)
  unmarked-append (b ∷ bs) cs [] ys e = absurd (omega arith)
  unmarked-append (true ∷ bs) cs (x ∷ xs) ys e = unmarked-append bs cs xs ys (omega arith)
  unmarked-append (false ∷ bs) cs (x ∷ xs) ys e = ap (λ (zs : List X). x ∷ zs) (unmarked-append bs cs xs ys (omega arith))

  -- xs became ys: the unmarked of the first i items of xs are the first k of ys, and from i on ys
  -- equals xs
  pub record IsKeptInPlace (marks : List Bool) (xs ys : List X) (k i : ℕ) : Type 0 where
    pub front : take k ys ≡ unmarked (take i marks) (take i xs)
    pub rest : drop i ys ≡ drop i xs
    pub behind : k ≤ i
    pub long : length ys ≡ length xs

  pub kept-none : (marks : List Bool) (xs : List X) → IsKeptInPlace marks xs xs 0 0
  kept-none marks xs = record { front = refl; rest = refl; behind = omega arith; long = refl }

  module _ (marks : List Bool) (xs ys : List X) (k i : ℕ) (x : X) (h : IsKeptInPlace marks xs ys k i) (within : i < length marks) (same : length marks ≡ length xs) where
    one_more : unmarked (take (i + 1) marks) (take (i + 1) xs) ≡ unmarked (take i marks) (take i xs) ++ unmarked (get_or marks i false ∷ []) (get_or xs i x ∷ [])
    one_more =
        let inside : i < length xs = omega arith in
        let a = length-take i marks in
        let b = length-take i xs in
        rw (take_more marks i false within, take_more xs i x inside) (unmarked-append (take i marks) (get_or marks i false ∷ []) (take i xs) (get_or xs i x ∷ []) (omega arith))

    after_one : drop (i + 1) ys ≡ drop (i + 1) xs
    after_one =
        let long = h.long in
        let inside : i < length ys = omega arith in
        let inside' : i < length xs = omega arith in
        let e = sym (drop-cons ys i x inside) ∙ (h.rest ∙ drop-cons xs i x inside') in
        rw add-one (cc)

    as_before : get_or ys i x ≡ get_or xs i x
    as_before = subst (λ (n : ℕ). get_or ys n x ≡ get_or xs n x) (omega arith) (sym (get_or-drop i ys 0 x) ∙ (ap (λ (zs : List X). get_or zs 0 x) h.rest ∙ get_or-drop i xs 0 x))

    pub kept-marked : get_or marks i false ≡ true → IsKeptInPlace marks xs ys k (i + 1)
    kept-marked e = let b = h.behind in record {
      front = h.front ∙ sym (one_more ∙ rw e (append-nil _));
      rest = after_one;
      behind = omega arith;
      long = h.long;
    }

    pub kept-unmarked : get_or marks i false ≡ false → x ≡ get_or ys i x → IsKeptInPlace marks xs (set ys k x) (k + 1) (i + 1)
    kept-unmarked e f = let b = h.behind in record {
      front = take_more_set ys k x (let a = h.long in omega arith) ∙ rw (one_more, e, h.front, ← as_before, ← f) refl;
      rest = drop-set-lt (i + 1) ys k x (omega arith) ∙ after_one;
      behind = omega arith;
      long = length-set ys k x ∙ h.long;
    }

-- the unmarked are those that no pick names
pub unmarked_is : (marks : List Bool) (picks : List ℕ) (i : ℕ) (ss : List Signed) → length marks ≡ length ss →
    ((k : ℕ) → k < length marks → get_or marks k false ≡ has (i + k) picks) → unmarked marks ss ≡ not_picked picks i ss
unmarked_is [] picks i [] e h = refl
unmarked_is [] picks i (s ∷ ss) e h = absurd (omega arith)
unmarked_is (b ∷ bs) picks i [] e h = absurd (omega arith)
unmarked_is (b ∷ bs) picks i (s ∷ ss) e h =
    let rest = unmarked_is bs picks (i + 1) ss (omega arith) (λ k l. h (suc k) (omega arith) ∙ ap (λ (n : ℕ). has n picks) (omega arith)) in
    let here : b ≡ has i picks = h zero (omega arith) ∙ ap (λ (n : ℕ). has n picks) (omega arith) in
    rw (← here) (one b rest)
  where
    one : (c : Bool) → unmarked bs ss ≡ not_picked picks (i + 1) ss → unmarked (c ∷ bs) (s ∷ ss) ≡ cond c (not_picked picks (i + 1) ss) (s ∷ not_picked picks (i + 1) ss)
    one true r = r
    one false r = ap (λ (ts : List Signed). s ∷ ts) r

-- clear marks for more places
clear_more : (n k : ℕ) → k ≤ n → take n (replicate k false) ++ replicate (n - k) false ≡ replicate n false
clear_more n k l =
    ap (λ (marks : List Bool). marks ++ replicate (n - k) false) (take_all n (replicate k false) (let a = length-replicate k false in omega arith))
    ∙ (replicate-append-replicate k (n - k) false ∙ ap (λ (m : ℕ). replicate m false) (omega arith))

-- clear marks, resized for more places
pub clear_resized : (new old : List Bool) (n len k m : ℕ) → new ≡ take n old ++ replicate (n - len) false → old ≡ replicate k false → len ≡ length old → n ≡ m → k ≤ m → new ≡ replicate m false
clear_resized new old n len k m is clear long same more =
    let count : len ≡ k = long ∙ (ap length clear ∙ length-replicate k false) in
    is ∙ (rw (clear, count, same) (clear_more m k more))
