-- The least of times, bounds of them, and the blocks that a search skips.
use Rattle.std.proofs.Common.{◌≡◌, ℕ, zero, suc, ◌+◌, ◌*◌, ◌/◌, ◌-◌, ◌<◌, ◌≤◌, min, List, [], ◌∷◌, length, get_or, set, take, drop, replicate, sym, subst, ◌∙◌, ap, arith, inl, inr}
use Rattle.std.proofs.lemmas.Bool.{cases_eq, cases_lt}
use Rattle.std.proofs.lemmas.List.{drop-drop, drop_all, get_or-drop, get_or-replicate, get_or-set_other, get_or-set_same, get_or-take, length-drop, length-replicate, length-set, length-take, take_all}
use Rattle.node.specs.Times.{AreFrom, AreTimes, block_at, least_in, never}

-- 1. The least of times

pub least_most : (xs : List ℕ) → least_in xs ≤ never
least_most [] = omega arith
least_most (x ∷ xs) = let rest = least_most xs in omega arith

-- the least of the first n and of the rest
least_split : (n : ℕ) (xs : List ℕ) → least_in xs ≡ min (least_in (take n xs)) (least_in (drop n xs))
least_split zero xs = let most = least_most xs in omega arith
least_split (suc n) [] = omega arith
least_split (suc n) (x ∷ xs) = let rest = least_split n xs in omega arith

-- the least is a bound of all
least_under : (xs : List ℕ) (k : ℕ) → k < length xs → least_in xs ≤ get_or xs k 0
least_under [] k l = absurd (omega arith)
least_under (x ∷ xs) zero l = omega arith
least_under (x ∷ xs) (suc k) l = let rest = least_under xs k (omega arith) in omega arith

-- a bound of all is a bound of the least
under_least : (b : ℕ) (xs : List ℕ) → b ≤ never → ((k : ℕ) → k < length xs → b ≤ get_or xs k 0) → b ≤ least_in xs
under_least b [] most h = most
under_least b (x ∷ xs) most h =
    let first : b ≤ x = h zero (omega arith) in
    let rest = under_least b xs most (λ k l. h (suc k) (omega arith)) in
    omega arith

-- after the last time
pub least_after : (xs : List ℕ) (k least : ℕ) → length xs ≤ k → least ≤ never → min least (least_in (drop k xs)) ≡ least_in xs → least ≡ least_in xs
least_after xs k least last most is =
    let none : least_in (drop k xs) ≡ never = ap least_in (drop_all k xs last) in
    omega arith

-- 2. Blocks

length-block : (block : ℕ) (xs : List ℕ) → length (block_at block xs) ≡ min 32 (length xs - 32 * block)
length-block block xs = length-take 32 (drop (32 * block) xs) ∙ ap (min 32) (length-drop (32 * block) xs)

-- the slice of a block
pub block_slice : (block count : ℕ) (xs : List ℕ) → count ≡ min (length xs) (block * 32 + 32) - block * 32 → take count (drop (block * 32) xs) ≡ block_at block xs
block_slice block count xs e =
    let start : block * 32 ≡ 32 * block = omega arith in
    let rest : List ℕ = drop (block * 32) xs in
    let size : length rest ≡ length xs - block * 32 = length-drop (block * 32) xs in
    elim (cases_lt 32 (length rest)) [
      | inl l ↦ ap (λ (n : ℕ). take n rest) {x = count} {y = 32} (omega arith)
      | inr l ↦ take_all count rest (omega arith) ∙ sym (take_all 32 rest l)
    ]
    ∙ ap (λ (n : ℕ). take 32 (drop n xs)) start

-- the time at a place within a block
in_block : (block j : ℕ) (xs : List ℕ) → j < 32 → get_or (block_at block xs) j 0 ≡ get_or xs (32 * block + j) 0
in_block block j xs l = get_or-take 32 (drop (32 * block) xs) j 0 l ∙ get_or-drop (32 * block) xs j 0

-- the least of a block is a bound of it
by_least : (xs : List ℕ) (block k : ℕ) → k < length xs → k / 32 ≡ block → least_in (block_at block xs) ≤ get_or xs k 0
by_least xs block k l e =
    let j : ℕ = k - 32 * block in
    let size = length-block block xs in
    let low = least_under (block_at block xs) j (omega arith) in
    let here = in_block block j xs (omega arith) in
    let there : get_or xs (32 * block + j) 0 ≡ get_or xs k 0 = ap (λ (i : ℕ). get_or xs i 0) {x = 32 * block + j} {y = k} (omega arith) in
    omega arith

-- a block with another bound
bounded_with : (xs bounds : List ℕ) (block b : ℕ) → AreTimes xs bounds → block < length bounds → ((k : ℕ) → k < length xs → k / 32 ≡ block → b ≤ get_or xs k 0) → AreTimes xs (set bounds block b)
bounded_with xs bounds block b h there is = record {
  size = length-set bounds block b ∙ h.size;
  bounded = λ k l. elim (cases_eq (k / 32) block) [
    | inl e ↦ (
        let read : get_or (set bounds block b) (k / 32) 0 ≡ b = ap (λ (j : ℕ). get_or (set bounds block b) j 0) e ∙ get_or-set_same bounds block b 0 there in
        let low = is k l e in
        omega arith)
    | inr e ↦ (
        let read : get_or (set bounds block b) (k / 32) 0 ≡ get_or bounds (k / 32) 0 = get_or-set_other bounds block (k / 32) b 0 e in
        let low = h.bounded k l in
        omega arith)
  ];
}

-- the bound of a block becomes exact
pub times_tightened : (xs bounds : List ℕ) (block b : ℕ) → AreTimes xs bounds → block < length bounds → b ≡ least_in (block_at block xs) → AreTimes xs (set bounds block b)
times_tightened xs bounds block b h there is = bounded_with xs bounds block b h there (λ k l e. let low = by_least xs block k l e in omega arith)

-- a time changes, and lowers the bound of its block
pub times_with : (xs bounds : List ℕ) (place x b : ℕ) → AreTimes xs bounds → place < length xs → b ≡ min (get_or bounds (place / 32) 0) x → AreTimes (set xs place x) (set bounds (place / 32) b)
times_with xs bounds place x b h there is =
    let block : ℕ = place / 32 in
    let size = h.size in
    let same : length (set xs place x) ≡ length xs = length-set xs place x in
    let within : block < length bounds = omega arith in
    record {
      size = length-set bounds block b ∙ h.size ∙ ap (λ (n : ℕ). n / 32 + 1) (sym same);
      bounded = λ k l. (
          let low = h.bounded k (omega arith) in
          let bound : get_or (set bounds block b) (k / 32) 0 ≤ get_or bounds (k / 32) 0 = elim (cases_eq (k / 32) block) [
            | inl f ↦ (
                let new : get_or (set bounds block b) (k / 32) 0 ≡ b = ap (λ (j : ℕ). get_or (set bounds block b) j 0) f ∙ get_or-set_same bounds block b 0 within in
                let old : get_or bounds (k / 32) 0 ≡ get_or bounds block 0 = ap (λ (j : ℕ). get_or bounds j 0) f in
                omega arith)
            | inr f ↦ (let new = get_or-set_other bounds block (k / 32) b 0 f in omega arith)
          ] in
          elim (cases_eq k place) [
            | inl e ↦ (
                let new : get_or (set bounds block b) (k / 32) 0 ≡ b = ap (λ (j : ℕ). get_or (set bounds block b) (j / 32) 0) e ∙ get_or-set_same bounds block b 0 within in
                let time : get_or (set xs place x) k 0 ≡ x = ap (λ (j : ℕ). get_or (set xs place x) j 0) e ∙ get_or-set_same xs place x 0 there in
                omega arith)
            | inr e ↦ (let time = get_or-set_other xs place k x 0 e in omega arith)
          ]);
    }

-- no times
pub times_new : (places : ℕ) (xs bounds : List ℕ) → xs ≡ replicate places never → bounds ≡ replicate (places / 32 + 1) never → AreTimes xs bounds
times_new places xs bounds is are =
    subst (λ (ys : List ℕ). AreTimes ys bounds) (sym is) (subst (AreTimes (replicate places never)) (sym are) (record {
      size = length-replicate (places / 32 + 1) never ∙ ap (λ (n : ℕ). n / 32 + 1) (sym (length-replicate places never));
      bounded = λ k l. (
          let size = length-replicate places never in
          let time = get_or-replicate places k never 0 (omega arith) in
          let bound = get_or-replicate (places / 32 + 1) (k / 32) never 0 (omega arith) in
          omega arith);
    }))

-- 3. The least time, block by block

-- the bound of a block is a bound of all its times
block_bounded : (xs bounds : List ℕ) (block b : ℕ) → AreTimes xs bounds → b ≤ get_or bounds block 0 → b ≤ never → b ≤ least_in (block_at block xs)
block_bounded xs bounds block b h low most =
    under_least b (block_at block xs) most (λ j l.
    let size = length-block block xs in
    let k : ℕ = 32 * block + j in
    let e : k / 32 ≡ block = omega arith in
    let bound = h.bounded k (omega arith) in
    let same : get_or bounds (k / 32) 0 ≡ get_or bounds block 0 = ap (λ (n : ℕ). get_or bounds n 0) e in
    let here = in_block block j xs (omega arith) in
    omega arith)

-- this time and the blocks from this one on give the least time
pub record IsLeastSoFar (xs : List ℕ) (block least : ℕ) : Type 0 where
  pub most : least ≤ never
  pub is : min least (least_in (drop (32 * block) xs)) ≡ least_in xs

pub least_begins : (xs : List ℕ) → IsLeastSoFar xs 0 never
least_begins xs = record { most = omega arith; is = (let most = least_most xs in omega arith) }

least_with : (xs : List ℕ) (block least next : ℕ) → IsLeastSoFar xs block least → min least (least_in (block_at block xs)) ≡ next → IsLeastSoFar xs (block + 1) next
least_with xs block least next h e =
    let rest : List ℕ = drop (32 * block) xs in
    let there : least_in (drop 32 rest) ≡ least_in (drop (32 * (block + 1)) xs) =
    ap least_in (drop-drop 32 (32 * block) xs ∙ ap (λ (n : ℕ). drop n xs) {x = 32 * block + 32} {y = 32 * (block + 1)} (omega arith))
    in
    let split = least_split 32 rest in
    let is = h.is in
    let most = h.most in
    record { most = omega arith; is = omega arith }

-- a block is skipped
pub least_past : (xs bounds : List ℕ) (block least b : ℕ) → AreTimes xs bounds → IsLeastSoFar xs block least → b ≡ get_or bounds block 0 → least ≤ b → IsLeastSoFar xs (block + 1) least
least_past xs bounds block least b so h read low =
    let under = block_bounded xs bounds block least so (omega arith) h.most in
    least_with xs block least least h (omega arith)

-- a block is scanned
pub least_over : (xs : List ℕ) (block least next b : ℕ) → IsLeastSoFar xs block least → b ≡ least_in (block_at block xs) → next ≡ min least b → IsLeastSoFar xs (block + 1) next
least_over xs block least next b h is e = least_with xs block least next h (omega arith)

pub least_ends : (xs : List ℕ) (block least : ℕ) → length xs ≤ 32 * block → IsLeastSoFar xs block least → least ≡ least_in xs
least_ends xs block least last h =
    let none : least_in (drop (32 * block) xs) ≡ never = ap least_in (drop_all (32 * block) xs last) in
    let is = h.is in
    let most = h.most in
    omega arith

-- 4. Times below a limit, block by block

-- if the bound of a block is not below the limit, no time in it is
pub late_block : (limit : ℕ) (xs bounds : List ℕ) (place end : ℕ) → AreTimes xs bounds → end ≤ length xs → end ≤ (place / 32 + 1) * 32 → limit ≤ get_or bounds (place / 32) 0 → AreFrom limit xs place end
late_block limit xs bounds place end h inside most e k from before =
    let same : k / 32 ≡ place / 32 = omega arith in
    let bound = h.bounded k (omega arith) in
    let read : get_or bounds (k / 32) 0 ≡ get_or bounds (place / 32) 0 = ap (λ (n : ℕ). get_or bounds n 0) same in
    omega arith

pub late_on : (limit : ℕ) (xs : List ℕ) (from place end : ℕ) → AreFrom limit xs from place → AreFrom limit xs place end → AreFrom limit xs from end
late_on limit xs from place end h more k a b = elim (cases_lt k place) [ inl l ↦ h k a l | inr l ↦ more k l b ]
