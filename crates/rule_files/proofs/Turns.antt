-- Reading statements one after the other, as a loop does.
use Rattle.std.proofs.Common.{◌≡◌, ◌<◌, ◌≤◌, ℕ, zero, suc, ◌+◌, ◌-◌, List, [], ◌∷◌, ◌++◌, Option, Some, None, true, false, length, refl, sym, ap, ◌∙◌, arith, length-append, if◌then◌else◌}
use Rattle.std.specs.Prelude.{IfSome}
use Rattle.rules.specs.declared.tree.Statement.{Statement}
use Rattle.rule_files.specs.declared.grammar.stop.ReadStop.{ReadStop}
use Rattle.rule_files.specs.declared.grammar.stop.ReadStop.TheVariants.{Memory, Refused}
use Rattle.rule_files.specs.declared.grammar.token.SortToken.{SortToken}
use Rattle.rule_files.specs.declared.grammar.token.Token.{Token}
use Rattle.rule_files.specs.ReadingValues.{◌>>=◌, Fails}
use Rattle.rule_files.specs.ReadingStatements.{Done, Reads, begins, block_at, case_at, case_with, choice_at, choice_with, in_braces, row, statements_at, with_name}
use Rattle.rule_files.specs.Statements.{Act, Acts, empty, cons, act_of, acts_of}

-- statements after others
abbrev pub join : Acts → Acts → Acts
join empty ys = ys
join (cons x xs) ys = cons x (join xs ys)

join_assoc : (xs ys zs : Acts) → join (join xs ys) zs ≡ join xs (join ys zs)
join_assoc empty ys zs = refl
join_assoc (cons x xs) ys zs = ap (cons x) (join_assoc xs ys zs)

pub join_empty : (xs : Acts) → join xs empty ≡ xs
join_empty empty = refl
join_empty (cons x xs) = ap (cons x) (join_empty xs)

pub acts_of_push : (xs : List Statement) (x : Statement) → acts_of (xs ++ x ∷ []) ≡ join (acts_of xs) (cons (act_of x) empty)
acts_of_push [] x = refl
acts_of_push (y ∷ xs) x = ap (cons (act_of y)) (acts_of_push xs x)

-- what was read before, and what is still read
abbrev pub with_front : Acts → Option (Acts × List Token) → Option (Acts × List Token)
with_front front read = read >>= λ p. Some (join front p.0, p.1)

regroup : (front : Acts) (act : Act) (read : Option (Acts × List Token)) →
    with_front (join front (cons act empty)) read ≡ with_front front (read >>= λ q. Some (cons act q.0, q.1))
regroup front act None = refl
regroup front act (Some p) = ap (λ (xs : Acts). Some (xs, p.1)) (join_assoc front (cons act empty) p.0)

pub one_more : (first : Reads Done) (n t : ℕ) (front : Acts) (names : List ℕ) (ts : List Token) (act : Act) (name : Option ℕ) (rest : List Token) → t < n →
    begins ts ≡ true → first names ts ≡ Some ((act, name), rest) →
    with_front (join front (cons act empty)) (row first (n - (t + 1)) (with_name names name) rest) ≡ with_front front (row first (n - t) names ts)
one_more first n t front names ts act name rest below start read =
    let more : suc (n - (t + 1)) ≡ n - t = omega arith in
    regroup front act (row first (n - (t + 1)) (with_name names name) rest)
    ∙ sym (ap (λ r. with_front front (r >>= λ p. row first (n - (t + 1)) (with_name names p.0.1) p.1 >>= λ q. Some (cons p.0.0 q.0, q.1))) read)
    ∙ sym (ap (λ b. with_front front (if b then (first names ts >>= λ p. row first (n - (t + 1)) (with_name names p.0.1) p.1 >>= λ q. Some (cons p.0.0 q.0, q.1)) else Some (empty, ts))) start)
    ∙ ap (λ m. with_front front (row first m names ts)) more

pub row_stops : (first : Reads Done) (n : ℕ) (names : List ℕ) (ts : List Token) → begins ts ≡ false → row first n names ts ≡ Some (empty, ts)
row_stops first zero names ts stop = refl
row_stops first (suc n) names ts stop =
    ap (λ b. if b then (first names ts >>= λ p. row first n (with_name names p.0.1) p.1 >>= λ q. Some (cons p.0.0 q.0, q.1)) else Some (empty, ts)) stop

pub stops_here : (first : Reads Done) (n : ℕ) (front : Acts) (names : List ℕ) (ts : List Token) (total : Option (Acts × List Token)) → begins ts ≡ false →
    with_front front (row first n names ts) ≡ total → total ≡ Some (front, ts)
stops_here first n front names ts total stop so_far =
    sym so_far ∙ ap (with_front front) (row_stops first n names ts stop) ∙ ap (λ (xs : Acts). Some (xs, ts)) (join_empty front)

pub is_done : (first : Reads Done) (n t : ℕ) (front : Acts) (names : List ℕ) (ts : List Token) (total : Option (Acts × List Token)) → n ≤ t →
    with_front front (row first (n - t) names ts) ≡ total → total ≡ Some (front, ts)
is_done first n t front names ts total all so_far =
    let none_left : n - t ≡ 0 = omega arith in
    sym so_far ∙ ap (λ m. with_front front (row first m names ts)) none_left ∙ ap (λ (xs : Acts). Some (xs, ts)) (join_empty front)

pub fails_here : (e : ReadStop) (first : Reads Done) (n t : ℕ) (front : Acts) (names : List ℕ) (ts : List Token) (total : Option (Acts × List Token)) → t < n →
    begins ts ≡ true → Fails e (first names ts) → with_front front (row first (n - t) names ts) ≡ total → Fails e total
fails_here Memory first n t front names ts total below start read so_far = tt
fails_here (Refused r) first n t front names ts total below start read so_far =
    let more : suc (n - (t + 1)) ≡ n - t = omega arith in
    sym so_far
    ∙ ap (λ m. with_front front (row first m names ts)) (sym more)
    ∙ ap (λ b. with_front front (if b then (first names ts >>= λ p. row first (n - (t + 1)) (with_name names p.0.1) p.1 >>= λ q. Some (cons p.0.0 q.0, q.1)) else Some (empty, ts))) start
    ∙ ap (λ r. with_front front (r >>= λ p. row first (n - (t + 1)) (with_name names p.0.1) p.1 >>= λ q. Some (cons p.0.0 q.0, q.1))) read

pub few_with : (names : List ℕ) (name : Option ℕ) → length names ≤ 16 → IfSome name (λ _. length names < 16) → length (with_name names name) ≤ 16
few_with names None few room = few
few_with names (Some name) few room = omega (arith, length-append names (name ∷ []))

-- ---- a link less, or a block less

pub choice_more : (n d : ℕ) (names : List ℕ) (ts : List Token) → (n ≡ 0 → ⊥) → choice_at n d names ts ≡ choice_with d (block_at (n - 1) d) (choice_at (n - 1) d) names ts
choice_more zero d names ts some = absurd (some refl)
choice_more (suc n) d names ts some = let less : n ≡ suc n - 1 = omega arith in ap (λ k. choice_with d (block_at k d) (choice_at k d) names ts) less

pub case_more : (n d : ℕ) (sort : SortToken) (names : List ℕ) (ts : List Token) → (n ≡ 0 → ⊥) → case_at n d sort names ts ≡ case_with (block_at (n - 1) d) (case_at (n - 1) d) sort names ts
case_more zero d sort names ts some = absurd (some refl)
case_more (suc n) d sort names ts some = let less : n ≡ suc n - 1 = omega arith in ap (λ k. case_with (block_at k d) (case_at k d) sort names ts) less

pub block_more : (n d : ℕ) (names : List ℕ) (ts : List Token) → (n ≡ 0 → ⊥) → (d ≡ 0 → ⊥) → block_at n d names ts ≡ in_braces (statements_at (n - 1) (d - 1)) names ts
block_more zero d names ts some more = absurd (some refl)
block_more (suc n) zero names ts some more = absurd (more refl)
block_more (suc n) (suc d) names ts some more =
    let less : n ≡ suc n - 1 = omega arith in
    let lower : d ≡ suc d - 1 = omega arith in
    ap (λ k. in_braces (statements_at k d) names ts) less ∙ ap (λ e. in_braces (statements_at (suc n - 1) e) names ts) lower

-- no block where none is left
pub no_block : (n d : ℕ) (names : List ℕ) (ts : List Token) → d ≡ 0 → block_at n d names ts ≡ None
no_block zero d names ts none = refl
no_block (suc n) zero names ts none = refl
no_block (suc n) (suc d) names ts none = absurd (omega arith)

pub no_link : (n d : ℕ) (names : List ℕ) (ts : List Token) → n ≡ 0 → block_at n d names ts ≡ None
no_link zero d names ts none = refl
no_link (suc n) d names ts none = absurd (omega arith)
