-- The steps of the reader of values, by the numbers that the code has.
use Rattle.std.proofs.Common.{◌≡◌, ◌<◌, ℕ, zero, suc, ◌+◌, ◌-◌, List, Some, refl, sym, ap, ◌∙◌, arith}
use Rattle.rules.specs.declared.tree.Operator.{Operator}
use Rattle.rule_files.specs.declared.grammar.token.Token.{Token}
use Rattle.rule_files.specs.Grammar.{Tree, Two}
use Rattle.rule_files.specs.ReadingValues.{Reader, ◌>>=◌, chain, go, inside, level, made, sign_at, turns}

pub level_more : (names : List ℕ) (n : ℕ) (inner : ℕ → Reader) (k : ℕ) (ts : List Token) (x : Tree) (rest : List Token) → (k ≡ 0 → ⊥) →
    level names n inner (k - 1) ts ≡ Some (x, rest) → level names n inner k ts ≡ chain (k - 1 + 1) (level names n inner (k - 1)) (turns k n) x rest
level_more names n inner zero ts x rest some read = absurd (some refl)
level_more names n inner (suc j) ts x rest some read =
    let less : suc j - 1 ≡ j = omega arith in
    let more : suc j ≡ suc j - 1 + 1 = omega arith in
    ap (λ i. level names n inner i ts >>= λ p. chain (suc j) (level names n inner i) (turns (suc j) n) p.0 p.1) (sym less)
    ∙ ap (λ r. r >>= λ p. chain (suc j) (level names n inner (suc j - 1)) (turns (suc j) n) p.0 p.1) read
    ∙ ap (λ m. chain m (level names n inner (suc j - 1)) (turns (suc j) n) x rest) more

pub inside_more : (names : List ℕ) (n d k : ℕ) (ts : List Token) → (d ≡ 0 → ⊥) → inside names n d k ts ≡ level names n (inside names n (d - 1)) k ts
inside_more names n zero k ts some = absurd (some refl)
inside_more names n (suc d) k ts some = let less : d ≡ suc d - 1 = omega arith in ap (λ e. level names n (inside names n e) k ts) less

pub chain_more : (k : ℕ) (operand : Reader) (n t : ℕ) (x y z : Tree) (o : Operator) (ts after behind end : List Token) → t < n →
    sign_at k ts ≡ Some (o, after) → operand after ≡ Some (y, behind) → made (Two o x y) behind ≡ Some (z, end) →
    chain k operand (n - (t + 1)) z end ≡ chain k operand (n - t) x ts
chain_more k operand n t x y z o ts after behind end below first read put =
    let more : suc (n - (t + 1)) ≡ n - t = omega arith in
    sym (ap (λ r. r >>= λ p. chain k operand (n - (t + 1)) p.0 p.1) put)
    ∙ sym (ap (λ r. r >>= λ q. made (Two o x q.0) q.1 >>= λ p. chain k operand (n - (t + 1)) p.0 p.1) read)
    ∙ sym (ap (λ s. go s x ts operand (chain k operand (n - (t + 1)))) first)
    ∙ ap (λ m. chain k operand m x ts) more
