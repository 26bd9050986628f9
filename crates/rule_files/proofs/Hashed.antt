-- A hasher that takes in one part after another.
use Rattle.std.proofs.Common.{◌≡◌, ◌∙◌, ◌++◌, List, ℕ, [], ◌∷◌, Vec, Global, append_assoc, append-nil, ap, length, suc, refl, subst, sym}
use Rattle.rules.specs.declared.tree.Expression.{Expression}
use Rattle.rules.specs.declared.tree.Statement.{Statement, If, Repeat, RepeatUntil}
use Rattle.rule_files.specs.Grammar.{tree_of}
use Rattle.rule_files.specs.Statements as a
use Rattle.rule_files.specs.Statements.{act_of, acts_of}
use Rattle.rule_files.specs.Digest.{act_bytes, acts_bytes, block_bytes, count, number_bytes, tree_bytes}
use Rattle.rule_files.proofs.ActsOfRows.{act_of_choice, act_of_repetition, act_of_repetition_until}
use Rattle.sha2.specs.Hashers.{Holds256}
use Rattle.sha2.specs.declared.Sha256.{Sha256}

-- what the hasher has had since it was the old one, and what is left, are the whole
abbrev pub IsAhead : Sha256 → Sha256 → List ℕ → List ℕ → Type 0
IsAhead old now left whole = (m : List ℕ) → Holds256 old m → (so : List ℕ) × Holds256 now so × (so ++ left ≡ m ++ whole)

pub ahead_starts : (h : Sha256) (whole : List ℕ) → IsAhead h h whole whole
ahead_starts h whole m held = (m, held, refl)

-- the hasher takes in the first part of what is left
pub ahead_more : (old was now : Sha256) (left whole part rest : List ℕ) → IsAhead old was left whole → left ≡ part ++ rest
    → ((m : List ℕ) → Holds256 was m → Holds256 now (m ++ part)) → IsAhead old now rest whole
ahead_more old was now left whole part rest ahead split puts m held =
    let (so, has, is) = ahead m held in
    (so ++ part, puts so has, append_assoc so part rest ∙ ap (λ l. so ++ l) (sym split) ∙ is)

pub ahead_ends : (old now : Sha256) (left whole : List ℕ) → IsAhead old now left whole → left ≡ [] → (m : List ℕ) → Holds256 old m → Holds256 now (m ++ whole)
ahead_ends old now left whole ahead none m held =
    let (so, has, is) = ahead m held in
    subst (λ l. Holds256 now l) (sym (append-nil so) ∙ ap (λ l. so ++ l) (sym none) ∙ is) has

pub joined3 : (m a b c : List ℕ) → ((m ++ a) ++ b) ++ c ≡ m ++ (a ++ (b ++ c))
joined3 m a b c = append_assoc (m ++ a) b c ∙ append_assoc m a (b ++ c)

pub joined4 : (m a b c d : List ℕ) → (((m ++ a) ++ b) ++ c) ++ d ≡ m ++ (a ++ (b ++ (c ++ d)))
joined4 m a b c d = append_assoc ((m ++ a) ++ b) c d ∙ joined3 m a b (c ++ d)

pub joined6 : (m a b c d e f : List ℕ) → (((((m ++ a) ++ b) ++ c) ++ d) ++ e) ++ f ≡ m ++ (a ++ (b ++ (c ++ (d ++ (e ++ f)))))
joined6 m a b c d e f = append_assoc ((((m ++ a) ++ b) ++ c) ++ d) e f ∙ joined4 (m ++ a) b c d (e ++ f) ∙ append_assoc m a (b ++ (c ++ (d ++ (e ++ f))))

pub acts_count : (xs : List Statement) → count (acts_of xs) ≡ length xs
acts_count [] = refl
acts_count (x ∷ xs) = ap suc (acts_count xs)

-- a statement with blocks, by the blocks that the code sees
module _ (s : Statement) (e : Expression) (met unmet : Vec Statement Global) (is : s ≡ If e met unmet) (xs ys : List Statement) (one : xs ≡ met.items) (two : ys ≡ unmet.items) where
  pub choice_act : act_of s ≡ a.If (tree_of e) (acts_of xs) (acts_of ys)
  choice_act =
      ap act_of is ∙ act_of_choice e met unmet
      ∙ ap (λ zs. a.If (tree_of e) (acts_of zs) (acts_of unmet.items)) (sym one) ∙ ap (λ zs. a.If (tree_of e) (acts_of xs) (acts_of zs)) (sym two)

module _ (s : Statement) (place n : ℕ) (body : Vec Statement Global) (is : s ≡ Repeat place n body) (xs : List Statement) (one : xs ≡ body.items) where
  pub repetition_act : act_of s ≡ a.Repeat place n (acts_of xs)
  repetition_act = ap act_of is ∙ act_of_repetition place n body ∙ ap (λ zs. a.Repeat place n (acts_of zs)) (sym one)

module _ (s : Statement) (place n : ℕ) (e : Expression) (body : Vec Statement Global) (is : s ≡ RepeatUntil place n e body) (xs : List Statement) (one : xs ≡ body.items) where
  pub test_act : act_of s ≡ a.RepeatUntil place n (tree_of e) (acts_of xs)
  test_act = ap act_of is ∙ act_of_repetition_until place n e body ∙ ap (λ zs. a.RepeatUntil place n (tree_of e) (acts_of zs)) (sym one)

module _ (h : Sha256) (m : List ℕ) where
  pub choice_held : (s : Statement) (e : Expression) (xs ys : List Statement) → act_of s ≡ a.If (tree_of e) (acts_of xs) (acts_of ys)
      → Holds256 h ((((m ++ 13 ∷ number_bytes 0) ++ tree_bytes (tree_of e)) ++ block_bytes (acts_of xs)) ++ block_bytes (acts_of ys)) → Holds256 h (m ++ act_bytes (act_of s))
  choice_held s e xs ys is held =
      subst (λ l. Holds256 h l)
      (joined4 m (13 ∷ number_bytes 0) (tree_bytes (tree_of e)) (block_bytes (acts_of xs)) (block_bytes (acts_of ys)) ∙ ap (λ x. m ++ act_bytes x) (sym is)) held

  pub repetition_held : (s : Statement) (place n p k : ℕ) (xs : List Statement) → act_of s ≡ a.Repeat place n (acts_of xs) → p ≡ place → k ≡ n
      → Holds256 h (((m ++ 14 ∷ number_bytes p) ++ number_bytes k) ++ block_bytes (acts_of xs)) → Holds256 h (m ++ act_bytes (act_of s))
  repetition_held s place n p k xs is here there held =
      subst (λ l. Holds256 h l)
      (joined3 m (14 ∷ number_bytes p) (number_bytes k) (block_bytes (acts_of xs))
      ∙ ap (λ i. m ++ act_bytes (a.Repeat i k (acts_of xs))) here ∙ ap (λ i. m ++ act_bytes (a.Repeat place i (acts_of xs))) there
      ∙ ap (λ x. m ++ act_bytes x) (sym is)) held

  pub test_held : (s : Statement) (place n p k : ℕ) (e : Expression) (xs : List Statement) → act_of s ≡ a.RepeatUntil place n (tree_of e) (acts_of xs) → p ≡ place → k ≡ n
      → Holds256 h ((((m ++ 21 ∷ number_bytes p) ++ number_bytes k) ++ tree_bytes (tree_of e)) ++ block_bytes (acts_of xs)) → Holds256 h (m ++ act_bytes (act_of s))
  test_held s place n p k e xs is here there held =
      subst (λ l. Holds256 h l)
      (joined4 m (21 ∷ number_bytes p) (number_bytes k) (tree_bytes (tree_of e)) (block_bytes (acts_of xs))
      ∙ ap (λ i. m ++ act_bytes (a.RepeatUntil i k (tree_of e) (acts_of xs))) here ∙ ap (λ i. m ++ act_bytes (a.RepeatUntil place i (tree_of e) (acts_of xs))) there
      ∙ ap (λ x. m ++ act_bytes x) (sym is)) held

  pub block_held : (xs : List Statement) → Holds256 h ((m ++ number_bytes (length xs)) ++ acts_bytes (acts_of xs)) → Holds256 h (m ++ block_bytes (acts_of xs))
  block_held xs held =
      subst (λ l. Holds256 h l)
      (append_assoc m (number_bytes (length xs)) (acts_bytes (acts_of xs)) ∙ ap (λ n. m ++ (number_bytes n ++ acts_bytes (acts_of xs))) (sym (acts_count xs))) held
