-- What is spelled is a rule.
use Rattle.std.proofs.Common.{◌≡◌, ◌≤◌, ◌<◌, ℕ, ◌+◌, ◌*◌, ◌&&◌, List, [], ◌∷◌, Bool, true, false, Option, Some, None, ap, refl, sym, ◌∙◌, subst, arith, max, nat_le}
use Rattle.std.proofs.lemmas.Bool.Decides.{nat_tests}
use Rattle.rule_files.specs.Grammar.{tree_of}
use Rattle.rule_files.specs.Reading.{Spells, MOST_STEPS, act_cost, acts_cost, are_short, are_within, dictionary, is_rule, is_short_rule, tree_cost}
use Rattle.rule_files.specs.FileTable.{rule_fits, text_fits}
use Rattle.rule_files.specs.Kinds.{IsRuleAt, short_rule_fits, text_in, text_is_short}
use Rattle.rule_files.specs.RuleFile.{Parts}
use Rattle.rule_files.specs.Scopes.{Dictionary}
use Rattle.rule_files.specs.Statements.{Acts, act_of, acts_of, acts_of_row}
use Rattle.rule_files.specs.Texts.{IsForMemory, IsRule, read_at}
use Rattle.rule_files.specs.declared.grammar.mistakes.ReadMistake.{ReadMistake}
use Rattle.rule_files.specs.declared.grammar.read.ReadError.{ReadError}
use Rattle.rule_files.specs.declared.grammar.read.ReadError.TheVariants.{Mistaken}
use Rattle.rule_files.proofs.Whole.{read_is, read_only}
use Rattle.toml.specs.Data.{Members}
use Rattle.rules.specs.Costs.{cost, cost_of, cost_of_all, cost_of_row, draw_cost, send_cost, step_cost}
use Rattle.rules.specs.Limits.{Exceeds, IsWithin}
use Rattle.rules.specs.declared.limits.Limit.{Limit}
use Rattle.rules.specs.declared.limits.Limit.TheVariants.{Draws, Sends, Steps}
use Rattle.rules.specs.declared.limits.TheConstants.{MAX_DRAWS, MAX_SENDS, MAX_STEPS}
use Rattle.rules.specs.declared.tree.Expression.{Expression}
use Rattle.rules.specs.declared.tree.Expression.TheVariants as e
use Rattle.rules.specs.declared.tree.Statement.{Statement, Row_of-Statement, end_of-Statement, more_of-Statement}
use Rattle.rules.specs.declared.tree.Statement.TheVariants as s

-- 1. A tree costs what the text spells

pub tree_cost_is : (c : Limit) (x : Expression) → tree_cost c (tree_of x) ≡ cost c x
tree_cost_is c (e.Number n) = refl
tree_cost_is c (e.Word i) = refl
tree_cost_is c (e.Content i) = refl
tree_cost_is c (e.Local i) = refl
tree_cost_is c (e.Read known) = refl
tree_cost_is c (e.Not' p x) = ap (λ n. step_cost c + n) (tree_cost_is c x)
tree_cost_is c (e.Two' o p x q y) =
    ap (λ n. step_cost c + n + tree_cost c (tree_of y)) (tree_cost_is c x) ∙ ap (λ n. step_cost c + cost c x + n) (tree_cost_is c y)
tree_cost_is c (e.Entry' table p x) = ap (λ n. step_cost c + n) (tree_cost_is c x)
tree_cost_is c (e.Draw' law p x) = ap (λ n. draw_cost c + n) (tree_cost_is c x)
tree_cost_is c (e.Normal' p x q y) =
    ap (λ n. draw_cost c + n + tree_cost c (tree_of y)) (tree_cost_is c x) ∙ ap (λ n. draw_cost c + cost c x + n) (tree_cost_is c y)
tree_cost_is c (e.Triangular' p x q y r z) =
    ap (λ n. draw_cost c + draw_cost c + n + tree_cost c (tree_of y) + tree_cost c (tree_of z)) (tree_cost_is c x)
    ∙ ap (λ n. draw_cost c + draw_cost c + cost c x + n + tree_cost c (tree_of z)) (tree_cost_is c y)
    ∙ ap (λ n. draw_cost c + draw_cost c + cost c x + cost c y + n) (tree_cost_is c z)
tree_cost_is c (e.Choose table) = refl
tree_cost_is c (e.Element' array p x) = ap (λ n. step_cost c + n) (tree_cost_is c x)

six : (k a b d f g h a2 b2 d2 f2 g2 h2 : ℕ) → a ≡ a2 → b ≡ b2 → d ≡ d2 → f ≡ f2 → g ≡ g2 → h ≡ h2
    → k + (a + b + d + f + g + h) ≡ k + (a2 + b2 + d2 + f2 + g2 + h2)
six k a b d f g h a2 b2 d2 f2 g2 h2 p q r s u v = cc

mutual
  act_cost_is : (c : Limit) (x : Statement) → act_cost c (act_of x) ≡ cost_of c x
  act_cost_is c (s.Let i x) = ap (λ n. step_cost c + n) (tree_cost_is c x)
  act_cost_is c (s.Set i x) = ap (λ n. step_cost c + n) (tree_cost_is c x)
  act_cost_is c (s.Send x) =
      six (send_cost c) _ _ _ _ _ _ _ _ _ _ _ _ (tree_cost_is c x.to) (tree_cost_is c x.after) (tree_cost_is c x.a) (tree_cost_is c x.b) (tree_cost_is c x.c) (tree_cost_is c x.d)
  act_cost_is c (s.If' x p met q unmet) =
      ap (λ n. step_cost c + n + max (acts_cost c (acts_of_row met)) (acts_cost c (acts_of_row unmet))) (tree_cost_is c x)
      ∙ ap (λ n. step_cost c + cost c x + max n (acts_cost c (acts_of_row unmet))) (row_cost_is c met)
      ∙ ap (λ n. step_cost c + cost c x + max (cost_of_row c met) n) (row_cost_is c unmet)
  act_cost_is c (s.Repeat' i n p body) = ap (λ k. step_cost c + n * (step_cost c + k)) (row_cost_is c body)
  act_cost_is c (s.RepeatUntil' i n x p body) =
      ap (λ k. step_cost c + n * (step_cost c + k + acts_cost c (acts_of_row body))) (tree_cost_is c x)
      ∙ ap (λ k. step_cost c + n * (step_cost c + cost c x + k)) (row_cost_is c body)
  act_cost_is c (s.Put array i x) =
      ap (λ n. step_cost c + n + tree_cost c (tree_of x)) (tree_cost_is c i) ∙ ap (λ n. step_cost c + cost c i + n) (tree_cost_is c x)

  row_cost_is : (c : Limit) {m : _} (row : Row_of-Statement m) → acts_cost c (acts_of_row row) ≡ cost_of_row c row
  row_cost_is c end_of-Statement = refl
  row_cost_is c (more_of-Statement x rest) =
      ap (λ n. n + acts_cost c (acts_of_row rest)) (act_cost_is c x) ∙ ap (λ n. cost_of c x + n) (row_cost_is c rest)

pub acts_cost_is : (c : Limit) (xs : List Statement) → acts_cost c (acts_of xs) ≡ cost_of_all c xs
acts_cost_is c [] = refl
acts_cost_is c (x ∷ xs) = ap (λ n. n + acts_cost c (acts_of xs)) (act_cost_is c x) ∙ ap (λ n. cost_of c x + n) (acts_cost_is c xs)

-- 2. Within the limits, or not

abbrev all_below : ℕ → ℕ → ℕ → Bool
all_below a b d = nat_le a MAX_SENDS && (nat_le b MAX_DRAWS && nat_le d MAX_STEPS)

below : (a b d : ℕ) → a ≤ MAX_SENDS → b ≤ MAX_DRAWS → d ≤ MAX_STEPS → all_below a b d ≡ true
below a b d p q r = grind (arith, nat_tests)

costs_are : (xs : List Statement) → are_within (Some (acts_of xs)) ≡ all_below (cost_of_all Sends xs) (cost_of_all Draws xs) (cost_of_all Steps xs)
costs_are xs =
    ap (λ n. all_below n (acts_cost Draws (acts_of xs)) (acts_cost Steps (acts_of xs))) (acts_cost_is Sends xs)
    ∙ ap (λ n. all_below (cost_of_all Sends xs) n (acts_cost Steps (acts_of xs))) (acts_cost_is Draws xs)
    ∙ ap (λ n. all_below (cost_of_all Sends xs) (cost_of_all Draws xs) n) (acts_cost_is Steps xs)

first_above : (a b d : ℕ) → MAX_SENDS < a → all_below a b d ≡ false
first_above a b d p = grind (arith, nat_tests)

second_above : (a b d : ℕ) → a ≤ MAX_SENDS → MAX_DRAWS < b → all_below a b d ≡ false
second_above a b d p q = grind (arith, nat_tests)

third_above : (a b d : ℕ) → a ≤ MAX_SENDS → b ≤ MAX_DRAWS → MAX_STEPS < d → all_below a b d ≡ false
third_above a b d p q r = grind (arith, nat_tests)

not_below : (limit : Limit) (xs : List Statement) → Exceeds limit xs → all_below (cost_of_all Sends xs) (cost_of_all Draws xs) (cost_of_all Steps xs) ≡ false
not_below Sends xs h = first_above (cost_of_all Sends xs) (cost_of_all Draws xs) (cost_of_all Steps xs) h
not_below Draws xs h = second_above (cost_of_all Sends xs) (cost_of_all Draws xs) (cost_of_all Steps xs) h.0 h.1
not_below Steps xs h = third_above (cost_of_all Sends xs) (cost_of_all Draws xs) (cost_of_all Steps xs) h.0 h.1 h.2

-- 3. What is spelled within the limits is a rule; nothing else is

pub spelled : (p : Parts) (text : List ℕ) (rule : List Statement) → Spells p text rule → IsWithin rule → is_rule p text ≡ true
unfolding Spells is_rule
spelled p text rule h within =
    ap are_within (read_is (dictionary p) text (acts_of rule) h) ∙ costs_are rule ∙ below (cost_of_all Sends rule) (cost_of_all Draws rule) (cost_of_all Steps rule) within.sends within.draws within.steps

pub exceeding : (p : Parts) (text : List ℕ) (rule : List Statement) (limit : Limit) → Spells p text rule → Exceeds limit rule → is_rule p text ≡ false
unfolding Spells is_rule
exceeding p text rule limit h exceeds =
    ap are_within (read_is (dictionary p) text (acts_of rule) h) ∙ costs_are rule ∙ not_below limit rule exceeds

nothing_read : (scope : Dictionary) (text : List ℕ) (read : Option Acts) → read_at scope text ≡ read
    → ((acts : Acts) → ¬ IsRule scope text acts) → are_within read ≡ false
nothing_read scope text None e none = refl
nothing_read scope text (Some acts) e none = absurd (none acts (read_only scope text acts e))

pub not_spelled : (p : Parts) (text : List ℕ) → ((acts : Acts) → ¬ IsRule (dictionary p) text acts) → is_rule p text ≡ false
unfolding is_rule
not_spelled p text none = nothing_read (dictionary p) text (read_at (dictionary p) text) refl none

-- 4. The same, where the names are known by another name

module _ (p : Parts) (text : List ℕ) (scope : Dictionary) (e : scope ≡ dictionary p) where
  pub rule_is : (rule : List Statement) → IsRule scope text (acts_of rule) → IsWithin rule → is_rule p text ≡ true
  unfolding Spells
  rule_is rule h within = spelled p text rule (subst (λ d. IsRule d text (acts_of rule)) e h) within

  pub rule_exceeds : (rule : List Statement) (limit : Limit) → IsRule scope text (acts_of rule) → Exceeds limit rule → is_rule p text ≡ false
  unfolding Spells
  rule_exceeds rule limit h exceeds = exceeding p text rule limit (subst (λ d. IsRule d text (acts_of rule)) e h) exceeds

  pub no_rule : (err : ReadError) (mistake : ReadMistake) → err ≡ Mistaken mistake → ((acts : Acts) → IsRule scope text acts → IsForMemory err) → is_rule p text ≡ false
  no_rule err mistake is only = not_spelled p text (λ acts h. subst IsForMemory is (only acts (subst (λ d. IsRule d text acts) (sym e) h)))

-- 5. The rule of a kind

pub under : (a m : ℕ) → a ≤ m → nat_le a m ≡ true
under a m h = grind (arith, nat_tests)

pub not_under : (a m : ℕ) → (a ≤ m → ⊥) → nat_le a m ≡ false
not_under a m h = grind (arith, nat_tests)

both_are : (a b c d : Bool) → a ≡ c → b ≡ d → (a && b) ≡ (c && d)
both_are a b c d p q = ap (λ z. z && b) p ∙ ap (λ z. c && z) q

short_is : (xs : List Statement) → IsWithin xs → are_short (Some (acts_of xs)) ≡ nat_le (cost_of_all Steps xs) MOST_STEPS
short_is xs within =
    both_are _ _ true _ (costs_are xs ∙ below (cost_of_all Sends xs) (cost_of_all Draws xs) (cost_of_all Steps xs) within.sends within.draws within.steps)
    (ap (λ n. nat_le n MOST_STEPS) (acts_cost_is Steps xs))

pub short_by : (p : Parts) (text : List ℕ) (rule : List Statement) → Spells p text rule → IsWithin rule → is_short_rule p text ≡ nat_le (cost_of_all Steps rule) MOST_STEPS
unfolding Spells is_short_rule
short_by p text rule h within = ap are_short (read_is (dictionary p) text (acts_of rule) h) ∙ short_is rule within

pub short_spelled : (p : Parts) (text : List ℕ) (rule : List Statement) → Spells p text rule → IsWithin rule → cost_of_all Steps rule ≤ MOST_STEPS → is_short_rule p text ≡ true
short_spelled p text rule h within short = short_by p text rule h within ∙ under (cost_of_all Steps rule) MOST_STEPS short

-- a text that is no rule is none of a kind
not_short : (o : Option Acts) → are_within o ≡ false → are_short o ≡ false
not_short None h = refl
not_short (Some acts) h = ap (λ b. b && nat_le (acts_cost Steps acts) MOST_STEPS) h

pub no_short_rule : (p : Parts) (text : List ℕ) → is_rule p text ≡ false → is_short_rule p text ≡ false
unfolding is_rule is_short_rule
no_short_rule p text h = not_short (read_at (dictionary p) text) h

module _ (p : Parts) (key : List ℕ) (t : Members) where
  pub short_fits : (rule : List Statement) → IsRuleAt key p t rule → IsWithin rule → short_rule_fits key t p ≡ nat_le (cost_of_all Steps rule) MOST_STEPS
  short_fits rule h within = ap (λ o. text_is_short o p) h.1 ∙ short_by p h.0 rule h.2 within

  by_text : (o : Option (List ℕ)) → text_fits o p ≡ false → text_is_short o p ≡ false
  by_text None h = refl
  by_text (Some text) h = no_short_rule p text h

  pub no_short : rule_fits key t p ≡ false → short_rule_fits key t p ≡ false
  no_short h = by_text (text_in key t) h
