-- The text of a rule is read just where it is one.
use Rattle.std.proofs.Common.{Vec, Global, [], ◌≡◌, ◌≤◌, ℕ, List, Option, Some, None, Result, Ok, Err, Bool, true, false, ltb, length, sym, ap, ◌∙◌, subst, arith, if◌then◌else◌, inl, inr}
use Rattle.std.proofs.lemmas.Bool.{cases_Bool}
use Rattle.std.proofs.lemmas.Bool.Decides.{nat_tests}
use Rattle.std.specs.Prelude.{IfOk}
use Rattle.eventkey.proofs.Fields.{bind_some}
use Rattle.rule_files.specs.declared.grammar.stop.ReadStop.{ReadStop}
use Rattle.rule_files.specs.declared.grammar.lexemes.Placed.{Placed}
use Rattle.rule_files.specs.Lexical.{Splits, lexemes_at}
use Rattle.rule_files.specs.ReadingValues.{◌>>=◌, Gives}
use Rattle.rule_files.specs.ReadingStatements.{rule_at}
use Rattle.rule_files.specs.Scopes.{Dictionary, has_sort, tokens_of}
use Rattle.rule_files.specs.Sends.{are_right}
use Rattle.rule_files.specs.Statements.{Acts, SpellsRule}
use Rattle.rule_files.specs.Texts.{IsRule, formed_at, read_at}
use Rattle.rule_files.specs.declared.grammar.token.Token.{Token}
use Rattle.rule_files.proofs.Lexes.{split_is, split_only}
use Rattle.rule_files.proofs.StatementsComplete.{rule_is}
use Rattle.rule_files.proofs.StatementsSound.{rule_only}

not_long : (n : ℕ) → n ≤ 65536 → ltb 65536 n ≡ false
not_long n h = grind (arith, nat_tests)

is_short : (n : ℕ) → ltb 65536 n ≡ false → n ≤ 65536
is_short n h = grind (arith, nat_tests)

formed_is : (sorted : Bool) (acts : Acts) (tokens : List Token) → are_right sorted tokens ≡ true → SpellsRule acts tokens → formed_at sorted tokens ≡ Some acts
unfolding formed_at
formed_is sorted acts tokens right spelled = ap (λ b. if b then rule_at tokens else None) right ∙ rule_is acts tokens spelled

formed_only : (sorted : Bool) (acts : Acts) (tokens : List Token) → formed_at sorted tokens ≡ Some acts → SpellsRule acts tokens × (are_right sorted tokens ≡ true)
unfolding formed_at
formed_only sorted acts tokens e = elim (cases_Bool (are_right sorted tokens)) [
  | inl right ↦ (rule_only acts tokens (ap (λ b. if b then rule_at tokens else None) (sym right) ∙ e), right)
  | inr wrong ↦
      let here : ◌≡◌ {A = Option Acts} None (Some acts) = ap (λ b. if b then rule_at tokens else None) (sym wrong) ∙ e in
      absurd cc
]

pub read_is : (scope : Dictionary) (text : List ℕ) (acts : Acts) → IsRule scope text acts → read_at scope text ≡ Some acts
unfolding read_at
read_is scope text acts rule =
    ap (λ b. if b then None else (lexemes_at text >>= λ lexemes. formed_at (has_sort scope) (tokens_of scope text lexemes))) (not_long (length text) rule.short)
    ∙ ap (λ r. r >>= λ lexemes. formed_at (has_sort scope) (tokens_of scope text lexemes)) (split_is text rule.lexemes rule.split)
    ∙ formed_is (has_sort scope) acts (tokens_of scope text rule.lexemes) rule.right rule.spelled

pub read_only : (scope : Dictionary) (text : List ℕ) (acts : Acts) → read_at scope text ≡ Some acts → IsRule scope text acts
unfolding read_at
read_only scope text acts e = elim (cases_Bool (ltb 65536 (length text))) [
  | inl long ↦
      let here : ◌≡◌ {A = Option Acts} None (Some acts) =
      ap (λ b. if b then None else (lexemes_at text >>= λ lexemes. formed_at (has_sort scope) (tokens_of scope text lexemes))) (sym long) ∙ e in
      absurd cc
  | inr short ↦
      let here : (lexemes_at text >>= λ lexemes. formed_at (has_sort scope) (tokens_of scope text lexemes)) ≡ Some acts =
      ap (λ b. if b then None else (lexemes_at text >>= λ lexemes. formed_at (has_sort scope) (tokens_of scope text lexemes))) (sym short) ∙ e in
      let a = bind_some (lexemes_at text) (λ lexemes. formed_at (has_sort scope) (tokens_of scope text lexemes)) acts here in
      let formed = formed_only (has_sort scope) acts (tokens_of scope text a.0) a.2 in
      record { short = is_short (length text) short; lexemes = a.0; split = split_only text a.0 a.1; spelled = formed.0; right = formed.1 }
]

-- nothing is formed where nothing is read
pub refused_is : {X : Type 0} (scope : Dictionary) (text : List ℕ) (acts : Acts) → read_at scope text ≡ None → IsRule scope text acts → X
refused_is scope text acts none rule = let some = read_is scope text acts rule in absurd cc

pub same_acts : (scope : Dictionary) (text : List ℕ) (found acts : Acts) → read_at scope text ≡ Some found → IsRule scope text acts → found ≡ acts
same_acts scope text found acts read rule = let some = read_is scope text acts rule in cc

-- where something is found, nothing is to be said of an empty list
pub some_found : {A : Type 0} {E : Type 0} (X : Type 0) (r : Result (Vec A Global) E) → IfOk r (λ v. 1 ≤ length v.items) → IfOk r (λ v. v.items ≡ [] → X)
some_found X (Ok v) some = λ empty. let none : length v.items ≡ 0 = ap length empty in absurd (omega arith)
some_found X (Err e) some = tt

-- what was split is so, and what is so was split
pub split_found : {X : Type 0} (view : X → List Placed) (r : Result X ReadStop) (text : List ℕ) → Gives view r (lexemes_at text) → IfOk r (λ x. Splits 0 text (view x))
split_found view (Ok x) text e = split_only text (view x) e
split_found view (Err e) text h = tt

pub split_whole : {X : Type 0} (view : X → List Placed) (r : Result X ReadStop) (text : List ℕ) (ts : List Placed) → Gives view r (lexemes_at text) → Splits 0 text ts → Gives view r (Some ts)
split_whole view r text ts e splits = subst (Gives view r) (split_is text ts splits) e
