-- Lists that are gone through item by item.
use Rattle.std.proofs.Common.{◌≡◌, ℕ, List, [], ◌∷◌, ◌++◌, Bool, true, false, Option, None, Some, ap, sym, ◌∙◌, refl, drop, string_bytes, String, Global, append_assoc, append-nil, if◌then◌else◌, option_and_then}
use Rattle.std.specs.Prelude.{option_map}
use Rattle.rule_files.specs.Names.{is_name}
use Rattle.rule_files.specs.RuleFile.{all_of, named_in}
use Rattle.toml.proofs.Views.{Entry}
use Rattle.toml.specs.Data.{Data}
use Rattle.toml.specs.View.{items_view, members_view, view}
use Rattle.toml.specs.declared.value.Value.{Value}

-- what was read so far, and the rest, are the whole
abbrev pub HasRead : {X : Type 0} → (Data → Option X) → List Value → List X → ℕ → Type 0
HasRead read vs xs i =
    option_map (λ ys. xs ++ ys) (all_of read (items_view (drop i vs))) ≡ all_of read (items_view vs)

-- one after another
pub five : (n0 n1 n2 n3 n4 n5 a b o d e : List (List ℕ)) → n0 ≡ [] → n1 ≡ n0 ++ a → n2 ≡ n1 ++ b → n3 ≡ n2 ++ o → n4 ≡ n3 ++ d → n5 ≡ n4 ++ e
    → n5 ≡ (((a ++ b) ++ o) ++ d) ++ e
five n0 n1 n2 n3 n4 n5 a b o d e e0 e1 e2 e3 e4 e5 =
    e5 ∙ ap (λ l. l ++ e) (e4 ∙ ap (λ l. l ++ d) (e3 ∙ ap (λ l. l ++ o) (e2 ∙ ap (λ l. l ++ b) (e1 ∙ ap (λ l. l ++ a) e0))))

-- one more in front of what is read
pub one_more : {X : Type 0} (o : Option (List X)) (was now : List X) (x : X) → now ≡ was ++ x ∷ []
    → option_map (λ ys. now ++ ys) o ≡ option_map (λ ys. was ++ ys) (option_map (λ ys. x ∷ ys) o)
one_more None was now x is = refl
one_more (Some ys) was now x is = ap Some (ap (λ l. l ++ ys) is ∙ append_assoc was (x ∷ []) ys)

-- Names one by one: `left` are the entries of a table that remain, and the first is a name and its value.
module _ {X : Type 0} (read : Data → Option X) (left rest : List Entry) (k : String Global) (v : Value) (text : List ℕ)
    (split : left ≡ (k, v) ∷ rest) (same : text ≡ string_bytes k) where
  named_here : named_in read (members_view left)
      ≡ (if is_name text then option_and_then (λ numbers. option_map (λ named. (text, numbers) ∷ named) (named_in read (members_view rest))) (read (view v)) else None)
  named_here = rw (split, same) refl

  -- a key that is no name
  pub no_name : (b : Bool) → b ≡ is_name text → b ≡ false → named_in read (members_view left) ≡ None
  no_name b is h = let e : is_name text ≡ false = sym is ∙ h in named_here ∙ rw e refl

  module _ (b : Bool) (is : b ≡ is_name text) (h : b ≡ true) where
    named_next : named_in read (members_view left)
        ≡ option_and_then (λ numbers. option_map (λ named. (text, numbers) ∷ named) (named_in read (members_view rest))) (read (view v))
    named_next = let e : is_name text ≡ true = sym is ∙ h in named_here ∙ rw e refl

    -- a value that cannot be read
    pub no_numbers : read (view v) ≡ None → named_in read (members_view left) ≡ None
    no_numbers none = named_next ∙ rw none refl

    -- one more name
    pub named_more : (numbers : X) → read (view v) ≡ Some numbers
        → (was now : List (List ℕ × X)) (all : Option (List (List ℕ × X))) → now ≡ was ++ (text, numbers) ∷ []
        → option_map (λ ys. was ++ ys) (named_in read (members_view left)) ≡ all → option_map (λ ys. now ++ ys) (named_in read (members_view rest)) ≡ all
    named_more numbers some was now all more so_far =
        let e : named_in read (members_view left) ≡ option_map (λ named. (text, numbers) ∷ named) (named_in read (members_view rest)) = named_next ∙ rw some refl in
        one_more (named_in read (members_view rest)) was now (text, numbers) more
        ∙ ap (option_map (λ ys. was ++ ys)) (sym e) ∙ so_far

-- no name is left
pub named_done : {X : Type 0} (read : Data → Option X) (left : List Entry) → left ≡ [] → (was : List (List ℕ × X)) (all : Option (List (List ℕ × X)))
    → option_map (λ ys. was ++ ys) (named_in read (members_view left)) ≡ all → Some was ≡ all
named_done read left none was all so_far =
    ap Some (sym (append-nil was)) ∙ ap (λ l. option_map (λ ys. was ++ ys) (named_in read (members_view l))) (sym none) ∙ so_far

-- nothing is read of the whole if nothing is read of the rest
pub none_read : {X : Type 0} (o : Option (List X)) (was : List X) (all : Option (List X)) → o ≡ None → option_map (λ ys. was ++ ys) o ≡ all → None ≡ all
none_read o was all none so_far = ap (option_map (λ ys. was ++ ys)) (sym none) ∙ so_far
