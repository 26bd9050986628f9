-- Tables of model files.
use Rattle.std.specs.Prelude.{◌≡◌, ℕ, List, [], ◌∷◌, ◌++◌, true, false, Option, Some, None, codes, option_and_then, string_bytes}
use Rattle.std.proofs.Common.{Bool, String, Global, ap, append-nil, append_assoc, refl, sym, ◌∙◌}
use Rattle.toml.specs.declared.value.Value.{Value}
use Rattle.models.specs.JobShop.{Shop}
use Rattle.models.specs.declared.any_model.AnyModel.{AnyModel}
use Rattle.models.specs.declared.any_model.AnyModel.TheVariants.{JobShop, Phold, TokenRing}
use Rattle.toml.proofs.Views.{Entry}
use Rattle.toml.specs.Data.{Data, Members, as_str, get_member, string}
use Rattle.toml.specs.View.{members_view, view}
use Rattle.texts.specs.AnyModel.{IsShopTable, IsTableOf}
use Rattle.texts.specs.ModelFile.{Wrong, nothing, found_of, is_among, unknown_wrong, unless}

-- Keys one by one: `left` are the entries of a table that remain, and the first is a key and its value.
module _ (keys : List (List ℕ)) (left rest : List Entry) (k : String Global) (v : Value) (text : List ℕ)
    (split : left ≡ (k, v) ∷ rest) (same : text ≡ string_bytes k) where
  -- the mistakes at the first entry and at the rest
  unknown_here : unknown_wrong keys (members_view left)
      ≡ unless (is_among text keys) (record { key = text; found = found_of (Some (view v)); expected = nothing })
      ++ unknown_wrong keys (members_view rest)
  unfolding unknown_wrong
  unknown_here = rw (split, same) refl

  -- there is no mistake at the first entry
  pub known_here : (b : Bool) → b ≡ is_among text keys → b ≡ true → unknown_wrong keys (members_view left) ≡ unknown_wrong keys (members_view rest)
  known_here b is known = let e : is_among text keys ≡ true = sym is ∙ known in unknown_here ∙ rw e refl

  -- the key of the first entry is a mistake
  pub wrong_here : (b : Bool) → b ≡ is_among text keys → b ≡ false → unknown_wrong keys (members_view left) ≡ [] → ⊥
  wrong_here b is unknown none =
      let e : is_among text keys ≡ false = sym is ∙ unknown in
      let h : unless false (record { key = text; found = found_of (Some (view v)); expected = nothing }) ++ unknown_wrong keys (members_view rest) ≡ []
      = ap (λ t. unless t (record { key = text; found = found_of (Some (view v)); expected = nothing }) ++ unknown_wrong keys (members_view rest)) (sym e) ∙ sym unknown_here ∙ none in
      cc

  -- the mistakes found so far, at the first entry and at the rest are all
  pub found_more : (was now all : List Wrong) → now ≡ was ++ unless (is_among text keys) (record { key = text; found = found_of (Some (view v)); expected = nothing })
      → was ++ unknown_wrong keys (members_view left) ≡ all → now ++ unknown_wrong keys (members_view rest) ≡ all
  found_more was now all more so_far =
      ap (λ l. l ++ unknown_wrong keys (members_view rest)) more
      ∙ append_assoc was (unless (is_among text keys) (record { key = text; found = found_of (Some (view v)); expected = nothing })) (unknown_wrong keys (members_view rest))
      ∙ ap (λ l. was ++ l) (sym unknown_here) ∙ so_far

-- no entry is left
module _ (keys : List (List ℕ)) (left : List Entry) (none : left ≡ []) where
  pub none_left : unknown_wrong keys (members_view left) ≡ []
  unfolding unknown_wrong
  none_left = rw none refl

  pub found_all : (was all : List Wrong) → was ++ unknown_wrong keys (members_view left) ≡ all → was ≡ all
  found_all was all so_far = sym (append-nil was) ∙ ap (λ l. was ++ l) (sym none_left) ∙ so_far

-- a value that is read as a string is a string
pub is_string : (o : Option Data) (s : List ℕ) → Some s ≡ option_and_then as_str o → o ≡ Some (string s)
is_string None s h = cc
is_string (Some (string t)) s h = cc
is_string (Some d) s h = cc

-- the table of a job shop describes no other model
pub no_other : (table : Members) (model : AnyModel) (end : ℕ) → get_member (codes "model") table ≡ Some (string (codes "jobshop"))
    → ((s : Shop) (end : ℕ) → ¬ IsShopTable table s end) → ¬ IsTableOf table model end
no_other table (TokenRing r) end is none h = let e : Some (string (codes "jobshop")) ≡ Some (string (codes "ring")) = sym is ∙ h.model in cc
no_other table (Phold p) end is none h = let e : Some (string (codes "jobshop")) ≡ Some (string (codes "phold")) = sym is ∙ h.model in cc
no_other table (JobShop s) end is none h = none s.shop end h
