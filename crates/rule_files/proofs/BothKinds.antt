-- Model files of both kinds.
use Rattle.std.proofs.Common.{◌≡◌, ℕ, List, [], Bool, true, false, option_and_then, Result, Ok, Err, IfOk, ap, codes, sym, ◌∙◌, if◌then◌else◌}
use Rattle.models.specs.declared.any_model.AnyModel.{AnyModel}
use Rattle.models.specs.declared.any_model.AnyModel.TheVariants.{JobShop, Phold, TokenRing}
use Rattle.rule_files.proofs.Right.{table_right}
use Rattle.rule_files.specs.FileTable.{IsByForm, IsFileTable, file_wrong, form_wrong, is_rules, is_rules_kind}
use Rattle.rule_files.specs.Kinds.{has_kinds}
use Rattle.rule_files.proofs.KindsRight.{kinds_table_right}
use Rattle.rule_files.specs.declared.file_model.FileModel.{FileModel}
use Rattle.rule_files.specs.declared.file_model.FileModel.TheVariants.{BuiltIn, Rules}
use Rattle.rules.specs.Limits.{IsWithin}
use Rattle.rules.specs.Rules.{Description, GoodRules}
use Rattle.texts.specs.AnyModel.{IsTableOf, wrong_among}
use Rattle.texts.specs.ModelFile.{Wrong}
use Rattle.toml.specs.Data.{Members, as_str}

pub same_fault : {A E : Type 0} (f g : E) → ◌≡◌ {A = Result A E} (Err f) (Err g) → f ≡ g
same_fault f g e = cc

built_in : (t : Members) (m : AnyModel) (end : ℕ) → IsTableOf t m end → is_rules t ≡ false
unfolding is_rules
built_in t (TokenRing r) end h = ap (λ o. is_rules_kind (option_and_then as_str o)) h.model
built_in t (Phold p) end h = ap (λ o. is_rules_kind (option_and_then as_str o)) h.model
built_in t (JobShop s) end h = ap (λ o. is_rules_kind (option_and_then as_str o)) h.model

right_by : (b : Bool) (t : Members) (d : Description) (end : ℕ) → IsByForm b t d end → IsWithin d.start → IsWithin d.handle → form_wrong b t ≡ []
right_by false t d end h s g = table_right t d end h s g
right_by true t d end h s g = kinds_table_right t d end h s g

by_kind_of : (b : Bool) (t : Members) (d : Description) (end : ℕ) → IsByForm b t d end → is_rules t ≡ true
by_kind_of false t d end h = h.kind
by_kind_of true t d end h = h.kind

module _ (t : Members) where
  pub file_right : (r : GoodRules) (end : ℕ) → IsByForm (has_kinds t) t r.description end → file_wrong t ≡ []
  file_right r end h =
      ap (λ b. if b then form_wrong (has_kinds t) t else wrong_among (codes "\"ring\", \"phold\", \"jobshop\" or \"rules\"") t) (by_kind_of (has_kinds t) t r.description end h)
      ∙ right_by (has_kinds t) t r.description end h r.good.start r.good.handle

  module _ (kind : is_rules t ≡ true) where
    not_built_in : (m : AnyModel) (end : ℕ) → IsTableOf t m end → ⊥
    not_built_in m end h = let e : true ≡ false = sym kind ∙ built_in t m end h in cc

    pub no_file : ((d : Description) (end : ℕ) → IsWithin d.start → IsWithin d.handle → ¬ IsByForm (has_kinds t) t d end)
        → (model : FileModel) (end : ℕ) → ¬ IsFileTable t model end
    no_file none (BuiltIn m) end h = not_built_in m end h
    no_file none (Rules r names) end h = none r.description end r.good.start r.good.handle h

    pub rules_right : (model : FileModel) (end : ℕ) → IsFileTable t model end → form_wrong (has_kinds t) t ≡ []
    rules_right (BuiltIn m) end h = absurd (not_built_in m end h)
    rules_right (Rules r names) end h = right_by (has_kinds t) t r.description end h r.good.start r.good.handle

  module _ (kind : is_rules t ≡ false) where
    not_by_rules : (d : Description) (end : ℕ) → IsByForm (has_kinds t) t d end → ⊥
    not_by_rules d end h = let e : true ≡ false = sym (by_kind_of (has_kinds t) t d end h) ∙ kind in cc

    pub not_any : ((m : AnyModel) (end : ℕ) → ¬ IsTableOf t m end) → (model : FileModel) (end : ℕ) → ¬ IsFileTable t model end
    not_any none (BuiltIn m) end h = none m end h
    not_any none (Rules r names) end h = not_by_rules r.description end h

    right_of : (found : List Wrong) → ((m : AnyModel) (end : ℕ) → IsTableOf t m end → found ≡ []) → (model : FileModel) (end : ℕ) → IsFileTable t model end → found ≡ []
    right_of found right (BuiltIn m) end h = right m end h
    right_of found right (Rules r names) end h = absurd (not_by_rules r.description end h)

    pub some_of_file : {E : Type 0} (r : Result (List Wrong) E)
        → IfOk r (λ found. (m : AnyModel) (end : ℕ) → IsTableOf t m end → found ≡ [])
        → IfOk r (λ found. (model : FileModel) (end : ℕ) → IsFileTable t model end → found ≡ [])
    some_of_file (Ok found) right = right_of found right
    some_of_file (Err e) right = tt

  pub of_file : {E : Type 0} (r : Result (List Wrong) E)
      → IfOk r (λ found. found ≡ [] → (m : AnyModel) × (end : ℕ) × IsTableOf t m end)
      → IfOk r (λ found. found ≡ [] → (x : FileModel) × (end : ℕ) × IsFileTable t x end)
  of_file (Ok found) h = λ e. let (m, end, is) = h e in (BuiltIn m, end, is)
  of_file (Err e) h = tt
