-- Tables with kinds of processes, and their mistakes.
use Rattle.std.proofs.Common.{◌≡◌, ◌≤◌, ℕ, ◌^◌, ◌&&◌, ◌==◌, List, [], ◌∷◌, ◌++◌, Bool, true, false, Option, Some, None, is_some, option_and_then, codes, refl, ap, sym, ◌∙◌, arith, map, length, if◌then◌else◌}
use Rattle.std.specs.Prelude.{option_map}
use Rattle.std.proofs.Common.{subst, ◌+◌}
use Rattle.std.proofs.lemmas.Bool.Decides.{nat_tests}
use Rattle.texts.proofs.Right.{none_before, none_behind, numbers_right, numbers_there, words_there}
use Rattle.texts.specs.ModelFile.{Wrong, number_at, number_key, numbers_wrong, unknown_wrong}
use Rattle.toml.specs.Data.{Members}
use Rattle.rule_files.proofs.Choice.{EachWithin, each_within, file_tables, some_kinds_there}
use Rattle.rule_files.proofs.Right.{all_some, nils, right_words, three}
use Rattle.rule_files.proofs.Seam.{short_spelled}
use Rattle.rule_files.specs.FileTable.{IsKindsTable, all_wrong, both_wrong, each_wrong, heads_of, kind_seed_wrong, kind_wrong, kinds_fit, kinds_fit_by, kinds_head_wrong, kinds_keys, kinds_rest_of, kinds_table_wrong, numbers_of_wrong, short_wrong, sorts_wrong, tables_wrong}
use Rattle.rule_files.specs.Kinds.{AreKinds, IsKind, IsRuleAt, KindRules, all_fit, both_fit, count_of, few_processes, kind_fits, kind_in, kind_keys, kind_of, kind_tables, kinds_from, kinds_of, is_keyed, name_of, setting, short_rule_fits, text_is_short}
use Rattle.rule_files.specs.Reading.{MOST_STEPS}
use Rattle.rule_files.specs.RuleFile.{Kind, Parts, Setting, content_of, has_sorts, numbers_of, parts_in, sorts_of, state_of, tables_of}
use Rattle.rules.specs.Costs.{cost_of_all}
use Rattle.rules.specs.Limits.{IsWithin}
use Rattle.rules.specs.Rules.{Description}
use Rattle.rules.specs.declared.limits.Limit.TheVariants.{Steps}
use Rattle.rules.specs.declared.tree.Statement.{Statement}

-- 1. A kind that is right has no mistakes

short_right : (key : List ℕ) (p : Parts) (t : Members) (rule : List Statement) → IsRuleAt key p t rule → IsWithin rule → cost_of_all Steps rule ≤ MOST_STEPS
    → short_rule_fits key t p ≡ true
short_right key p t rule h within short = ap (λ o. text_is_short o p) h.1 ∙ short_spelled p h.0 rule h.2 within short

two : (a b : Bool) → a ≡ true → b ≡ true → (a && b) ≡ true
two true b p q = q
two false b p q = p

first_of : (a b : Bool) → (a && b) ≡ true → a ≡ true
first_of true b h = refl
first_of false b h = h

second_of : (a b : Bool) → (a && b) ≡ true → b ≡ true
second_of true b h = h
second_of false b h = cc

module _ (file : Members) (all : List (Kind × Members)) where
  pub kind_right : (k : Kind × Members) (r : KindRules) → IsKind file all k r → IsWithin r.start → IsWithin r.handle → kind_fits file all k ≡ true
  kind_right k r is s h =
      ap (λ o. both_fit o k.1) is.parts_are
      ∙ two _ _ (short_right (codes "start") is.parts k.1 r.start is.start s is.start_short)
      (short_right (codes "handle") is.parts k.1 r.handle is.handle h is.handle_short)

  pub kinds_right : (ks : List (Kind × Members)) (rs : List KindRules) → AreKinds file all ks rs → EachWithin (λ r. r.start) rs → EachWithin (λ r. r.handle) rs
      → all_fit file all ks ≡ true
  kinds_right [] [] are s h = refl
  kinds_right [] (r ∷ rs) are s h = absurd are
  kinds_right (k ∷ ks) [] are s h = absurd are
  kinds_right (k ∷ ks) (r ∷ rs) are s h = two _ _ (kind_right k r are.0 s.0 h.0) (kinds_right ks rs are.1 s.1 h.1)

  both_none : (o : Option Parts) (t : Members) → both_fit o t ≡ true → both_wrong o t ≡ []
  both_none None t h = cc
  both_none (Some p) t h =
      nils _ _ (right_words _ _ _ t (first_of _ _ h)) (right_words _ _ _ t (second_of _ _ h))

  both_there : (o : Option Parts) (t : Members) → both_wrong o t ≡ [] → both_fit o t ≡ true
  both_there None t h = words_there false _ _ t h
  both_there (Some p) t h =
      two _ _ (words_there _ _ _ t (none_before (short_wrong (codes "start") t p) (short_wrong (codes "handle") t p) h))
      (words_there _ _ _ t (none_behind (short_wrong (codes "start") t p) (short_wrong (codes "handle") t p) h))

  pub rules_none : (ks : List (Kind × Members)) → all_fit file all ks ≡ true → all_wrong file all ks ≡ []
  rules_none [] h = refl
  rules_none (k ∷ ks) h =
      nils _ _ (both_none (parts_in (setting all k.0) file k.1) k.1 (first_of _ _ h)) (rules_none ks (second_of (kind_fits file all k) _ h))

  pub rules_there : (ks : List (Kind × Members)) → all_wrong file all ks ≡ [] → all_fit file all ks ≡ true
  rules_there [] h = refl
  rules_there (k ∷ ks) h =
      two _ _ (both_there (parts_in (setting all k.0) file k.1) k.1 (none_before _ (all_wrong file all ks) h)) (rules_there ks (none_behind (both_wrong (parts_in (setting all k.0) file k.1) k.1) _ h))

-- 2. What kinds have beside their rules

zero_is : (n : ℕ) → (n == 0) ≡ true → n ≡ 0
zero_is n h = grind (arith, nat_tests)

is_nil : (xs : List Wrong) → (length xs == 0) ≡ true → xs ≡ []
is_nil [] h = refl
is_nil (x ∷ xs) h = let e = zero_is (length (x ∷ xs)) h in absurd (omega (arith, e))

named_in_kind : (first : ℕ) (b : Bool) (name : Option (List ℕ)) (count : Option ℕ) (few : Option ℕ → Option ℕ) (k : Kind)
    → (count ≡ None → few count ≡ None)
    → (if b then option_and_then (λ n. option_map (kind_of n first) (few count)) name else None) ≡ Some k → (b ≡ true) × (is_some name ≡ true) × (is_some count ≡ true)
named_in_kind first false name count few k none h = cc
named_in_kind first true None count few k none h = cc
named_in_kind first true (Some n) None few k none h = let e = none refl in cc
named_in_kind first true (Some n) (Some m) few k none h = (refl, refl, refl)

abbrev IsNamed : Members → Type 0
IsNamed t = (unknown_wrong kind_keys t ≡ []) × (is_some (name_of t) ≡ true) × (is_some (count_of t) ≡ true)

kind_named : (first : ℕ) (t : Members) (k : Kind) → kind_in first t ≡ Some k → IsNamed t
unfolding kind_in
kind_named first t k h =
    let (b, n, c) = named_in_kind first (length (unknown_wrong kind_keys t) == 0) (name_of t) (count_of t) (option_and_then (few_processes first)) k (λ e. ap (option_and_then (few_processes first)) e) h in
    (is_nil _ b, n, c)

abbrev AreNamed : List Members → Type 0
AreNamed [] = Unit {0}
AreNamed (t ∷ ts) = IsNamed t × AreNamed ts

more_named : (t : Members) (ts : List Members) (ks : List (Kind × Members)) (k : Kind) (o : Option (List (Kind × Members)))
    → ((js : List (Kind × Members)) → o ≡ Some js → AreNamed ts) → option_map (λ js. (k, t) ∷ js) o ≡ Some ks → AreNamed ts
more_named t ts ks k None others h = cc
more_named t ts ks k (Some js) others h = others js refl

step_named : (first : ℕ) (t : Members) (ts : List Members) (ks : List (Kind × Members)) (rest : Kind → Option (List (Kind × Members))) (o : Option Kind) → kind_in first t ≡ o
    → ((k : Kind) (js : List (Kind × Members)) → rest k ≡ Some js → AreNamed ts)
    → option_and_then (λ k. option_map (λ js. (k, t) ∷ js) (rest k)) o ≡ Some ks → AreNamed (t ∷ ts)
step_named first t ts ks rest None is others h = cc
step_named first t ts ks rest (Some k) is others h = (kind_named first t k is, more_named t ts ks k (rest k) (others k) h)

row_named : (first : ℕ) (ts : List Members) (ks : List (Kind × Members)) → kinds_from first ts ≡ Some ks → AreNamed ts
row_named first [] ks h = tt
row_named first (t ∷ ts) ks h =
    step_named first t ts ks (λ k. kinds_from (first + k.count) ts) (kind_in first t) refl (λ k js is. row_named (first + k.count) ts js is) h

tables_named : (o : Option (List Members)) (ts : List Members) (ks : List (Kind × Members)) → o ≡ Some ts → option_and_then (kinds_from 0) o ≡ Some ks → AreNamed ts
tables_named None ts ks e h = cc
tables_named (Some us) ts ks e h = let f : us ≡ ts = cc in subst AreNamed f (row_named 0 us ks h)

file_named : (file : Members) (ts : List Members) (ks : List (Kind × Members)) → kind_tables file ≡ Some ts → kinds_of file ≡ Some ks → AreNamed ts
unfolding kinds_of
file_named file ts ks e h = tables_named (kind_tables file) ts ks e h

-- the parts are there, so what they are made of is there
abbrev IsListed : Members → Members → Type 0
IsListed file t = (is_some (state_of t) ≡ true) × (is_some (content_of (has_sorts file) t) ≡ true)

abbrev AreListed : Members → List Members → Type 0
AreListed file [] = Unit {0}
AreListed file (t ∷ ts) = IsListed file t × AreListed file ts

abbrev IsShared : Members → Type 0
IsShared file = (is_some (numbers_of file) ≡ true) × (is_some (sorts_of file) ≡ true)

listed : (at : Setting) (file t : Members) (p : Parts) → parts_in at file t ≡ Some p → IsListed file t × IsShared file
unfolding parts_in
listed at file t p h =
    let (a, b, c, d, e) = all_some at (state_of t) (content_of (has_sorts file) t) (numbers_of file) (tables_of file) (sorts_of file) p h in
    ((a, b), (c, e))

module _ (file : Members) (all : List (Kind × Members)) where
  are_listed : (ks : List (Kind × Members)) (rs : List KindRules) → AreKinds file all ks rs → AreListed file (map (λ k. k.1) ks)
  are_listed [] rs are = tt
  are_listed (k ∷ ks) [] are = absurd are
  are_listed (k ∷ ks) (r ∷ rs) are = ((listed (setting all k.0) file k.1 are.0.parts are.0.parts_are).0, are_listed ks rs are.1)

  are_shared : (ks : List (Kind × Members)) (rs : List KindRules) → 1 ≤ length ks → AreKinds file all ks rs → IsShared file
  are_shared [] rs some are = absurd (omega (arith, some))
  are_shared (k ∷ ks) [] some are = absurd are
  are_shared (k ∷ ks) (r ∷ rs) some are = (listed (setting all k.0) file k.1 are.0.parts are.0.parts_are).1

kind_none : (sorted : Bool) (t : Members) → IsNamed t → is_some (state_of t) ≡ true → is_some (content_of sorted t) ≡ true → kind_wrong sorted t ≡ []
kind_none sorted t named state content =
    nils _ _ (nils _ _ (nils _ _ (nils _ _ (right_words _ _ _ t named.1) (right_words _ _ _ t named.2)) (right_words _ _ _ t state)) (right_words _ _ _ t content)) named.0

each_none : (file : Members) (ts : List Members) → AreNamed ts → AreListed file ts → each_wrong (has_sorts file) ts ≡ []
each_none file [] named there = refl
each_none file (t ∷ ts) named there = nils _ _ (kind_none (has_sorts file) t named.0 there.0.0 there.0.1) (each_none file ts named.1 there.1)

-- 3. What is right has no mistakes

abbrev end_numbers : Members → List Wrong
end_numbers t = numbers_wrong (number_key (codes "end") 1 (2 ^ 40) ∷ []) t

module _ (t : Members) (d : Description) (end : ℕ) (is : IsKindsTable t d end) where
  abbrev kts : List Members
  kts = map (λ k. k.1) is.body.kinds

  tables_there : kind_tables t ≡ Some kts
  tables_there = file_tables t is.body.kinds is.body.kinds_are

  heads_none : heads_of (kind_tables t) t ≡ []
  heads_none =
      ap (λ o. heads_of o t) tables_there
      ∙ each_none t kts (file_named t kts is.body.kinds tables_there is.body.kinds_are) (are_listed t is.body.kinds is.body.kinds is.body.rules is.body.are)

  shared : IsShared t
  shared = are_shared t is.body.kinds is.body.kinds is.body.rules (some_kinds_there t is.body.kinds is.body.kinds_are) is.body.are

  pub kinds_head_right : kinds_head_wrong t ≡ []
  kinds_head_right =
      nils _ _ (nils _ _ (nils _ _ (nils _ _ (nils _ _
      (numbers_right (number_key (codes "end") 1 (2 ^ 40) ∷ []) t ((end, is.last), tt))
      (right_words _ _ _ t shared.1)) (right_words _ _ _ t shared.0)) (right_words _ _ _ t (ap is_some is.body.named_are))) heads_none) is.only

  module _ (s : IsWithin d.start) (h : IsWithin d.handle) where
    rules_fit : all_fit t is.body.kinds is.body.kinds ≡ true
    rules_fit =
        kinds_right t is.body.kinds is.body.kinds is.body.rules is.body.are
        (each_within (λ r. r.start) is.body.rules d.start is.body.start s) (each_within (λ r. r.handle) is.body.rules d.handle is.body.handle h)

    pub kinds_fit_right : kinds_fit t ≡ true
    kinds_fit_right =
        ap (λ o. kinds_fit_by o t) is.body.kinds_are ∙ three _ _ _ (ap is_some is.body.seed) (ap is_some is.body.named_are) rules_fit

    rest_none : kinds_rest_of (kinds_of t) t ≡ []
    rest_none =
        ap (λ o. kinds_rest_of o t) is.body.kinds_are
        ∙ nils _ _ (right_words _ _ _ t (ap is_some is.body.seed)) (rules_none t is.body.kinds is.body.kinds rules_fit)

    pub kinds_table_right : kinds_table_wrong t ≡ []
    kinds_table_right =
        ap (λ w. if length w == 0 then kinds_rest_of (kinds_of t) t else w) kinds_head_right ∙ rest_none

-- 4. What has no mistakes is right

split : (b : Bool) (head rest : List Wrong) → (length head == 0) ≡ b → (if b then rest else head) ≡ [] → (head ≡ []) × (rest ≡ [])
split true head rest is h = (is_nil head is, h)
split false head rest is h = let e : false ≡ true = sym is ∙ ap (λ w. length w == 0) h in cc

rest_there : (o : Option (List (Kind × Members))) (t : Members) → is_some (tables_of t) ≡ true → kinds_rest_of o t ≡ [] → kinds_fit_by o t ≡ true
rest_there None t tables h = words_there false _ _ t h
rest_there (Some kinds) t tables h =
    three _ _ _ (words_there _ _ _ t (none_before (kind_seed_wrong (is_keyed kinds) t) (all_wrong t kinds kinds) h)) tables
    (rules_there t kinds kinds (none_behind (kind_seed_wrong (is_keyed kinds) t) (all_wrong t kinds kinds) h))

module _ (t : Members) (none : kinds_table_wrong t ≡ []) where
  both : (kinds_head_wrong t ≡ []) × (kinds_rest_of (kinds_of t) t ≡ [])
  both = split (length (kinds_head_wrong t) == 0) (kinds_head_wrong t) (kinds_rest_of (kinds_of t) t) refl none

  pub kinds_head_there : kinds_head_wrong t ≡ []
  kinds_head_there = both.0

  pub kinds_fit_there : kinds_fit t ≡ true
  kinds_fit_there =
      let five = none_before (end_numbers t ++ sorts_wrong t ++ numbers_of_wrong t ++ tables_wrong t ++ heads_of (kind_tables t) t) (unknown_wrong kinds_keys t) both.0 in
      let four = none_before (end_numbers t ++ sorts_wrong t ++ numbers_of_wrong t ++ tables_wrong t) (heads_of (kind_tables t) t) five in
      rest_there (kinds_of t) t (words_there _ _ _ t (none_behind (end_numbers t ++ sorts_wrong t ++ numbers_of_wrong t) (tables_wrong t) four)) both.1

-- the end and the keys of a table whose head has no mistake
module _ (t : Members) (none : kinds_head_wrong t ≡ []) where
  abbrev before_keys : List Wrong
  before_keys = end_numbers t ++ sorts_wrong t ++ numbers_of_wrong t ++ tables_wrong t ++ heads_of (kind_tables t) t

  pub kinds_end_there : number_at (codes "end") 1 (2 ^ 40) t ≡ None → ⊥
  kinds_end_there missing =
      let five = none_before before_keys (unknown_wrong kinds_keys t) none in
      let four = none_before (end_numbers t ++ sorts_wrong t ++ numbers_of_wrong t ++ tables_wrong t) (heads_of (kind_tables t) t) five in
      let three_none = none_before (end_numbers t ++ sorts_wrong t ++ numbers_of_wrong t) (tables_wrong t) four in
      let two_none = none_before (end_numbers t ++ sorts_wrong t) (numbers_of_wrong t) three_none in
      let ((end, end_is, _, _), all) = numbers_there (number_key (codes "end") 1 (2 ^ 40) ∷ []) t (none_before (end_numbers t) (sorts_wrong t) two_none) in cc

  pub kinds_only_there : unknown_wrong kinds_keys t ≡ []
  kinds_only_there = none_behind before_keys (unknown_wrong kinds_keys t) none
