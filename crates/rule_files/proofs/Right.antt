-- Tables of models by rules, and their mistakes.
use Rattle.std.proofs.Common.{◌≡◌, ℕ, ◌^◌, ◌&&◌, List, [], ◌∷◌, ◌++◌, Bool, true, false, Option, Some, None, is_some, option_and_then, codes, refl, ap, sym, ◌∙◌, arith, append_assoc, append-nil, Result, Ok, Err}
use Rattle.std.specs.Prelude.{OnOk, option_map}
use Rattle.eventkey.proofs.Lists.{some_of}
use Rattle.texts.proofs.Right.{none_before, none_behind, numbers_right, numbers_there, words_right, words_there}
use Rattle.texts.specs.ModelFile.{Wrong, number_at, number_key, numbers_wrong, unknown_wrong, words_wrong}
use Rattle.toml.specs.Data.{Members}
use Rattle.rule_files.proofs.Seam.{spelled}
use Rattle.rule_files.specs.Arrays.{State}
use Rattle.rule_files.specs.FileTable.{IsBody, IsRulesTable, body_fits, content_wrong, fits_names, head_wrong, key_of, names_fit, names_wrong, numbers_of_wrong, parts_fit, rest_of, rest_wrong, rule_fits, rule_wrong, rules_keys, rules_of, rules_table_wrong, rules_wrong, seed_of, seed_wrong, sorts_wrong, tables_wrong, text_fits, twice_wrong, words_of_wrong}
use Rattle.rule_files.specs.Kinds.{IsRuleAt}
use Rattle.rule_files.specs.RuleFile.{Parts, Setting, content_of, distinct, fields_of, has_sorts, no_kinds, numbers_of, parts_in, parts_of, sorts_of, state_in, state_of, tables_of}
use Rattle.rules.specs.Limits.{Exceeds, IsFault, IsWithin}
use Rattle.rules.specs.Rules.{Description}
use Rattle.rules.specs.declared.limits.Limit.{Limit}
use Rattle.rules.specs.declared.limits.Limit.TheVariants.{Sends, Draws, Steps}
use Rattle.rules.specs.declared.limits.RulesFault.{RulesFault}
use Rattle.rules.specs.declared.limits.RulesFault.TheVariants.{Start, Handle}
use Rattle.rules.specs.declared.tree.Statement.{Statement}

pub three : (a b c : Bool) → a ≡ true → b ≡ true → c ≡ true → (a && (b && c)) ≡ true
three true true true p q r = refl
three false b c p q r = p
three true false c p q r = q
three true true false p q r = r

pub nils : (a b : List Wrong) → a ≡ [] → b ≡ [] → a ++ b ≡ []
nils a b p q = ap (λ l. l ++ b) p ∙ q

pub right_words : (right : Bool) (key text : List ℕ) (t : Members) → right ≡ true → words_wrong right key text t ≡ []
right_words right key text t e = ap (λ r. words_wrong r key text t) e ∙ words_right key text t

-- 1. The head

abbrev head_numbers : Members → List Wrong
head_numbers t = numbers_wrong (number_key (codes "lps") 1 65536 ∷ number_key (codes "end") 1 (2 ^ 40) ∷ []) t

module _ (t : Members) (none : head_wrong t ≡ []) where
  pub lps_there : number_at (codes "lps") 1 65536 t ≡ None → ⊥
  lps_there missing =
      let ((lps, lps_is, _, _), ((end, end_is, _, _), all))
      = numbers_there (number_key (codes "lps") 1 65536 ∷ number_key (codes "end") 1 (2 ^ 40) ∷ []) t (none_before (head_numbers t) (unknown_wrong rules_keys t) none) in cc

  pub end_there : number_at (codes "end") 1 (2 ^ 40) t ≡ None → ⊥
  end_there missing =
      let ((lps, lps_is, _, _), ((end, end_is, _, _), all))
      = numbers_there (number_key (codes "lps") 1 65536 ∷ number_key (codes "end") 1 (2 ^ 40) ∷ []) t (none_before (head_numbers t) (unknown_wrong rules_keys t) none) in cc

  pub only_there : unknown_wrong rules_keys t ≡ []
  only_there = none_behind (head_numbers t) (unknown_wrong rules_keys t) none

-- 2. What is right has no mistakes

rule_right : (key : List ℕ) (p : Parts) (rules : Members) (rule : List Statement) → IsRuleAt key p rules rule → IsWithin rule → rule_fits key rules p ≡ true
rule_right key p rules rule h within = ap (λ o. text_fits o p) h.1 ∙ spelled p h.0 rule h.2 within

pub all_some : (at : Setting) (a : Option State) (b : Option (List (List ℕ))) (c d : Option (List (List ℕ × List ℕ))) (e : Option (List (List ℕ × List (List ℕ)))) (p : Parts)
    → option_and_then (λ state. option_and_then (λ content. option_and_then (λ numbers. option_and_then (λ tables. option_and_then (λ sorts.
    distinct (record { words = state.words; arrays = state.arrays; content = content; numbers = numbers; tables = tables; sorts = sorts; fields = fields_of sorts; kinds = at.kinds; own = at.own })) e) d) c) b)
    (option_and_then (state_in at.keyed) a) ≡ Some p
    → (is_some a ≡ true) × (is_some b ≡ true) × (is_some c ≡ true) × (is_some d ≡ true) × (is_some e ≡ true)
all_some at None b c d e p h = cc
all_some at (Some w) b c d e p h = let (f, g, i, j) = behind (state_in at.keyed w) b c d e h in (refl, f, g, i, j)
  where
    behind : (a : Option State) (b : Option (List (List ℕ))) (c d : Option (List (List ℕ × List ℕ))) (e : Option (List (List ℕ × List (List ℕ))))
        → option_and_then (λ state. option_and_then (λ content. option_and_then (λ numbers. option_and_then (λ tables. option_and_then (λ sorts.
        distinct (record { words = state.words; arrays = state.arrays; content = content; numbers = numbers; tables = tables; sorts = sorts; fields = fields_of sorts; kinds = at.kinds; own = at.own })) e) d) c) b) a ≡ Some p
        → (is_some b ≡ true) × (is_some c ≡ true) × (is_some d ≡ true) × (is_some e ≡ true)
    behind None b c d e g = cc
    behind (Some s) None c d e g = cc
    behind (Some s) (Some x) None d e g = cc
    behind (Some s) (Some x) (Some y) None e g = cc
    behind (Some s) (Some x) (Some y) (Some z) None g = cc
    behind (Some s) (Some x) (Some y) (Some z) (Some u) g = (refl, refl, refl, refl)

parts_there : (t : Members) (p : Parts) → parts_of t ≡ Some p
    → (is_some (state_of t) ≡ true) × (is_some (content_of (has_sorts t) t) ≡ true) × (is_some (numbers_of t) ≡ true) × (is_some (tables_of t) ≡ true) × (is_some (sorts_of t) ≡ true)
unfolding parts_in
parts_there t p h = all_some no_kinds (state_of t) (content_of (has_sorts t) t) (numbers_of t) (tables_of t) (sorts_of t) p h

names_right : (t : Members) (p : Parts) → parts_of t ≡ Some p → names_wrong t ≡ []
names_right t p h =
    let (a, b, c, d, f) = parts_there t p h in
    let e : names_fit t ≡ true
    = ap (λ o. fits_names (is_some o) (is_some (state_of t)) (is_some (content_of (has_sorts t) t)) (is_some (sorts_of t)) (is_some (numbers_of t)) (is_some (tables_of t))) h in
    nils _ _ (nils _ _ (nils _ _ (nils _ _ (nils _ _ (right_words _ _ _ t a) (right_words _ _ _ t b)) (right_words _ _ _ t f)) (right_words _ _ _ t c)) (right_words _ _ _ t d)) (right_words _ _ _ t e)

module _ (t : Members) (d : Description) (b : IsBody t d) (s : IsWithin d.start) (h : IsWithin d.handle) where
  seed_right : is_some (seed_of (key_of b.parts) t) ≡ true
  seed_right = ap is_some b.seed

  start_right : rule_fits (codes "start") b.rules b.parts ≡ true
  start_right = rule_right (codes "start") b.parts b.rules d.start b.start s

  handle_right : rule_fits (codes "handle") b.rules b.parts ≡ true
  handle_right = rule_right (codes "handle") b.parts b.rules d.handle b.handle h

  pub body_right : body_fits t ≡ true
  body_right =
      ap (λ o. parts_fit o (rules_of t) t) b.parts_are ∙ ap (λ o. parts_fit (Some b.parts) o t) b.rules_are
      ∙ three _ _ _ seed_right start_right handle_right

  rest_right : rest_wrong t ≡ []
  rest_right =
      ap (λ o. rest_of o (rules_of t) t) b.parts_are ∙ ap (λ o. rest_of (Some b.parts) o t) b.rules_are
      ∙ nils _ _ (nils _ _ (right_words _ _ _ t seed_right) (right_words true _ _ t refl))
      (nils _ _ (right_words _ _ _ b.rules start_right) (right_words _ _ _ b.rules handle_right))

module _ (t : Members) (d : Description) (end : ℕ) (is : IsRulesTable t d end) where
  numbers_none : head_numbers t ≡ []
  numbers_none = numbers_right (number_key (codes "lps") 1 65536 ∷ number_key (codes "end") 1 (2 ^ 40) ∷ []) t ((d.lps, is.lps), ((end, is.last), tt))

  pub head_right : head_wrong t ≡ []
  head_right = nils (head_numbers t) (unknown_wrong rules_keys t) numbers_none is.only

  pub table_right : IsWithin d.start → IsWithin d.handle → rules_table_wrong t ≡ []
  table_right s h =
      nils _ _ (nils _ _ (nils _ _ numbers_none (names_right t is.body.parts is.body.parts_are)) (rest_right t d is.body s h)) is.only

-- 3. What has no mistakes is right

fitting : (x a b s c d : Bool) → a ≡ true → b ≡ true → s ≡ true → c ≡ true → d ≡ true → fits_names x a b s c d ≡ true → x ≡ true
fitting true a b s c d p q u r v h = refl
fitting false true true true true true p q u r v h = h
fitting false false b s c d p q u r v h = p
fitting false true false s c d p q u r v h = q
fitting false true true false c d p q u r v h = u
fitting false true true true false d p q u r v h = r
fitting false true true true true false p q u r v h = v

module _ (t : Members) where
  names_there : names_wrong t ≡ [] → (p : Parts) × (parts_of t ≡ Some p)
  names_there none =
      let w = words_of_wrong t in
      let m = content_wrong (has_sorts t) t in
      let five = none_before (w ++ m ++ sorts_wrong t ++ numbers_of_wrong t ++ tables_wrong t) (twice_wrong (names_fit t) t) none in
      let four = none_before (w ++ m ++ sorts_wrong t ++ numbers_of_wrong t) (tables_wrong t) five in
      let three_none = none_before (w ++ m ++ sorts_wrong t) (numbers_of_wrong t) four in
      let two = none_before (w ++ m) (sorts_wrong t) three_none in
      some_of (parts_of t)
      (fitting (is_some (parts_of t)) (is_some (state_of t)) (is_some (content_of (has_sorts t) t)) (is_some (sorts_of t)) (is_some (numbers_of t)) (is_some (tables_of t))
      (words_there _ _ _ t (none_before w m two))
      (words_there _ _ _ t (none_behind w m two))
      (words_there _ _ _ t (none_behind (w ++ m) (sorts_wrong t) three_none))
      (words_there _ _ _ t (none_behind (w ++ m ++ sorts_wrong t) (numbers_of_wrong t) four))
      (words_there _ _ _ t (none_behind (w ++ m ++ sorts_wrong t ++ numbers_of_wrong t) (tables_wrong t) five))
      (words_there _ _ _ t (none_behind (w ++ m ++ sorts_wrong t ++ numbers_of_wrong t ++ tables_wrong t) (twice_wrong (names_fit t) t) none)))

  module _ (p : Parts) (e : parts_of t ≡ Some p) where
    abbrev seed_part : List Wrong
    seed_part = seed_wrong (Some p) t

    abbrev rules_part : List Wrong
    rules_part = words_wrong (is_some (rules_of t)) (codes "rules") (codes "a table with the texts start and handle") t

    rest_there : rest_wrong t ≡ [] → body_fits t ≡ true
    rest_there given =
        let none : rest_of (Some p) (rules_of t) t ≡ [] = ap (λ o. rest_of o (rules_of t) t) (sym e) ∙ given in
        let two = none_before (seed_part ++ rules_part) (rules_wrong (Some p) (rules_of t)) none in
        let (rules, r) = some_of (rules_of t) (words_there _ _ _ t (none_behind seed_part rules_part two)) in
        let both : rules_wrong (Some p) (Some rules) ≡ []
        = ap (λ o. rules_wrong (Some p) o) (sym r) ∙ none_behind (seed_part ++ rules_part) (rules_wrong (Some p) (rules_of t)) none in
        ap (λ o. parts_fit o (rules_of t) t) e ∙ ap (λ o. parts_fit (Some p) o t) r
        ∙ three _ _ _ (words_there _ _ _ t (none_before seed_part rules_part two))
        (words_there _ _ _ rules (none_before (rule_wrong (codes "start") rules p) (rule_wrong (codes "handle") rules p) both))
        (words_there _ _ _ rules (none_behind (rule_wrong (codes "start") rules p) (rule_wrong (codes "handle") rules p) both))

  module _ (none : rules_table_wrong t ≡ []) where
    abbrev before_unknown : List Wrong
    before_unknown = head_numbers t ++ names_wrong t ++ rest_wrong t

    pub head_there : head_wrong t ≡ []
    head_there =
        let all = none_before before_unknown (unknown_wrong rules_keys t) none in
        let two = none_before (head_numbers t ++ names_wrong t) (rest_wrong t) all in
        nils (head_numbers t) (unknown_wrong rules_keys t) (none_before (head_numbers t) (names_wrong t) two) (none_behind before_unknown (unknown_wrong rules_keys t) none)

    pub body_there : body_fits t ≡ true
    body_there =
        let all = none_before before_unknown (unknown_wrong rules_keys t) none in
        let two = none_before (head_numbers t ++ names_wrong t) (rest_wrong t) all in
        let (p, e) = names_there (none_behind (head_numbers t) (names_wrong t) two) in
        rest_there p e (none_behind (head_numbers t ++ names_wrong t) (rest_wrong t) all)

-- 4. Rules within the limits have no fault

exceeds_not : (limit : Limit) (rule : List Statement) → Exceeds limit rule → IsWithin rule → ⊥
exceeds_not Sends rule e w = omega (arith, e, w.sends)
exceeds_not Draws rule e w = omega (arith, e.1, w.draws)
exceeds_not Steps rule e w = omega (arith, e.2, w.steps)

pub no_fault : (fault : RulesFault) (start handle : List Statement) → IsFault fault start handle → IsWithin start → IsWithin handle → ⊥
no_fault (Start limit) start handle e s h = exceeds_not limit start e s
no_fault (Handle limit) start handle e s h = exceeds_not limit handle e.1 h

-- 5. Findings one after another

pub on_ok : {A E : Type 0} (r : Result A E) (P Q : Type 0) → OnOk r P → (P → Q) → OnOk r Q
on_ok (Ok a) P Q h f = f h
on_ok (Err e) P Q h f = tt

regroup6 : (n a b c d e f : List Wrong) → (((((n ++ a) ++ b) ++ c) ++ d) ++ e) ++ f ≡ n ++ (a ++ b ++ c ++ d ++ e ++ f)
regroup6 n a b c d e f = simp append_assoc

pub put6 : (n0 n1 n2 n3 n4 n5 n6 a b c d e f : List Wrong) → n1 ≡ n0 ++ a → n2 ≡ n1 ++ b → n3 ≡ n2 ++ c → n4 ≡ n3 ++ d → n5 ≡ n4 ++ e → n6 ≡ n5 ++ f
    → n6 ≡ n0 ++ (a ++ b ++ c ++ d ++ e ++ f)
put6 n0 n1 n2 n3 n4 n5 n6 a b c d e f e1 e2 e3 e4 e5 e6 =
    e6 ∙ ap (λ l. l ++ f) (e5 ∙ ap (λ l. l ++ e) (e4 ∙ ap (λ l. l ++ d) (e3 ∙ ap (λ l. l ++ c) (e2 ∙ ap (λ l. l ++ b) e1)))) ∙ regroup6 n0 a b c d e f

pub fit_is : (x a b s c d x2 a2 b2 s2 c2 d2 : Bool) → x ≡ x2 → a ≡ a2 → b ≡ b2 → s ≡ s2 → c ≡ c2 → d ≡ d2 → fits_names x a b s c d ≡ fits_names x2 a2 b2 s2 c2 d2
fit_is x a b s c d x2 a2 b2 s2 c2 d2 p q r v w u =
    ap (λ z. fits_names z a b s c d) p ∙ ap (λ z. fits_names x2 z b s c d) q ∙ ap (λ z. fits_names x2 a2 z s c d) r
    ∙ ap (λ z. fits_names x2 a2 b2 z c d) v ∙ ap (λ z. fits_names x2 a2 b2 s2 z d) w ∙ ap (λ z. fits_names x2 a2 b2 s2 c2 z) u

regroup4 : (n a b c d : List Wrong) → (((n ++ a) ++ b) ++ c) ++ d ≡ n ++ ((a ++ b) ++ (c ++ d))
regroup4 n a b c d = simp append_assoc

regroup2 : (n a b : List Wrong) → (n ++ a) ++ b ≡ n ++ ((a ++ b) ++ [])
regroup2 n a b = append_assoc n a b ∙ ap (λ l. n ++ l) (sym (append-nil (a ++ b)))

module _ (t : Members) (p : Parts) (n0 n1 n2 : List Wrong) (e1 : n1 ≡ n0 ++ seed_wrong (Some p) t) where
  pub both_some : (rules : Members) → Some rules ≡ rules_of t → (n3 n4 : List Wrong)
      → n2 ≡ n1 ++ words_wrong true (codes "rules") (codes "a table with the texts start and handle") t
      → n3 ≡ n2 ++ rule_wrong (codes "start") rules p → n4 ≡ n3 ++ rule_wrong (codes "handle") rules p → n4 ≡ n0 ++ rest_of (Some p) (rules_of t) t
  both_some rules r n3 n4 e2 e3 e4 =
      e4 ∙ ap (λ l. l ++ rule_wrong (codes "handle") rules p) (e3 ∙ ap (λ l. l ++ rule_wrong (codes "start") rules p)
      (e2 ∙ ap (λ l. l ++ words_wrong true (codes "rules") (codes "a table with the texts start and handle") t) e1))
      ∙ regroup4 n0 _ _ _ _ ∙ ap (λ o. n0 ++ rest_of (Some p) o t) r

  pub both_none : None ≡ rules_of t → n2 ≡ n1 ++ words_wrong false (codes "rules") (codes "a table with the texts start and handle") t
      → n2 ≡ n0 ++ rest_of (Some p) (rules_of t) t
  both_none r e2 =
      e2 ∙ ap (λ l. l ++ words_wrong false (codes "rules") (codes "a table with the texts start and handle") t) e1
      ∙ regroup2 n0 _ _ ∙ ap (λ o. n0 ++ rest_of (Some p) o t) r

pub put2 : (n0 n1 n2 a b : List Wrong) → n1 ≡ n0 ++ a → n2 ≡ n1 ++ b → n2 ≡ n0 ++ (a ++ b)
put2 n0 n1 n2 a b e1 e2 = e2 ∙ ap (λ l. l ++ b) e1 ∙ append_assoc n0 a b

regroup5 : (n a b c d e : List Wrong) → ((((n ++ a) ++ b) ++ c) ++ d) ++ e ≡ n ++ (a ++ b ++ c ++ d ++ e)
regroup5 n a b c d e = simp append_assoc

pub put5 : (n0 n1 n2 n3 n4 n5 a b c d e : List Wrong) → n1 ≡ n0 ++ a → n2 ≡ n1 ++ b → n3 ≡ n2 ++ c → n4 ≡ n3 ++ d → n5 ≡ n4 ++ e
    → n5 ≡ n0 ++ (a ++ b ++ c ++ d ++ e)
put5 n0 n1 n2 n3 n4 n5 a b c d e e1 e2 e3 e4 e5 =
    e5 ∙ ap (λ l. l ++ e) (e4 ∙ ap (λ l. l ++ d) (e3 ∙ ap (λ l. l ++ c) (e2 ∙ ap (λ l. l ++ b) e1))) ∙ regroup5 n0 a b c d e

pub some-map : {A B : Type 0} (f : A → B) (o : Option A) → is_some o ≡ is_some (option_map f o)
some-map f None = refl
some-map f (Some x) = refl
