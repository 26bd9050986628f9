-- Kinds of processes that are read one after the other.
use Rattle.std.proofs.Common.{◌≡◌, ◌≤◌, ℕ, ◌+◌, ◌&&◌, List, [], ◌∷◌, ◌++◌, Bool, true, Option, Some, ap, sym, ◌∙◌, refl, map, max, subst, append_assoc, append-nil, arith}
use Rattle.std.specs.Prelude.{option_and_then, option_map}
use Rattle.rule_files.proofs.Lists.{one_more}
use Rattle.rule_files.specs.Kinds.{AreKinds, AreWithin, IsKind, KindRules, all_fit, is_keyed, kind_fits, kind_in, kinds_from, processes_from, setting, widest}
use Rattle.rule_files.specs.KindViews.{kinds_view, pair_view}
use Rattle.rule_files.specs.RuleFile.{Kind, Setting, kind_view}
use Rattle.rule_files.specs.declared.kinds.KindTable.{KindTable}
use Rattle.rules.specs.Limits.{IsWithin}
use Rattle.toml.specs.Data.{Members}

-- the first kinds of a composition
pub map-map : {A B C : Type 0} (f : A → B) (g : B → C) (xs : List A) → map g (map f xs) ≡ map (λ x. g (f x)) xs
map-map f g [] = refl
map-map f g (x ∷ xs) = ap (λ ys. g (f x) ∷ ys) (map-map f g xs)

pub within_more : (rs : List KindRules) (r : KindRules) → AreWithin rs → IsWithin r.start → IsWithin r.handle → r.width ≤ 16 → AreWithin (rs ++ r ∷ [])
within_more [] r h s g w = ((s, g, w), tt)
within_more (q ∷ qs) r h s g w = (h.0, within_more qs r h.1 s g w)

module _ (file : Members) (all : List (Kind × Members)) where
  -- one more kind is read
  pub are_more : (whole left rest : List (Kind × Members)) (k : Kind × Members) (before after : List KindRules) (r : KindRules)
      → left ≡ k ∷ rest → after ≡ before ++ r ∷ [] → IsKind file all k r
      → ((rs : List KindRules) → AreKinds file all left rs → AreKinds file all whole (before ++ rs))
      → (rs : List KindRules) → AreKinds file all rest rs → AreKinds file all whole (after ++ rs)
  are_more whole left rest k before after r split added is so_far rs h =
      let longer : AreKinds file all left (r ∷ rs) = subst (λ l. AreKinds file all l (r ∷ rs)) (sym split) (is, h) in
      let same : before ++ (r ∷ rs) ≡ after ++ rs = sym (ap (λ l. l ++ rs) added ∙ append_assoc before (r ∷ []) rs) in
      subst (AreKinds file all whole) same (so_far (r ∷ rs) longer)

  -- all kinds are read
  pub are_all : (whole left : List (Kind × Members)) (rules : List KindRules) → left ≡ []
      → ((rs : List KindRules) → AreKinds file all left rs → AreKinds file all whole (rules ++ rs)) → AreKinds file all whole rules
  are_all whole left rules none so_far =
      subst (AreKinds file all whole) (append-nil rules) (so_far [] (subst (λ l. AreKinds file all l []) (sym none) tt))

  -- a kind that is read
  pub fit : (left rest : List (Kind × Members)) (k : Kind × Members) → left ≡ k ∷ rest → kind_fits file all k ≡ true → all_fit file all left ≡ all_fit file all rest
  fit left rest k split there = ap (all_fit file all) split ∙ ap (λ b. b && all_fit file all rest) there

-- the processes of one more kind
pub processes-more : (n : ℕ) (ks : List (Kind × Members)) (k : Kind × Members) → processes_from n (ks ++ k ∷ []) ≡ processes_from n ks + k.0.count
processes-more n [] k = refl
processes-more n (j ∷ js) k = processes-more (n + j.0.count) js k

-- the widest of narrow ones is narrow
pub widest_few : (n : ℕ) (rs : List KindRules) → n ≤ 16 → AreWithin rs → widest n rs ≤ 16
widest_few n [] few h = few
widest_few n (r ∷ rs) few h = widest_few (max n r.width) rs (omega (arith, few, h.0.2)) h.1

-- one more kind is read: the tables `left` remain, whose first is `t`
module _ (first : ℕ) (left rest : List Members) (t : Members) (split : left ≡ t ∷ rest) (was : List (Kind × Members)) (all : Option (List (Kind × Members)))
    (so_far : option_map (λ ks. was ++ ks) (kinds_from first left) ≡ all) where
  abbrev with_kind : Kind → Option (List (Kind × Members))
  with_kind k = option_map (λ ks. (k, t) ∷ ks) (kinds_from (first + k.count) rest)

  pub kind_more : (k : Kind) (now : List (Kind × Members)) (next : ℕ) → kind_in first t ≡ Some k → now ≡ was ++ (k, t) ∷ [] → next ≡ first + k.count
      → option_map (λ ks. now ++ ks) (kinds_from next rest) ≡ all
  kind_more k now next is added then_from =
      ap (λ n. option_map (λ ks. now ++ ks) (kinds_from n rest)) then_from
      ∙ one_more (kinds_from (first + k.count) rest) was now (k, t) added
      ∙ ap (option_map (λ ks. was ++ ks)) (sym (ap (kinds_from first) split ∙ ap (option_and_then with_kind) is))
      ∙ so_far

-- the setting of a kind, part by part
abbrev pub made : Bool → List Kind → ℕ → Setting
made keyed kinds first = record { keyed = keyed; kinds = kinds; own = Some first }

pub setting_is : (b : Bool) (ks : List KindTable) (k : Kind) → b ≡ is_keyed (kinds_view ks) → made b (map (λ j. kind_view j.head) ks) k.first ≡ setting (kinds_view ks) k
setting_is b ks k e =
    ap (λ l. made b l k.first) (sym (map-map pair_view (λ j. j.0) ks)) ∙ ap (λ a. made a (map (λ j. j.0) (kinds_view ks)) k.first) e
