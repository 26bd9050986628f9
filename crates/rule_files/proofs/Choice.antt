-- The rule for the processes of all kinds: what it does, and what it costs.
use Rattle.std.proofs.Common.{◌≡◌, ◌≤◌, ◌<◌, codes, inl, inr, ℕ, ◌+◌, ◌*◌, List, [], ◌∷◌, Bool, true, false, Option, Some, None, Vec, Global, ap, refl, sym, ◌∙◌, subst, arith, max, map, length, ◌&&◌, nat_lt, nat_le, option_and_then, if◌then◌else◌, ◌==◌}
use Rattle.std.specs.Prelude.{option_map}
use Rattle.std.proofs.lemmas.Bool.Decides.{nat_tests}
use Rattle.std.proofs.lemmas.List.{length-map}
use Rattle.rules.proofs.Rows.{after-If, cost-If}
use Rattle.rule_files.proofs.Seam.{tree_cost_is}
use Rattle.rule_files.specs.Grammar.{Number, Read, tree_of}
use Rattle.rule_files.specs.Kinds.{AreKinds, AreWithin, IsBelow, IsByKind, IsPair, KindRules, RunsItsKind, count_of, few_processes, kind_in, kind_keys, kind_of, kind_tables, kinds_from, kinds_of, name_of, some_kinds, tables_among}
use Rattle.rule_files.specs.Reading.{MOST_STEPS, tree_cost}
use Rattle.rule_files.specs.RuleFile.{Kind}
use Rattle.rules.specs.Costs.{cost, cost_of_all, draws, step_cost}
use Rattle.rules.specs.Distributions.{saturated}
use Rattle.rules.specs.Effects.{Progress, after_all, progress}
use Rattle.rules.specs.Limits.{IsWithin}
use Rattle.rules.specs.Values.{is_true, known_of, operate, truth, value_of}
use Rattle.rules.specs.declared.evaluate.Context.{Context}
use Rattle.rules.specs.declared.limits.Limit.{Limit}
use Rattle.rules.specs.declared.limits.Limit.TheVariants.{Draws, Sends, Steps}
use Rattle.rules.specs.declared.limits.TheConstants.{MAX_DRAWS, MAX_SENDS, MAX_STEPS}
use Rattle.rules.specs.declared.tree.Expression.{Expression}
use Rattle.rules.specs.declared.tree.Expression.TheVariants as e
use Rattle.rules.specs.declared.tree.Known.TheVariants.{Process}
use Rattle.rules.specs.declared.tree.Operator.TheVariants.{Below}
use Rattle.rules.specs.declared.tree.Statement.{Statement, If}
use Rattle.texts.specs.ModelFile.{unknown_wrong}
use Rattle.toml.specs.Data.{Members, as_array, get_member}

-- 1. The test of a process

module _ (tables : List (List ℕ)) (s : Context) (k : ℕ) where
  process_value : (x : Expression) → tree_of x ≡ Read Process → value_of tables s x k ≡ s.process
  process_value (e.Number n) h = cc
  process_value (e.Word i) h = cc
  process_value (e.Content i) h = cc
  process_value (e.Local i) h = cc
  process_value (e.Read known) h = let f : known ≡ Process = cc in ap (known_of s) f
  process_value (e.Not' p x) h = cc
  process_value (e.Two' o p x q y) h = cc
  process_value (e.Entry' table p x) h = cc
  process_value (e.Draw' law p x) h = cc
  process_value (e.Normal' p x q y) h = cc
  process_value (e.Triangular' p x q y r z) h = cc
  process_value (e.Choose table) h = cc
  process_value (e.Element' array p x) h = cc

  number_value : (n : ℕ) (x : Expression) → tree_of x ≡ Number n → value_of tables s x k ≡ saturated n
  number_value n (e.Number m) h = let f : m ≡ n = cc in ap saturated f
  number_value n (e.Word i) h = cc
  number_value n (e.Content i) h = cc
  number_value n (e.Local i) h = cc
  number_value n (e.Read known) h = cc
  number_value n (e.Not' p x) h = cc
  number_value n (e.Two' o p x q y) h = cc
  number_value n (e.Entry' table p x) h = cc
  number_value n (e.Draw' law p x) h = cc
  number_value n (e.Normal' p x q y) h = cc
  number_value n (e.Triangular' p x q y r z) h = cc
  number_value n (e.Choose table) h = cc
  number_value n (e.Element' array p x) h = cc

module _ (tables : List (List ℕ)) (s : Context) (k end : ℕ) where
  below_value : (x : Expression) → IsBelow end x → value_of tables s x k ≡ truth (nat_lt s.process (saturated end))
  below_value (e.Number n) h = cc
  below_value (e.Word i) h = cc
  below_value (e.Content i) h = cc
  below_value (e.Local i) h = cc
  below_value (e.Read known) h = cc
  below_value (e.Not' p x) h = cc
  below_value (e.Two' o p x q y) h =
      let f : o ≡ Below = cc in
      let g : tree_of x ≡ Read Process = cc in
      let j : tree_of y ≡ Number end = cc in
      ap (λ z. operate z (value_of tables s x k) (value_of tables s y (k + draws x))) f
      ∙ ap (λ v. operate Below v (value_of tables s y (k + draws x))) (process_value tables s k x g)
      ∙ ap (λ v. operate Below s.process v) (number_value tables s (k + draws x) end y j)
  below_value (e.Entry' table p x) h = cc
  below_value (e.Draw' law p x) h = cc
  below_value (e.Normal' p x q y) h = cc
  below_value (e.Triangular' p x q y r z) h = cc
  below_value (e.Choose table) h = cc
  below_value (e.Element' array p x) h = cc

below_cost : (c : Limit) (end : ℕ) (x : Expression) → IsBelow end x → cost c x ≡ step_cost c + step_cost c + step_cost c
below_cost c end x h = sym (tree_cost_is c x) ∙ ap (tree_cost c) h

truth_true : (v : ℕ) (b : Bool) → v ≡ truth b → b ≡ true → is_true v ≡ true
truth_true v b e h = rw (e, h) refl

truth_false : (v : ℕ) (b : Bool) → v ≡ truth b → b ≡ false → is_true v ≡ false
truth_false v b e h = rw (e, h) refl

is_below : (process end : ℕ) → process < end → end ≤ 65536 → nat_lt process (saturated end) ≡ true
is_below process end h few = grind (arith, nat_tests)

is_not_below : (process end : ℕ) → end ≤ process → end ≤ 65536 → nat_lt process (saturated end) ≡ false
is_not_below process end h few = grind (arith, nat_tests)

-- 2. One kind, and the others

module _ (tables : List (List ℕ)) (x : Expression) (block rest : Vec Statement Global) (p : Progress) (end : ℕ) (is : IsBelow end x) (few : end ≤ 65536) where
  abbrev tested : Progress
  tested = progress p.context (p.drawn + draws x) p.sends

  same : tested ≡ p
  same = ap (λ n. progress p.context n p.sends) (let d : draws x ≡ 0 = below_cost Draws end x is in omega (arith, d))

  abbrev answer : Bool
  answer = is_true (value_of tables p.context x p.drawn)

  value_is : value_of tables p.context x p.drawn ≡ truth (nat_lt p.context.process (saturated end))
  value_is = below_value tables p.context p.drawn end x is

  pub in_block : p.context.process < end → after_all tables (If x block rest ∷ []) p ≡ after_all tables block.items p
  in_block h =
      let yes : answer ≡ true = truth_true _ _ value_is (is_below p.context.process end h few) in
      after-If tables x block rest p
      ∙ ap (λ b. if b then after_all tables block.items tested else after_all tables rest.items tested) yes
      ∙ ap (after_all tables block.items) same

  pub in_rest : end ≤ p.context.process → after_all tables (If x block rest ∷ []) p ≡ after_all tables rest.items p
  in_rest h =
      let no : answer ≡ false = truth_false _ _ value_is (is_not_below p.context.process end h few) in
      after-If tables x block rest p
      ∙ ap (λ b. if b then after_all tables block.items tested else after_all tables rest.items tested) no
      ∙ ap (after_all tables rest.items) same

-- 3. The kinds of a file are in a row

abbrev pub AreAdjacent : ℕ → List (Kind × Members) → Type 0
AreAdjacent first [] = Unit {0}
AreAdjacent first (k ∷ ks) = (k.0.first ≡ first) × (first + k.0.count ≤ 65536) × AreAdjacent (first + k.0.count) ks

few_is : (first n count : ℕ) (b : Bool) → nat_le (first + n) 65536 ≡ b → (if b then Some n else None) ≡ Some count → first + count ≤ 65536
few_is first n count true is h = let e : n ≡ count = cc in subst (λ c. first + c ≤ 65536) e (grind (arith, nat_tests, is))
few_is first n count false is h = cc

counted : (first : ℕ) (o : Option ℕ) (count : ℕ) → option_and_then (few_processes first) o ≡ Some count → first + count ≤ 65536
counted first None count h = cc
counted first (Some n) count h = few_is first n count (nat_le (first + n) 65536) refl h

kind_at : (first : ℕ) (name : Option (List ℕ)) (count : Option ℕ) (k : Kind) → option_and_then (λ n. option_map (kind_of n first) count) name ≡ Some k
    → (k.first ≡ first) × (count ≡ Some k.count)
kind_at first None count k h = cc
kind_at first (Some n) None k h = cc
kind_at first (Some n) (Some m) k h = let e : kind_of n first m ≡ k = cc in (sym (ap (λ j. j.first) e), ap (λ j. Some j.count) e)

kind_by : (first : ℕ) (b : Bool) (name : Option (List ℕ)) (count : Option ℕ) (k : Kind) → (if b then option_and_then (λ n. option_map (kind_of n first) count) name else None) ≡ Some k
    → (k.first ≡ first) × (count ≡ Some k.count)
kind_by first true name count k h = kind_at first name count k h
kind_by first false name count k h = cc

pub kind_first : (first : ℕ) (t : Members) (k : Kind) → kind_in first t ≡ Some k → (k.first ≡ first) × (first + k.count ≤ 65536)
unfolding kind_in
kind_first first t k h =
    let (f, c) = kind_by first (length (unknown_wrong kind_keys t) == 0) (name_of t) (option_and_then (few_processes first) (count_of t)) k h in
    (f, counted first (count_of t) k.count c)

some_row : (first : ℕ) (t : Members) (o : Option Kind) (rest : Kind → Option (List (Kind × Members))) (ks : List (Kind × Members)) → kind_in first t ≡ o
    → ((k : Kind) (js : List (Kind × Members)) → rest k ≡ Some js → AreAdjacent (first + k.count) js)
    → option_and_then (λ k. option_map (λ js. (k, t) ∷ js) (rest k)) o ≡ Some ks → AreAdjacent first ks
some_row first t None rest ks is others h = cc
some_row first t (Some k) rest ks is others h = some_behind first t k (rest k) ks is (others k) h
  where
    some_behind : (first : ℕ) (t : Members) (k : Kind) (o : Option (List (Kind × Members))) (ks : List (Kind × Members)) → kind_in first t ≡ Some k
        → ((js : List (Kind × Members)) → o ≡ Some js → AreAdjacent (first + k.count) js)
        → option_map (λ js. (k, t) ∷ js) o ≡ Some ks → AreAdjacent first ks
    some_behind first t k None ks is others h = cc
    some_behind first t k (Some js) ks is others h =
        let e : (k, t) ∷ js ≡ ks = cc in
        let (f, c) = kind_first first t k is in
        subst (AreAdjacent first) e (f, c, others js refl)

pub adjacent : (first : ℕ) (ts : List Members) (ks : List (Kind × Members)) → kinds_from first ts ≡ Some ks → AreAdjacent first ks
adjacent first [] ks h = let e : [] ≡ ks = cc in subst (AreAdjacent first) e tt
adjacent first (t ∷ ts) ks h =
    some_row first t (kind_in first t) (λ k. kinds_from (first + k.count) ts) ks refl (λ k js is. adjacent (first + k.count) ts js is) h

of_tables : (o : Option (List Members)) (ks : List (Kind × Members)) → option_and_then (kinds_from 0) o ≡ Some ks → AreAdjacent 0 ks
of_tables None ks h = cc
of_tables (Some ts) ks h = adjacent 0 ts ks h

pub file_adjacent : (file : Members) (ks : List (Kind × Members)) → kinds_of file ≡ Some ks → AreAdjacent 0 ks
unfolding kinds_of
file_adjacent file ks h = of_tables (kind_tables file) ks h

-- 4. The law

later : (first : ℕ) (k : Kind × Members) (r : KindRules) (ks : List (Kind × Members)) (rs : List KindRules) → AreAdjacent first ks → IsPair k r ks rs → first ≤ k.0.first
later first k r [] rs row pair = absurd pair
later first k r (j ∷ js) [] row pair = absurd pair
later first k r (j ∷ js) (s ∷ ss) row (inl (e, f)) = let g : k.0.first ≡ j.0.first = ap (λ z. z.0.first) e in omega (arith, g, row.0)
later first k r (j ∷ js) (s ∷ ss) row (inr pair) = let g = later (first + j.0.count) k r js ss row.2 pair in omega (arith, g)

module _ (rule : KindRules → List Statement) (file : Members) (all : List (Kind × Members)) (k : Kind × Members) (r : KindRules) (tables : List (List ℕ)) (p : Progress)
    (low : k.0.first ≤ p.context.process) (high : p.context.process < k.0.first + k.0.count) where
  runs : (first : ℕ) (ks : List (Kind × Members)) (rs : List KindRules) (whole : List Statement) → AreAdjacent first ks → AreKinds file all ks rs → IsByKind rule rs whole → IsPair k r ks rs
      → after_all tables whole p ≡ after_all tables (rule r) p
  runs first [] rs whole row are by pair = absurd pair
  runs first (j ∷ js) [] whole row are by pair = absurd pair
  runs first (j ∷ js) (s ∷ ss) whole row are (x, block, rest, is, below, block_is, others) (inl (same_kind, same_rules)) =
      let end_is : s.end ≡ j.0.first + j.0.count = are.0.end in
      let kind_is : k.0.first + k.0.count ≡ j.0.first + j.0.count = ap (λ z. z.0.first + z.0.count) same_kind in
      let few : s.end ≤ 65536 = omega (arith, end_is, row.0, row.1) in
      let there : p.context.process < s.end = omega (arith, high, kind_is, end_is) in
      ap (λ w. after_all tables w p) is ∙ in_block tables x block rest p s.end below few there
      ∙ ap (λ w. after_all tables w p) (block_is ∙ ap rule (sym same_rules))
  runs first (j ∷ js) (s ∷ ss) whole row are (x, block, rest, is, below, block_is, others) (inr pair) =
      let end_is : s.end ≡ j.0.first + j.0.count = are.0.end in
      let few : s.end ≤ 65536 = omega (arith, end_is, row.0, row.1) in
      let behind = later (first + j.0.count) k r js ss row.2 pair in
      let there : s.end ≤ p.context.process = omega (arith, end_is, row.0, behind, low) in
      ap (λ w. after_all tables w p) is ∙ in_rest tables x block rest p s.end below few there
      ∙ runs (first + j.0.count) js ss rest.items row.2 are.1 others pair

pub runs_its_kind : RunsItsKind
runs_its_kind rule file kinds rules whole k r tables p kinds_are are by pair low high =
    runs rule file kinds k r tables p low high 0 kinds rules whole (file_adjacent file kinds kinds_are) are by pair

-- 5. What the rule costs

-- what the choices cost
abbrev pub choices : Limit → List KindRules → ℕ
choices c [] = 0
choices c (r ∷ rs) = 4 * step_cost c + choices c rs

no_choices_sends : (rs : List KindRules) → choices Sends rs ≡ 0
no_choices_sends [] = refl
no_choices_sends (r ∷ rs) = let e = no_choices_sends rs in omega (arith, e)

no_choices_draws : (rs : List KindRules) → choices Draws rs ≡ 0
no_choices_draws [] = refl
no_choices_draws (r ∷ rs) = let e = no_choices_draws rs in omega (arith, e)

choices_steps : (rs : List KindRules) → choices Steps rs ≡ 4 * length rs
choices_steps [] = refl
choices_steps (r ∷ rs) = let e = choices_steps rs in omega (arith, e)

module _ (c : Limit) (rule : KindRules → List Statement) (m : ℕ) where
  abbrev pub Cost : List KindRules → Type 0
  Cost [] = Unit {0}
  Cost (r ∷ rs) = (cost_of_all c (rule r) ≤ m) × Cost rs

  one_cost : (x : Expression) (block rest : Vec Statement Global) (end : ℕ) → IsBelow end x
      → cost_of_all c (If x block rest ∷ []) ≡ 4 * step_cost c + max (cost_of_all c block.items) (cost_of_all c rest.items)
  one_cost x block rest end is =
      let a = cost-If c x block rest in
      let b = below_cost c end x is in
      omega (arith, a, b)

  pub whole_cost : (rs : List KindRules) (whole : List Statement) → Cost rs → IsByKind rule rs whole → cost_of_all c whole ≤ m + choices c rs
  whole_cost [] whole few by = let e : cost_of_all c whole ≡ 0 = ap (cost_of_all c) by in omega (arith, e)
  whole_cost (r ∷ rs) whole few (x, block, rest, is, below, block_is, others) =
      let a : cost_of_all c whole ≡ cost_of_all c (If x block rest ∷ []) = ap (cost_of_all c) is in
      let b = one_cost x block rest r.end below in
      let d : cost_of_all c block.items ≡ cost_of_all c (rule r) = ap (cost_of_all c) block_is in
      let g = whole_cost rs rest.items few.1 others in
      omega (arith, a, b, d, g, few.0)

  pub part_cost : (rs : List KindRules) (whole : List Statement) → cost_of_all c whole ≤ m → IsByKind rule rs whole → Cost rs
  part_cost [] whole few by = tt
  part_cost (r ∷ rs) whole few (x, block, rest, is, below, block_is, others) =
      let a : cost_of_all c whole ≡ cost_of_all c (If x block rest ∷ []) = ap (cost_of_all c) is in
      let b = one_cost x block rest r.end below in
      let d : cost_of_all c block.items ≡ cost_of_all c (rule r) = ap (cost_of_all c) block_is in
      (omega (arith, few, a, b, d), part_cost rs rest.items (omega (arith, few, a, b)) others)

-- at most 64 rules within the limits of a kind are one within all limits
module _ (rule : KindRules → List Statement) (rs : List KindRules) (whole : List Statement) (by : IsByKind rule rs whole) where
  pub all_within : length rs ≤ 64 → Cost Sends rule MAX_SENDS rs → Cost Draws rule MAX_DRAWS rs → Cost Steps rule MOST_STEPS rs → IsWithin whole
  all_within few sends draws steps =
      let a = whole_cost Sends rule MAX_SENDS rs whole sends by in
      let b = whole_cost Draws rule MAX_DRAWS rs whole draws by in
      let d = whole_cost Steps rule MOST_STEPS rs whole steps by in
      let e = no_choices_sends rs in
      let f = no_choices_draws rs in
      let g = choices_steps rs in
      record { sends = omega (arith, a, e); draws = omega (arith, b, f); steps = omega (arith, d, g, few) }

-- and one within all limits has rules within them
abbrev pub EachWithin : (KindRules → List Statement) → List KindRules → Type 0
EachWithin rule [] = Unit {0}
EachWithin rule (r ∷ rs) = IsWithin (rule r) × EachWithin rule rs

each_of : (rule : KindRules → List Statement) (rs : List KindRules) → Cost Sends rule MAX_SENDS rs → Cost Draws rule MAX_DRAWS rs → Cost Steps rule MAX_STEPS rs → EachWithin rule rs
each_of rule [] a b d = tt
each_of rule (r ∷ rs) a b d = (record { sends = a.0; draws = b.0; steps = d.0 }, each_of rule rs a.1 b.1 d.1)

pub each_within : (rule : KindRules → List Statement) (rs : List KindRules) (whole : List Statement) → IsByKind rule rs whole → IsWithin whole → EachWithin rule rs
each_within rule rs whole by h =
    each_of rule rs (part_cost Sends rule MAX_SENDS rs whole h.sends by) (part_cost Draws rule MAX_DRAWS rs whole h.draws by) (part_cost Steps rule MAX_STEPS rs whole h.steps by)

-- the costs of the rules that were read
module _ (file : Members) (all : List (Kind × Members)) where
  pub start_costs : (ks : List (Kind × Members)) (rs : List KindRules) → AreKinds file all ks rs → AreWithin rs
      → Cost Sends (λ r. r.start) MAX_SENDS rs × Cost Draws (λ r. r.start) MAX_DRAWS rs × Cost Steps (λ r. r.start) MOST_STEPS rs
  start_costs [] [] are within = (tt, tt, tt)
  start_costs [] (r ∷ rs) are within = absurd are
  start_costs (k ∷ ks) [] are within = absurd are
  start_costs (k ∷ ks) (r ∷ rs) are within =
      let (a, b, d) = start_costs ks rs are.1 within.1 in
      ((within.0.0.sends, a), (within.0.0.draws, b), (are.0.start_short, d))

  pub handle_costs : (ks : List (Kind × Members)) (rs : List KindRules) → AreKinds file all ks rs → AreWithin rs
      → Cost Sends (λ r. r.handle) MAX_SENDS rs × Cost Draws (λ r. r.handle) MAX_DRAWS rs × Cost Steps (λ r. r.handle) MOST_STEPS rs
  handle_costs [] [] are within = (tt, tt, tt)
  handle_costs [] (r ∷ rs) are within = absurd are
  handle_costs (k ∷ ks) [] are within = absurd are
  handle_costs (k ∷ ks) (r ∷ rs) are within =
      let (a, b, d) = handle_costs ks rs are.1 within.1 in
      ((within.0.1.sends, a), (within.0.1.draws, b), (are.0.handle_short, d))

  pub as_many : (ks : List (Kind × Members)) (rs : List KindRules) → AreKinds file all ks rs → length rs ≡ length ks
  as_many [] [] are = refl
  as_many [] (r ∷ rs) are = absurd are
  as_many (k ∷ ks) [] are = absurd are
  as_many (k ∷ ks) (r ∷ rs) are = let e = as_many ks rs are.1 in omega (arith, e)

-- there are at most 64 kinds
row_more : (t : Members) (ts : List Members) (ks : List (Kind × Members)) (k : Kind) (o : Option (List (Kind × Members)))
    → ((js : List (Kind × Members)) → o ≡ Some js → map (λ j. j.1) js ≡ ts) → option_map (λ js. (k, t) ∷ js) o ≡ Some ks → map (λ j. j.1) ks ≡ t ∷ ts
row_more t ts ks k None others h = cc
row_more t ts ks k (Some js) others h = let e : (k, t) ∷ js ≡ ks = cc in ap (map (λ j. j.1)) (sym e) ∙ ap (λ l. t ∷ l) (others js refl)

row_step : (t : Members) (ts : List Members) (ks : List (Kind × Members)) (rest : Kind → Option (List (Kind × Members))) (o : Option Kind)
    → ((k : Kind) (js : List (Kind × Members)) → rest k ≡ Some js → map (λ j. j.1) js ≡ ts)
    → option_and_then (λ k. option_map (λ js. (k, t) ∷ js) (rest k)) o ≡ Some ks → map (λ j. j.1) ks ≡ t ∷ ts
row_step t ts ks rest None others h = cc
row_step t ts ks rest (Some k) others h = row_more t ts ks k (rest k) (others k) h

row_length : (first : ℕ) (ts : List Members) (ks : List (Kind × Members)) → kinds_from first ts ≡ Some ks → map (λ k. k.1) ks ≡ ts
row_length first [] ks h = let e : [] ≡ ks = cc in ap (map (λ k. k.1)) (sym e)
row_length first (t ∷ ts) ks h =
    row_step t ts ks (λ k. kinds_from (first + k.count) ts) (kind_in first t) (λ k js is. row_length (first + k.count) ts js is) h

pub tables_are : (o : Option (List Members)) (ks : List (Kind × Members)) → option_and_then (kinds_from 0) o ≡ Some ks → o ≡ Some (map (λ k. k.1) ks)
tables_are None ks h = cc
tables_are (Some ts) ks h = ap Some (sym (row_length 0 ts ks h))

pub file_tables : (file : Members) (ks : List (Kind × Members)) → kinds_of file ≡ Some ks → kind_tables file ≡ Some (map (λ k. k.1) ks)
unfolding kinds_of
file_tables file ks h = tables_are (kind_tables file) ks h

few_by : (b : Bool) (n : ℕ) (ts us : List Members) → (nat_le 1 (length ts) && nat_le (length ts) 64) ≡ b → (if b then Some ts else None) ≡ Some us → (1 ≤ length us) × (length us ≤ 64)
few_by true n ts us is h = let e : ts ≡ us = cc in subst (λ v. (1 ≤ length v) × (length v ≤ 64)) e (grind (arith, nat_tests, is), grind (arith, nat_tests, is))
few_by false n ts us is h = cc

few_tables_in : (o : Option (List Members)) (us : List Members) → option_and_then some_kinds o ≡ Some us → (1 ≤ length us) × (length us ≤ 64)
few_tables_in None us h = cc
few_tables_in (Some ts) us h = few_by (nat_le 1 (length ts) && nat_le (length ts) 64) 0 ts us refl h

pub few_tables : (file : Members) (us : List Members) → kind_tables file ≡ Some us → (1 ≤ length us) × (length us ≤ 64)
unfolding kind_tables
few_tables file us h = few_tables_in (option_and_then tables_among (option_and_then as_array (get_member (codes "kind") file))) us h

pub few_kinds : (file : Members) (ks : List (Kind × Members)) → kinds_of file ≡ Some ks → length ks ≤ 64
few_kinds file ks h = let e = few_tables file (map (λ k. k.1) ks) (file_tables file ks h) in let f = length-map ks (λ (k : Kind × Members). k.1) in omega (arith, e.1, f)

pub some_kinds_there : (file : Members) (ks : List (Kind × Members)) → kinds_of file ≡ Some ks → 1 ≤ length ks
some_kinds_there file ks h = let e = few_tables file (map (λ k. k.1) ks) (file_tables file ks h) in let f = length-map ks (λ (k : Kind × Members). k.1) in omega (arith, e.0, f)

-- the rule for all kinds is within the limits
module _ (file : Members) (ks : List (Kind × Members)) (rs : List KindRules) (whole : List Statement) (is : kinds_of file ≡ Some ks) (are : AreKinds file ks ks rs) (within : AreWithin rs) where
  few_rules : length rs ≤ 64
  few_rules = let e = as_many file ks ks rs are in let f = few_kinds file ks is in omega (arith, e, f)

  pub start_within : IsByKind (λ r. r.start) rs whole → IsWithin whole
  start_within by = let (a, b, d) = start_costs file ks ks rs are within in all_within (λ r. r.start) rs whole by few_rules a b d

  pub handle_within : IsByKind (λ r. r.handle) rs whole → IsWithin whole
  handle_within by = let (a, b, d) = handle_costs file ks ks rs are within in all_within (λ r. r.handle) rs whole by few_rules a b d
