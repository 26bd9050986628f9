-- A file keeps the limits by which its digest tells what it means.
use Rattle.std.proofs.Common.{◌≡◌, ◌∙◌, ◌≤◌, ◌&&◌, ℕ, List, [], ◌∷◌, Bool, true, false, Option, Some, None, arith, ap, length, map, nat_le, option_and_then, refl, subst, sym, codes, if◌then◌else◌}
use Rattle.std.proofs.lemmas.Bool.Decides.{nat_tests}
use Rattle.std.proofs.lemmas.List.{map-append, length-map}
use Rattle.std.proofs.lemmas.Option.{cond_some, none-some, same_Some}
use Rattle.std.specs.List.{AllByRecursion as Every, after_first, before_first, position_or_len}
use Rattle.std.specs.Prelude.{nat_lt}
use Rattle.eventkey.proofs.Fields.{when_some}
use Rattle.eventkey.proofs.Lists.{Every-append}
use Rattle.toml.specs.Data.{Data, Items, Members, as_array, as_str, as_table, get_member, item, no_items}
use Rattle.rules.specs.Costs.{cost_of, cost_of_all}
use Rattle.rules.specs.Limits.{IsWithin}
use Rattle.rules.specs.Rules.{Description}
use Rattle.rules.specs.declared.arrays.Array.{Array}
use Rattle.rules.specs.declared.limits.Limit.TheVariants.{Steps}
use Rattle.rules.specs.declared.tree.Statement.{Statement}
use Rattle.rules.specs.declared.tree.Statement.TheVariants as s
use Rattle.rule_files.specs.Statements.{acts_of}
use Rattle.rule_files.specs.Arrays.{Declaration, State, after, is_bracket, array_at, bits_behind, declared_behind, declared_in, declared_view, fits, is_unit, behind_digits, no_state, number_in, with_array, with_declared, with_item, with_word}
use Rattle.rule_files.specs.Digest.{count}
use Rattle.rule_files.specs.FileTable.{FilesKeepLimits, KindsKeepLimits}
use Rattle.rule_files.specs.Names.{are_distinct, is_name, is_word}
use Rattle.rule_files.specs.RuleFile.{Parts, at_most, content_of, distinct, fields_of, has_sorts, named_in, named_or_none, names_of, numbers_in, numbers_of, parts_in, parts_of, sorts_of, state_behind, state_in, state_of, tables_of}

-- 1. Statements are few

some_cost : (x : Statement) → 1 ≤ cost_of Steps x
some_cost (s.Let i e) = omega arith
some_cost (s.Set i e) = omega arith
some_cost (s.Send x) = omega arith
some_cost (s.If' e p met q unmet) = omega arith
some_cost (s.Repeat' i n p body) = omega arith
some_cost (s.RepeatUntil' i n e p body) = omega arith
some_cost (s.Put array i e) = omega arith

few_acts : (xs : List Statement) → count (acts_of xs) ≤ cost_of_all Steps xs
few_acts [] = omega arith
few_acts (x ∷ xs) = omega (arith, some_cost x, few_acts xs)

-- 2. Arrays have elements

and_then : {A B : Type 0} (f : A → Option B) (o : Option A) (y : B) → option_and_then f o ≡ Some y → (x : A) × (o ≡ Some x) × (f x ≡ Some y)
and_then f None y e = absurd (none-some y e)
and_then f (Some x) y e = (x, refl, e)

none_then : {A : Type 0} (b : Bool) (o : Option A) (y : A) → (if b then None else o) ≡ Some y → o ≡ Some y
none_then true o y e = absurd (none-some y e)
none_then false o y e = e

abbrev HasElements : State → Type 0
HasElements x = Every (λ (a : Array). 1 ≤ a.bits) (map (λ (a : List ℕ × Array). a.1) x.arrays)

some_bits : (a b c : Bool) (bits : ℕ) → (a && (b && (c && (nat_le 1 bits && nat_le bits 64)))) ≡ true → 1 ≤ bits
some_bits true true true bits e = grind (arith, nat_tests)
some_bits true true false bits e = cc
some_bits true false c bits e = cc
some_bits false b c bits e = cc

last_true : (a b : Bool) → (a && b) ≡ true → b ≡ true
last_true true b e = e
last_true false b e = cc

bits_there : (name : List ℕ) (n : ℕ) (o : Option (List ℕ)) (d : Declaration) → bits_behind name n o ≡ Some d → 1 ≤ d.bits
bits_there name n None d e = absurd (none-some d e)
bits_there name n (Some text) d e =
    let is = cond_some (is_unit (behind_digits text) && fits name n (number_in 0 text)) (declared_view name n (number_in 0 text)) d e in
    let some : 1 ≤ number_in 0 text = some_bits (is_name name) (nat_le 1 n) (nat_le n 1024) (number_in 0 text) (last_true (is_unit (behind_digits text)) (fits name n (number_in 0 text)) is.0) in
    subst (λ (x : Declaration). 1 ≤ x.bits) is.1 some

declared_there : (text : List ℕ) (d : Declaration) → declared_in text ≡ Some d → 1 ≤ d.bits
unfolding declared_in
declared_there text d e =
    let name = before_first is_bracket text in
    let behind = after_first is_bracket text in
    let is = when_some (nat_lt (position_or_len is_bracket text) (length text)) (declared_behind name behind) d e in
    bits_there name (number_in 0 behind) (after (codes "]: ") (behind_digits behind)) d is.1

array_keeps : (o : Option Declaration) (x y : State) → ((d : Declaration) → o ≡ Some d → 1 ≤ d.bits) → with_declared o x ≡ Some y → HasElements x → HasElements y
array_keeps None x y some e has = absurd (none-some y e)
array_keeps (Some d) x y some e has =
    let made = array_at (length x.words) d in
    let is : with_array d.name made x ≡ y = same_Some _ y (none_then _ _ y e) in
    let both = Every-append (λ (a : Array). 1 ≤ a.bits) (map (λ (a : List ℕ × Array). a.1) x.arrays) (made ∷ []) has (some d refl, tt) in
    subst HasElements is (subst (λ l. Every (λ (a : Array). 1 ≤ a.bits) l) (sym (map-append (λ (a : List ℕ × Array). a.1) x.arrays ((d.name, made) ∷ []))) both)

word_keeps : (text : List ℕ) (x y : State) → with_word text x ≡ Some y → HasElements x → HasElements y
word_keeps text x y e has = subst HasElements (same_Some _ y (none_then _ _ y e)) has

item_keeps : (text : List ℕ) (x y : State) → with_item text x ≡ Some y → HasElements x → HasElements y
item_keeps text x y e has = by_kind (is_word text) e
  where
    by_kind : (b : Bool) → (if b then with_word text x else with_declared (declared_in text) x) ≡ Some y → HasElements y
    by_kind true e = word_keeps text x y e has
    by_kind false e = array_keeps (declared_in text) x y (λ d is. declared_there text d is) e has

items_keep : (ds : Items) (x y : State) → state_behind x ds ≡ Some y → HasElements x → HasElements y
items_keep no_items x y e has = subst HasElements (same_Some x y e) has
items_keep (item d ds) x y e has =
    let text = and_then _ (as_str d) y e in
    let more = and_then _ (with_item text.0 x) y text.2 in
    items_keep ds more.0 y more.2 (item_keeps text.0 x more.0 more.1 has)

state_there : (t : Members) (x : State) → state_of t ≡ Some x → HasElements x
unfolding state_of
state_there t x e = let ds = and_then (state_behind no_state) (option_and_then as_array (get_member (codes "state") t)) x e in items_keep ds.0 no_state x ds.2 tt

-- 3. Tables are few

few_named : {X : Type 0} (read : Data → Option X) (o : Option Data) (ns : List (List ℕ × X)) → named_or_none read o ≡ Some ns → length ns ≤ 1024
few_named read None ns e = subst (λ l. length l ≤ 1024) (same_Some [] ns e) (omega arith)
few_named read (Some d) ns e =
    let all = and_then (at_most 1024) (option_and_then (named_in read) (as_table d)) ns e in
    let is = cond_some (nat_le (length all.0) 1024) all.0 ns all.2 in
    subst (λ l. length l ≤ 1024) is.1 (under (length all.0) is.0)
  where
    under : (n : ℕ) → nat_le n 1024 ≡ true → n ≤ 1024
    under n h = grind (arith, nat_tests)

few_tables : (t : Members) (ns : List (List ℕ × List ℕ)) → tables_of t ≡ Some ns → length ns ≤ 1024
unfolding tables_of
few_tables t ns e =
    let all = and_then _ (named_or_none (numbers_in true) (get_member (codes "tables") t)) ns e in
    let is = cond_some _ all.0 ns all.2 in
    subst (λ l. length l ≤ 1024) is.1 (few_named (numbers_in true) (get_member (codes "tables") t) all.0 all.1)

-- 4. The parts of a file

record HasParts (t : Members) (p : Parts) : Type 0 where
  state : State
  state_is : state_of t ≡ Some state
  arrays : state.arrays ≡ p.arrays
  tables : tables_of t ≡ Some p.tables

abbrev made : State → List (List ℕ) → List (List ℕ × List ℕ) → List (List ℕ × List ℕ) → List (List ℕ × List (List ℕ)) → Parts
made state content numbers tables sorts = record {
  words = state.words;
  arrays = state.arrays;
  content = content;
  numbers = numbers;
  tables = tables;
  sorts = sorts;
  fields = fields_of sorts;
  kinds = [];
  own = None;
}

all_parts : (a : Option State) (b : Option (List (List ℕ))) (c d : Option (List (List ℕ × List ℕ))) (e : Option (List (List ℕ × List (List ℕ)))) (p : Parts)
    → option_and_then (λ state. option_and_then (λ content. option_and_then (λ numbers. option_and_then (λ tables. option_and_then (λ sorts.
    distinct (made state content numbers tables sorts)) e) d) c) b) a ≡ Some p
    → (state : State) × (a ≡ Some state) × (state.arrays ≡ p.arrays) × (d ≡ Some p.tables)
all_parts None b c d e p h = absurd (none-some p h)
all_parts (Some s) None c d e p h = absurd (none-some p h)
all_parts (Some s) (Some x) None d e p h = absurd (none-some p h)
all_parts (Some s) (Some x) (Some y) None e p h = absurd (none-some p h)
all_parts (Some s) (Some x) (Some y) (Some z) None p h = absurd (none-some p h)
all_parts (Some s) (Some x) (Some y) (Some z) (Some u) p h =
    let is = cond_some (are_distinct (names_of (made s x y z u))) (made s x y z u) p h in
    (s, refl, ap (λ (q : Parts). q.arrays) is.1, ap (λ (q : Parts). Some q.tables) is.1)

parts_are : (t : Members) (p : Parts) → parts_of t ≡ Some p → HasParts t p
unfolding parts_in
parts_are t p e =
    let (state, is, arrays, tables) = all_parts (option_and_then (state_in false) (state_of t)) (content_of (has_sorts t) t) (numbers_of t) (tables_of t) (sorts_of t) p e in
    let own = and_then (state_in false) (state_of t) state is in
    record { state = own.0; state_is = own.1; arrays = ap (λ (x : State). x.arrays) (same_Some own.0 state own.2) ∙ arrays; tables = tables }

few_of : (d : Description) → IsWithin d.start → count (acts_of d.start) ≤ 65536
few_of d within = omega (arith, few_acts d.start, within.steps)

pub files_keep_limits : FilesKeepLimits
files_keep_limits t d within b =
    let has = parts_are t b.parts b.parts_are in
    let few = few_tables t b.parts.tables has.tables in
    let same : length d.tables ≡ length b.parts.tables = ap length b.tables ∙ length-map b.parts.tables _ in
    record {
      elements = subst (λ (l : List (List ℕ × Array)). Every (λ (a : Array). 1 ≤ a.bits) (map (λ (a : List ℕ × Array). a.1) l)) has.arrays (state_there t has.state has.state_is);
      tables = omega (arith, few, same);
      statements = omega (arith, few_of d within);
    }

pub kinds_keep_limits : KindsKeepLimits
kinds_keep_limits t d within b =
    let few = few_tables t b.named b.named_are in
    let same : length d.tables ≡ length b.named = ap length b.tables ∙ length-map b.named _ in
    record { elements = tt; tables = omega (arith, few, same); statements = omega (arith, few_of d within) }
