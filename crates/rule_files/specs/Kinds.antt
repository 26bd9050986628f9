-- Kinds of processes in the file of a model by rules: which processes are of a kind, and what they
-- do.
use Rattle.std.specs.Prelude.{◌≡◌, ◌≤◌, ◌<◌, ◌⊎◌, ℕ, ◌+◌, List, [], ◌∷◌, Bool, true, Option, Some}
use Rattle.std.specs.Prelude.{None, codes, if◌then◌else◌, is_some, length, map, max, nat_le, ◌&&◌}
use Rattle.std.specs.Prelude.{option_and_then, option_map, false, ◌==◌}
use Rattle.std.specs.Global.{Global}
use Rattle.std.specs.List.{list_any}
use Rattle.std.specs.declared.vec.Vec.{Vec}
use Rattle.rule_files.specs.Arrays.{State}
use Rattle.rule_files.specs.Grammar.{Number, Read, Two, tree_of}
use Rattle.rule_files.specs.Names.{is_key}
use Rattle.rule_files.specs.Reading.{MOST_STEPS, Spells, is_short_rule}
use Rattle.rule_files.specs.RuleFile.{Kind, Parts, Setting, parts_in, state_of, word_in}
use Rattle.rules.specs.Costs.{cost_of_all}
use Rattle.rules.specs.Effects.{Progress, after_all}
use Rattle.rules.specs.Limits.{IsWithin}
use Rattle.rules.specs.declared.limits.Limit.TheVariants.{Steps}
use Rattle.rules.specs.declared.tree.Expression.{Expression}
use Rattle.rules.specs.declared.tree.Known.TheVariants.{Process}
use Rattle.rules.specs.declared.tree.Operator.TheVariants.{Below}
use Rattle.rules.specs.declared.tree.Statement.{Statement, If}
use Rattle.texts.specs.ModelFile.{number_at, unknown_wrong}
use Rattle.toml.specs.Data.{Items, Members, as_array, as_str, as_table, get_member, item}
use Rattle.toml.specs.Data.{no_items}

-- 1. The kinds of a file

abbrev pub kind_keys : List (List ℕ)
kind_keys =
    codes "name" ∷ codes "count" ∷ codes "state" ∷ codes "message" ∷ codes "start"
    ∷ codes "handle" ∷ []

abbrev pub has_kinds : Members → Bool
has_kinds file = is_some (get_member (codes "kind") file)

-- the list, if it has 1 to 64 items
abbrev pub some_kinds : List Members → Option (List Members)
some_kinds ts = if nat_le 1 (length ts) && nat_le (length ts) 64 then Some ts else None

abbrev pub tables_among : Items → Option (List Members)
tables_among no_items = Some []
tables_among (item d ds) =
    option_and_then (λ t. option_map (λ ts. t ∷ ts) (tables_among ds)) (as_table d)

-- the tables of the kinds: 1 to 64
unfoldable pub kind_tables : Members → Option (List Members)
kind_tables file = option_and_then some_kinds (option_and_then tables_among
    (option_and_then as_array (get_member (codes "kind") file)))

abbrev pub name_of : Members → Option (List ℕ)
name_of t = option_and_then word_in (get_member (codes "name") t)

abbrev pub count_of : Members → Option ℕ
count_of t = number_at (codes "count") 1 65536 t

abbrev pub kind_of : List ℕ → ℕ → ℕ → Kind
kind_of name first count = record { name = name; first = first; count = count }

-- a kind whose processes go on after those of the kinds before it: at most 65,536 in all
abbrev pub few_processes : ℕ → ℕ → Option ℕ
few_processes first count = if nat_le (first + count) 65536 then Some count else None

unfoldable pub kind_in : ℕ → Members → Option Kind
kind_in first t =
    if length (unknown_wrong kind_keys t) == 0 then
    option_and_then (λ name. option_map (kind_of name first)
    (option_and_then (few_processes first) (count_of t))) (name_of t)
    else None

-- each kind and its table
abbrev pub kinds_from : ℕ → List Members → Option (List (Kind × Members))
kinds_from first [] = Some []
kinds_from first (t ∷ ts) =
    option_and_then (λ k. option_map (λ ks. (k, t) ∷ ks) (kinds_from (first + k.count) ts))
    (kind_in first t)

unfoldable pub kinds_of : Members → Option (List (Kind × Members))
kinds_of file = option_and_then (kinds_from 0) (kind_tables file)

-- 2. What the kinds of a file have in common

abbrev pub has_key : Option State → Bool
has_key None = false
has_key (Some s) = list_any is_key s.words

-- whether some kind has the key
abbrev pub is_keyed : List (Kind × Members) → Bool
is_keyed kinds = list_any (λ k. has_key (state_of k.1)) kinds

-- the key is the first word of each state, if some kind has it
abbrev pub key_place : Bool → Option ℕ
key_place keyed = if keyed then Some 0 else None

abbrev pub setting : List (Kind × Members) → Kind → Setting
setting kinds own = record {
  keyed = is_keyed kinds;
  kinds = map (λ k. k.0) kinds;
  own = Some own.first;
}

-- the number of processes
abbrev pub processes_from : ℕ → List (Kind × Members) → ℕ
processes_from n [] = n
processes_from n (k ∷ ks) = processes_from (n + k.0.count) ks

-- 3. The rules of each kind

-- the text of a rule, at most 65,536 bytes
abbrev pub few_bytes : List ℕ → Option (List ℕ)
few_bytes text = if nat_le (length text) 65536 then Some text else None

abbrev pub text_in : List ℕ → Members → Option (List ℕ)
text_in key rules = option_and_then few_bytes (option_and_then as_str (get_member key rules))

abbrev pub IsRuleAt : List ℕ → Parts → Members → List Statement → Type 0
IsRuleAt key parts rules rule =
    (text : List ℕ) × (text_in key rules ≡ Some text) × Spells parts text rule

-- the number after its last process, the words of its state, and its rules
pub record KindRules : Type 0 where
  pub end : ℕ
  pub width : ℕ
  pub start : List Statement
  pub handle : List Statement

-- these are the rules of a kind, in a file with these kinds
pub record IsKind (file : Members) (kinds : List (Kind × Members)) (k : Kind × Members)
    (r : KindRules) : Type 0 where
  pub parts : Parts
  pub parts_are : parts_in (setting kinds k.0) file k.1 ≡ Some parts
  pub end : r.end ≡ k.0.first + k.0.count
  pub width : r.width ≡ length parts.words
  pub start : IsRuleAt (codes "start") parts k.1 r.start
  pub handle : IsRuleAt (codes "handle") parts k.1 r.handle
  pub start_short : cost_of_all Steps r.start ≤ MOST_STEPS
  pub handle_short : cost_of_all Steps r.handle ≤ MOST_STEPS

-- kind by kind
abbrev pub AreKinds : Members → List (Kind × Members) → List (Kind × Members) → List KindRules →
    Type 0
AreKinds file all [] [] = Unit {0}
AreKinds file all [] (r ∷ rs) = ⊥
AreKinds file all (k ∷ ks) [] = ⊥
AreKinds file all (k ∷ ks) (r ∷ rs) = IsKind file all k r × AreKinds file all ks rs

-- all rules are within the limits, and all states have at most 16 words
abbrev pub AreWithin : List KindRules → Type 0
AreWithin [] = Unit {0}
AreWithin (r ∷ rs) = (IsWithin r.start × IsWithin r.handle × (r.width ≤ 16)) × AreWithin rs

-- the most words of a state
abbrev pub widest : ℕ → List KindRules → ℕ
widest n [] = n
widest n (r ∷ rs) = widest (max n r.width) rs

-- 4. One rule for the processes of all kinds: the block of the first kind whose end is above the
-- process

abbrev pub IsBelow : ℕ → Expression → Type 0
IsBelow end e = tree_of e ≡ Two Below (Read Process) (Number end)

abbrev pub IsByKind : (KindRules → List Statement) → List KindRules → List Statement → Type 0
IsByKind rule [] whole = whole ≡ []
IsByKind rule (r ∷ rs) whole =
    (e : Expression) × (block rest : Vec Statement Global) × (whole ≡ If e block rest ∷ [])
    × IsBelow r.end e × (block.items ≡ rule r) × IsByKind rule rs rest.items

-- the kind and its rules stand at the same place of two lists
abbrev pub IsPair : Kind × Members → KindRules → List (Kind × Members) → List KindRules → Type 0
IsPair k r [] rs = ⊥
IsPair k r (j ∷ js) [] = ⊥
IsPair k r (j ∷ js) (s ∷ ss) = ((k ≡ j) × (r ≡ s)) ⊎ IsPair k r js ss

-- running the rule for all kinds in a process of a kind is running the rule of the kind
abbrev pub RunsItsKind : Type 0
RunsItsKind =
    (rule : KindRules → List Statement) (file : Members) (kinds : List (Kind × Members))
    (rules : List KindRules) (whole : List Statement) (k : Kind × Members) (r : KindRules)
    (tables : List (List ℕ)) (p : Progress) →
    kinds_of file ≡ Some kinds → AreKinds file kinds kinds rules → IsByKind rule rules whole →
    IsPair k r kinds rules → k.0.first ≤ p.context.process →
    p.context.process < k.0.first + k.0.count →
    after_all tables whole p ≡ after_all tables (rule r) p

-- 5. Whether the rules of each kind can be read

abbrev pub text_is_short : Option (List ℕ) → Parts → Bool
text_is_short None p = false
text_is_short (Some text) p = is_short_rule p text

abbrev pub short_rule_fits : List ℕ → Members → Parts → Bool
short_rule_fits key t p = text_is_short (text_in key t) p

abbrev pub both_fit : Option Parts → Members → Bool
both_fit None t = false
both_fit (Some p) t = short_rule_fits (codes "start") t p && short_rule_fits (codes "handle") t p

abbrev pub kind_fits : Members → List (Kind × Members) → Kind × Members → Bool
kind_fits file all k = both_fit (parts_in (setting all k.0) file k.1) k.1

abbrev pub all_fit : Members → List (Kind × Members) → List (Kind × Members) → Bool
all_fit file all [] = true
all_fit file all (k ∷ ks) = kind_fits file all k && all_fit file all ks
