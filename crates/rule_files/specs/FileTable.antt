-- Model files of all models: which table describes a model, the mistakes
-- in other tables, and what `check` prints of a model.
use Rattle.std.specs.Prelude.{◌≡◌, ℕ, ◌-◌, ◌^◌, ◌==◌, ◌&&◌, ◌||◌, List, [], ◌∷◌, ◌++◌}
use Rattle.std.specs.Prelude.{Bool, true, false, Option, Some, None, codes, if◌then◌else◌, is_some}
use Rattle.std.specs.Prelude.{length, map, nat_eq, not, option_and_then}
use Rattle.std.specs.Cmp.Lexicographic.{pointwise}
use Rattle.rule_files.specs.Arrays.{key_from}
use Rattle.rule_files.specs.Digest.{IsLimited, digest_words, meant, state_words}
use Rattle.rule_files.specs.Kinds.{AreKinds, IsByKind, IsRuleAt, KindRules, all_fit, count_of}
use Rattle.rule_files.specs.Kinds.{has_kinds, is_keyed, key_place, kind_keys, kind_tables, kinds_of}
use Rattle.rule_files.specs.Kinds.{name_of, processes_from, setting, short_rule_fits, text_in}
use Rattle.rule_files.specs.Kinds.{widest}
use Rattle.rule_files.specs.Printed.{with_kinds_model, with_model}
use Rattle.rule_files.specs.Reading.{is_rule}
use Rattle.rule_files.specs.RuleFile.{Kind, Parts, content_of, has_sorts, numbers_of, parts_in}
use Rattle.rule_files.specs.RuleFile.{parts_of, sorts_of, state_of, tables_of}
use Rattle.rule_files.specs.declared.file_model.FileModel.{FileModel}
use Rattle.rule_files.specs.declared.file_model.FileNames.{FileNames}
use Rattle.rule_files.specs.declared.file_model.Form.{Form}
use Rattle.rule_files.specs.declared.file_model.Form.TheVariants.{Alone, Kinds}
use Rattle.rule_files.specs.declared.file_model.KindNames.{KindNames}
use Rattle.rule_files.specs.declared.file_model.FileModel.TheVariants.{BuiltIn, Rules}
use Rattle.rules.specs.Limits.{IsWithin}
use Rattle.rules.specs.Rules.{Description}
use Rattle.texts.specs.AnyModel.{IsTableOf, kind_of, line_then, model_text, wrong_among}
use Rattle.texts.specs.ModelFile.{Wrong, number_at, number_key, numbers_wrong, unknown_wrong}
use Rattle.texts.specs.ModelFile.{words_wrong}
use Rattle.toml.specs.Data.{Members, as_table, get_member}

-- 1. The parts of a table

-- the place of the key among the words of the state
abbrev pub key_of : Parts → Option ℕ
key_of p = key_from 0 p.words

-- the seed, which is there exactly if the state has the key
abbrev pub seed_of : Option ℕ → Members → Option ℕ
seed_of None t = if is_some (get_member (codes "seed") t) then None else Some 0
seed_of (Some place) t = number_at (codes "seed") 0 (2 ^ 63 - 1) t

abbrev pub rule_keys : List (List ℕ)
rule_keys = codes "start" ∷ codes "handle" ∷ []

-- the table of the two rules, with exactly these keys
abbrev pub two_rules : Members → Option Members
two_rules t = if length (unknown_wrong rule_keys t) == 0 then Some t else None

unfoldable pub rules_of : Members → Option Members
rules_of t = option_and_then two_rules (option_and_then as_table (get_member (codes "rules") t))

-- the body of a table describes these rules
pub record IsBody (table : Members) (d : Description) : Type 0 where
  pub parts : Parts
  pub rules : Members
  pub parts_are : parts_of table ≡ Some parts
  pub rules_are : rules_of table ≡ Some rules
  pub width : d.width ≡ length parts.words
  pub key : d.key ≡ key_of parts
  pub seed : seed_of (key_of parts) table ≡ Some d.seed
  pub tables : d.tables ≡ map (λ n. n.1) parts.tables
  pub start : IsRuleAt (codes "start") parts rules d.start
  pub handle : IsRuleAt (codes "handle") parts rules d.handle
  pub digest :
      d.digest ≡ digest_words (meant parts.words parts.arrays d.seed d.tables d.start d.handle)

abbrev pub rules_keys : List (List ℕ)
rules_keys =
    codes "model" ∷ codes "lps" ∷ codes "end" ∷ codes "seed" ∷ codes "message" ∷ codes "messages"
    ∷ codes "state" ∷ codes "numbers" ∷ codes "tables" ∷ codes "rules" ∷ []

-- whether the table has `model = "rules"`
abbrev pub is_rules_kind : Option (List ℕ) → Bool
is_rules_kind None = false
is_rules_kind (Some name) = pointwise nat_eq name (codes "rules")

unfoldable pub is_rules : Members → Bool
is_rules t = is_rules_kind (kind_of t)

-- the table describes this model by rules and a run to this end
pub record IsRulesTable (table : Members) (d : Description) (end : ℕ) : Type 0 where
  pub kind : is_rules table ≡ true
  pub lps : number_at (codes "lps") 1 65536 table ≡ Some d.lps
  pub last : number_at (codes "end") 1 (2 ^ 40) table ≡ Some end
  pub body : IsBody table d
  pub only : unknown_wrong rules_keys table ≡ []

-- the body of a table describes a model with kinds of processes
pub record IsKindsBody (table : Members) (d : Description) : Type 0 where
  pub kinds : List (Kind × Members)
  pub rules : List KindRules
  pub kinds_are : kinds_of table ≡ Some kinds
  pub are : AreKinds table kinds kinds rules
  pub lps : d.lps ≡ processes_from 0 kinds
  pub width : d.width ≡ widest 0 rules
  pub key : d.key ≡ key_place (is_keyed kinds)
  pub seed : seed_of (key_place (is_keyed kinds)) table ≡ Some d.seed
  pub named : List (List ℕ × List ℕ)
  pub named_are : tables_of table ≡ Some named
  pub tables : d.tables ≡ map (λ n. n.1) named
  pub start : IsByKind (λ r. r.start) rules d.start
  pub handle : IsByKind (λ r. r.handle) rules d.handle
  pub digest :
      d.digest ≡ digest_words (meant (state_words (is_keyed kinds) d.width) [] d.seed d.tables
      d.start d.handle)

abbrev pub kinds_keys : List (List ℕ)
kinds_keys =
    codes "model" ∷ codes "end" ∷ codes "seed" ∷ codes "messages" ∷ codes "numbers"
    ∷ codes "tables" ∷ codes "kind" ∷ []

-- the table describes this model with kinds of processes and a run to this end
pub record IsKindsTable (table : Members) (d : Description) (end : ℕ) : Type 0 where
  pub kind : is_rules table ≡ true
  pub last : number_at (codes "end") 1 (2 ^ 40) table ≡ Some end
  pub body : IsKindsBody table d
  pub only : unknown_wrong kinds_keys table ≡ []

-- the same, of a table with kinds or without
abbrev pub IsByForm : Bool → Members → Description → ℕ → Type 0
IsByForm false = IsRulesTable
IsByForm true = IsKindsTable

-- the table describes this model and a run to this end
abbrev pub IsFileTable : Members → FileModel → ℕ → Type 0
IsFileTable table (BuiltIn m) end = IsTableOf table m end
IsFileTable table (Rules r names) end = IsByForm (has_kinds table) table r.description end

-- the limits of a file are those by which the digest of its model tells what it means
abbrev pub FilesKeepLimits : Type 0
FilesKeepLimits =
    (table : Members) (d : Description) → IsWithin d.start → (body : IsBody table d) →
    IsLimited (meant body.parts.words body.parts.arrays d.seed d.tables d.start d.handle)

abbrev pub KindsKeepLimits : Type 0
KindsKeepLimits =
    (table : Members) (d : Description) → IsWithin d.start → (body : IsKindsBody table d) →
    IsLimited (meant (state_words (is_keyed body.kinds) d.width) [] d.seed d.tables d.start d.handle)

-- 2. The mistakes in a table

abbrev pub text_fits : Option (List ℕ) → Parts → Bool
text_fits None p = false
text_fits (Some text) p = is_rule p text

-- whether a rule can be read
abbrev pub rule_fits : List ℕ → Members → Parts → Bool
rule_fits key rules p = text_fits (text_in key rules) p

abbrev pub fits_names : Bool → Bool → Bool → Bool → Bool → Bool → Bool
fits_names distinct words content sorts numbers tables =
    distinct || not (words && (content && (sorts && (numbers && tables))))

-- no name is there twice, if all names can be read
abbrev pub names_fit : Members → Bool
names_fit t = fits_names (is_some (parts_of t)) (is_some (state_of t))
    (is_some (content_of (has_sorts t) t)) (is_some (sorts_of t)) (is_some (numbers_of t))
    (is_some (tables_of t))

-- whether the body of a table can be read
abbrev pub parts_fit : Option Parts → Option Members → Members → Bool
parts_fit None rules t = false
parts_fit (Some p) None t = false
parts_fit (Some p) (Some rules) t = is_some (seed_of (key_of p) t)
    && (rule_fits (codes "start") rules p && rule_fits (codes "handle") rules p)

abbrev pub body_fits : Members → Bool
body_fits t = parts_fit (parts_of t) (rules_of t) t

abbrev pub head_wrong : Members → List Wrong
head_wrong t =
    numbers_wrong (number_key (codes "lps") 1 65536 ∷ number_key (codes "end") 1 (2 ^ 40) ∷ []) t
    ++ unknown_wrong rules_keys t

abbrev pub words_of_wrong : Members → List Wrong
words_of_wrong t =
    words_wrong (is_some (state_of t)) (codes "state") (codes "a list of names and arrays, at most 16 words") t

abbrev pub content_wrong : Bool → Members → List Wrong
content_wrong sorted t =
    words_wrong (is_some (content_of sorted t)) (codes "message") (codes "a list of at most 4 names") t

abbrev pub sorts_wrong : Members → List Wrong
sorts_wrong t = words_wrong (is_some (sorts_of t)) (codes "messages")
    (codes "at most 1024 names with lists of at most 3 names, each at one place") t

abbrev pub numbers_of_wrong : Members → List Wrong
numbers_of_wrong t = words_wrong (is_some (numbers_of t)) (codes "numbers")
    (codes "at most 1024 names with numbers from 0 to 9223372036854775807") t

abbrev pub tables_wrong : Members → List Wrong
tables_wrong t = words_wrong (is_some (tables_of t)) (codes "tables")
    (codes "at most 1024 names with lists of one or more numbers, at most 1048576 in all") t

abbrev pub twice_wrong : Bool → Members → List Wrong
twice_wrong right t = words_wrong right (codes "state")
    (codes "names that are nowhere else in state, message, numbers and tables") t

abbrev pub names_wrong : Members → List Wrong
names_wrong t =
    words_of_wrong t ++ content_wrong (has_sorts t) t ++ sorts_wrong t ++ numbers_of_wrong t
    ++ tables_wrong t ++ twice_wrong (names_fit t) t

abbrev pub seed_wrong : Option Parts → Members → List Wrong
seed_wrong None t = []
seed_wrong (Some p) t = words_wrong (is_some (seed_of (key_of p) t)) (codes "seed")
    (codes "a whole number from 0 to 9223372036854775807 if the state has key, otherwise nothing") t

abbrev pub rule_wrong : List ℕ → Members → Parts → List Wrong
rule_wrong key rules p =
    words_wrong (rule_fits key rules p) key (codes "a rule of at most 65536 bytes") rules

-- the rules are judged if the names can be read
abbrev pub rules_wrong : Option Parts → Option Members → List Wrong
rules_wrong None rules = []
rules_wrong (Some p) None = []
rules_wrong (Some p) (Some rules) =
    rule_wrong (codes "start") rules p ++ rule_wrong (codes "handle") rules p

abbrev pub rest_of : Option Parts → Option Members → Members → List Wrong
rest_of p rules t =
    seed_wrong p t
    ++ words_wrong (is_some rules) (codes "rules") (codes "a table with the texts start and handle")
    t
    ++ rules_wrong p rules

-- the mistakes in the seed and the rules
abbrev pub rest_wrong : Members → List Wrong
rest_wrong t = rest_of (parts_of t) (rules_of t) t

abbrev pub rules_table_wrong : Members → List Wrong
rules_table_wrong t =
    numbers_wrong (number_key (codes "lps") 1 65536 ∷ number_key (codes "end") 1 (2 ^ 40) ∷ []) t
    ++ names_wrong t ++ rest_wrong t ++ unknown_wrong rules_keys t

-- the mistakes in the table of a kind alone
abbrev pub kind_wrong : Bool → Members → List Wrong
kind_wrong sorted t =
    words_wrong (is_some (name_of t)) (codes "name") (codes "a name") t
    ++ words_wrong (is_some (count_of t)) (codes "count") (codes "a whole number from 1 to 65536") t
    ++ words_of_wrong t ++ content_wrong sorted t ++ unknown_wrong kind_keys t

abbrev pub each_wrong : Bool → List Members → List Wrong
each_wrong sorted [] = []
each_wrong sorted (t ∷ ts) = kind_wrong sorted t ++ each_wrong sorted ts

abbrev pub heads_of : Option (List Members) → Members → List Wrong
heads_of None t = words_wrong false (codes "kind") (codes "1 to 64 tables") t
heads_of (Some ts) t = each_wrong (has_sorts t) ts

-- the mistakes beside those of the rules
abbrev pub kinds_head_wrong : Members → List Wrong
kinds_head_wrong t =
    numbers_wrong (number_key (codes "end") 1 (2 ^ 40) ∷ []) t ++ sorts_wrong t
    ++ numbers_of_wrong t ++ tables_wrong t ++ heads_of (kind_tables t) t
    ++ unknown_wrong kinds_keys t

abbrev pub kind_seed_wrong : Bool → Members → List Wrong
kind_seed_wrong keyed t = words_wrong (is_some (seed_of (key_place keyed) t)) (codes "seed")
    (codes "a whole number from 0 to 9223372036854775807 if the state has key, otherwise nothing") t

abbrev pub short_wrong : List ℕ → Members → Parts → List Wrong
short_wrong key t p =
    words_wrong (short_rule_fits key t p) key (codes "a rule of at most 65536 bytes") t

-- the mistakes in the rules of a kind, or in its names where they are not apart
abbrev pub both_wrong : Option Parts → Members → List Wrong
both_wrong None t = words_wrong false (codes "state")
    (codes "at most 16 words with the key, with names that are nowhere else") t
both_wrong (Some p) t = short_wrong (codes "start") t p ++ short_wrong (codes "handle") t p

abbrev pub all_wrong : Members → List (Kind × Members) → List (Kind × Members) → List Wrong
all_wrong file all [] = []
all_wrong file all (k ∷ ks) =
    both_wrong (parts_in (setting all k.0) file k.1) k.1 ++ all_wrong file all ks

abbrev pub kinds_rest_of : Option (List (Kind × Members)) → Members → List Wrong
kinds_rest_of None t =
    words_wrong false (codes "kind") (codes "tables with at most 65536 processes in all") t
kinds_rest_of (Some kinds) t = kind_seed_wrong (is_keyed kinds) t ++ all_wrong t kinds kinds

-- the seed and the rules are judged if there is no mistake beside them
abbrev pub kinds_table_wrong : Members → List Wrong
kinds_table_wrong t =
    if length (kinds_head_wrong t) == 0 then kinds_rest_of (kinds_of t) t else kinds_head_wrong t

-- whether the body of a table with kinds can be read
abbrev pub kinds_fit_by : Option (List (Kind × Members)) → Members → Bool
kinds_fit_by None t = false
kinds_fit_by (Some kinds) t = is_some (seed_of (key_place (is_keyed kinds)) t)
    && (is_some (tables_of t) && all_fit t kinds kinds)

abbrev pub kinds_fit : Members → Bool
kinds_fit t = kinds_fit_by (kinds_of t) t

abbrev pub form_wrong : Bool → Members → List Wrong
form_wrong false = rules_table_wrong
form_wrong true = kinds_table_wrong

-- the mistakes in the table of a model file
abbrev pub file_wrong : Members → List Wrong
file_wrong t =
    if is_rules t then form_wrong (has_kinds t) t
    else wrong_among (codes "\"ring\", \"phold\", \"jobshop\" or \"rules\"") t

-- 3. What `check` prints

-- the first lines of a model by rules and its end
abbrev pub head_text : Description → ℕ → List ℕ
head_text d end =
    codes "model: rules\n" ++ line_then (codes "lps") d.lps (line_then (codes "end") end
    (line_then (codes "words of state") d.width
    (line_then (codes "tables") (length d.tables) [])))

-- these, and then its names, its tables and its rules
abbrev pub rules_text : Description → FileNames → ℕ → List ℕ
rules_text d names end = with_model names d (head_text d end)

-- the same, kind by kind
abbrev pub kinds_text : Description → List KindNames → ℕ → List ℕ
kinds_text d kinds end = with_kinds_model kinds d (head_text d end)

abbrev pub form_text : Description → Form → ℕ → List ℕ
form_text d (Alone names) end = rules_text d names end
form_text d (Kinds kinds) end = kinds_text d kinds.items end

abbrev pub file_text : FileModel → ℕ → List ℕ
file_text (BuiltIn m) end = model_text m end
file_text (Rules r names) end = form_text r.description names.form end
