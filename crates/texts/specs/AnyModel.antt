-- Model files of this project's models: which table describes a model, with
-- exactly its keys; the mistakes in other tables; and what `check` prints of a model.
use Rattle.std.specs.Prelude.{◌≡◌, ℕ, ◌*◌, ◌-◌, ◌^◌, List, [], ◌∷◌, ◌++◌, Option, Some, None, codes}
use Rattle.std.specs.Prelude.{decimal}
use Rattle.std.specs.Prelude.{false, if◌then◌else◌, nat_eq, option_and_then, unwrap_or}
use Rattle.std.specs.Cmp.Lexicographic.{pointwise}
use Rattle.models.specs.JobShop.{Shop}
use Rattle.models.specs.Phold.{Hold}
use Rattle.models.specs.Ring.{Ring}
use Rattle.models.specs.declared.any_model.AnyModel.{AnyModel}
use Rattle.models.specs.declared.any_model.AnyModel.TheVariants.{JobShop, Phold, TokenRing}
use Rattle.texts.specs.ModelFile.{NumberKey, Wrong, number_at, number_key, numbers_from}
use Rattle.texts.specs.ModelFile.{numbers_wrong}
use Rattle.texts.specs.ModelFile.{unknown_wrong, words_wrong}
use Rattle.toml.specs.Data.{Members, as_str, get_member, string}

-- the keys of each model

abbrev pub ring_keys : List (List ℕ)
ring_keys = codes "model" ∷ codes "lps" ∷ codes "end" ∷ codes "hold" ∷ codes "tokens" ∷ []

abbrev pub hold_keys : List (List ℕ)
hold_keys =
    codes "model" ∷ codes "lps" ∷ codes "end" ∷ codes "population" ∷ codes "spread" ∷ codes "seed"
    ∷ []

abbrev pub shop_keys : List (List ℕ)
shop_keys =
    codes "model" ∷ codes "lps" ∷ codes "end" ∷ codes "jobs" ∷ codes "service" ∷ codes "seed" ∷ []

-- the table describes this token ring and a run to this end: these five keys and no others
pub record IsRingTable (table : Members) (r : Ring) (end : ℕ) : Type 0 where
  pub model : get_member (codes "model") table ≡ Some (string (codes "ring"))
  pub lps : number_at (codes "lps") 1 1024 table ≡ Some r.lps
  pub last : number_at (codes "end") 1 (2 ^ 40) table ≡ Some end
  pub hold : number_at (codes "hold") 1 (2 ^ 32 - 1) table ≡ Some r.hold
  pub tokens : number_at (codes "tokens") 1 (8 * r.lps) table ≡ Some r.tokens
  pub only : unknown_wrong ring_keys table ≡ []

-- the table describes this PHOLD and a run to this end: these six keys and no others
pub record IsHoldTable (table : Members) (h : Hold) (end : ℕ) : Type 0 where
  pub model : get_member (codes "model") table ≡ Some (string (codes "phold"))
  pub lps : number_at (codes "lps") 1 1024 table ≡ Some h.lps
  pub last : number_at (codes "end") 1 (2 ^ 40) table ≡ Some end
  pub population : number_at (codes "population") 1 8 table ≡ Some h.population
  pub spread : number_at (codes "spread") 1 (2 ^ 32 - 1) table ≡ Some h.spread
  pub seed : number_at (codes "seed") 0 (2 ^ 63 - 1) table ≡ Some h.seed
  pub only : unknown_wrong hold_keys table ≡ []

-- the table describes this job shop and a run to this end: these six keys and no others
pub record IsShopTable (table : Members) (s : Shop) (end : ℕ) : Type 0 where
  pub model : get_member (codes "model") table ≡ Some (string (codes "jobshop"))
  pub lps : number_at (codes "lps") 1 1024 table ≡ Some s.lps
  pub last : number_at (codes "end") 1 (2 ^ 40) table ≡ Some end
  pub jobs : number_at (codes "jobs") 1 8 table ≡ Some s.jobs
  pub service : number_at (codes "service") 1 (2 ^ 32 - 1) table ≡ Some s.service
  pub seed : number_at (codes "seed") 0 (2 ^ 63 - 1) table ≡ Some s.seed
  pub only : unknown_wrong shop_keys table ≡ []

abbrev pub IsTableOf : Members → AnyModel → ℕ → Type 0
IsTableOf table (TokenRing r) end = IsRingTable table r.ring end
IsTableOf table (Phold h) end = IsHoldTable table h.hold end
IsTableOf table (JobShop s) end = IsShopTable table s.shop end

-- the keys with numbers of each model, beginning with those that all models have

abbrev pub common_numbers : List NumberKey
common_numbers = number_key (codes "lps") 1 1024 ∷ number_key (codes "end") 1 (2 ^ 40) ∷ []

-- the most tokens that are allowed; without a valid number of processes, those of the largest ring
abbrev pub most_tokens : Members → ℕ
most_tokens table = 8 * unwrap_or (number_at (codes "lps") 1 1024 table) 1024

abbrev pub ring_numbers : Members → List NumberKey
ring_numbers table = common_numbers
    ++ number_key (codes "hold") 1 (2 ^ 32 - 1)
    ∷ number_key (codes "tokens") 1 (most_tokens table) ∷ []

abbrev pub hold_numbers : List NumberKey
hold_numbers = common_numbers
    ++ number_key (codes "population") 1 8
    ∷ number_key (codes "spread") 1 (2 ^ 32 - 1)
    ∷ number_key (codes "seed") 0 (2 ^ 63 - 1) ∷ []

abbrev pub shop_numbers : List NumberKey
shop_numbers = common_numbers
    ++ number_key (codes "jobs") 1 8
    ∷ number_key (codes "service") 1 (2 ^ 32 - 1)
    ∷ number_key (codes "seed") 0 (2 ^ 63 - 1) ∷ []

-- the mistakes in the table of each model

abbrev pub ring_wrong : Members → List Wrong
ring_wrong table = numbers_wrong (ring_numbers table) table ++ unknown_wrong ring_keys table

abbrev pub hold_wrong : Members → List Wrong
hold_wrong table = numbers_wrong hold_numbers table ++ unknown_wrong hold_keys table

abbrev pub shop_wrong : Members → List Wrong
shop_wrong table = numbers_wrong shop_numbers table ++ unknown_wrong shop_keys table

-- the mistakes in a table that names no model: only the keys that all models have are known. The
-- text lists the models.
abbrev pub kindless_wrong : List ℕ → Members → List Wrong
kindless_wrong kinds table = numbers_from
    (words_wrong false (codes "model") kinds table)
    common_numbers table

-- the model that a table names
abbrev pub kind_of : Members → Option (List ℕ)
kind_of table = option_and_then as_str (get_member (codes "model") table)

abbrev pub kind_wrong : List ℕ → Option (List ℕ) → Members → List Wrong
kind_wrong kinds None table = kindless_wrong kinds table
kind_wrong kinds (Some name) table =
    if pointwise nat_eq name (codes "ring") then ring_wrong table
    else (if pointwise nat_eq name (codes "phold") then hold_wrong table
    else (if pointwise nat_eq name (codes "jobshop") then shop_wrong table
    else kindless_wrong kinds table))

-- the mistakes in the table of a model file, of a program whose models this text lists
abbrev pub wrong_among : List ℕ → Members → List Wrong
wrong_among kinds table = kind_wrong kinds (kind_of table) table

-- the mistakes in the table of a model file
abbrev pub any_wrong : Members → List Wrong
any_wrong table = wrong_among (codes "\"ring\", \"phold\" or \"jobshop\"") table

-- a line `key: value` before the rest
abbrev pub line_then : List ℕ → ℕ → List ℕ → List ℕ
line_then key value rest = key ++ (codes ": " ++ (decimal value ++ (codes "\n" ++ rest)))

-- the lines of the values that all models have, before the rest
abbrev pub values_then : ℕ → ℕ → List ℕ → List ℕ
values_then lps end rest = line_then (codes "lps") lps (line_then (codes "end") end rest)

-- the lines that `check` prints of a model and its end
abbrev pub model_text : AnyModel → ℕ → List ℕ
model_text (TokenRing r) end =
    codes "model: ring\n" ++ values_then r.ring.lps end
    (line_then (codes "hold") r.ring.hold (line_then (codes "tokens") r.ring.tokens []))
model_text (Phold h) end =
    codes "model: phold\n" ++ values_then h.hold.lps end
    (line_then (codes "population") h.hold.population
    (line_then (codes "spread") h.hold.spread (line_then (codes "seed") h.hold.seed [])))
model_text (JobShop s) end =
    codes "model: jobshop\n" ++ values_then s.shop.lps end
    (line_then (codes "jobs") s.shop.jobs
    (line_then (codes "service") s.shop.service (line_then (codes "seed") s.shop.seed [])))
