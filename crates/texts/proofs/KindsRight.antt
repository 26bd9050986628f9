-- Tables of this project's models without mistakes.
use Rattle.std.proofs.Common.{◌≡◌, ℕ, ◌*◌, List, [], ◌++◌, false, cond, Option, Some, None, codes, ◌≤◌, nat_eq, refl, ap, subst, ◌∙◌, arith, inl, inr}
use Rattle.std.proofs.lemmas.Bool.{cases_Bool}
use Rattle.std.specs.Cmp.Lexicographic.{bytes_decides, pointwise}
use Rattle.models.specs.JobShop.{Shop}
use Rattle.models.specs.Phold.{Hold}
use Rattle.models.specs.Ring.{Ring}
use Rattle.models.specs.declared.any_model.AnyModel.{AnyModel}
use Rattle.models.specs.declared.any_model.AnyModel.TheVariants.{JobShop, Phold, TokenRing}
use Rattle.toml.specs.Data.{Members, get_member, string}
use Rattle.texts.specs.AnyModel.{IsHoldTable, IsRingTable, IsShopTable, IsTableOf, common_numbers, hold_keys, hold_numbers, hold_wrong, kind_of, kind_wrong, kindless_wrong, most_tokens, ring_keys, ring_numbers, ring_wrong, shop_keys, shop_numbers, shop_wrong, wrong_among}
use Rattle.texts.specs.ModelFile.{Wrong, number_at, numbers_wrong, unknown_wrong, words_wrong}
use Rattle.texts.proofs.Right.{before_numbers, none_before, none_behind, numbers_right, numbers_there, words_there}
use Rattle.texts.proofs.Tables.{is_string}

-- 1. A table that describes a model has no mistakes

tokens_most : (table : Members) (lps : ℕ) → number_at (codes "lps") 1 1024 table ≡ Some lps → most_tokens table ≡ 8 * lps
tokens_most table lps is = rw is refl

ring_right : (table : Members) (r : Ring) (end : ℕ) → IsRingTable table r end → ring_wrong table ≡ []
ring_right table r end h =
    let most = tokens_most table r.lps h.lps in
    let tokens : number_at (codes "tokens") 1 (most_tokens table) table ≡ Some r.tokens = rw most h.tokens in
    ap (λ l. l ++ unknown_wrong ring_keys table)
    (numbers_right (ring_numbers table) table ((r.lps, h.lps), ((end, h.last), ((r.hold, h.hold), ((r.tokens, tokens), tt))))) ∙ h.only

hold_right : (table : Members) (p : Hold) (end : ℕ) → IsHoldTable table p end → hold_wrong table ≡ []
hold_right table p end h =
    ap (λ l. l ++ unknown_wrong hold_keys table)
    (numbers_right hold_numbers table ((p.lps, h.lps), ((end, h.last), ((p.population, h.population), ((p.spread, h.spread), ((p.seed, h.seed), tt)))))) ∙ h.only

shop_right : (table : Members) (s : Shop) (end : ℕ) → IsShopTable table s end → shop_wrong table ≡ []
shop_right table s end h =
    ap (λ l. l ++ unknown_wrong shop_keys table)
    (numbers_right shop_numbers table ((s.lps, h.lps), ((end, h.last), ((s.jobs, h.jobs), ((s.service, h.service), ((s.seed, h.seed), tt)))))) ∙ h.only

kind_is : (kinds : List ℕ) (table : Members) (name : List ℕ) → get_member (codes "model") table ≡ Some (string name) → wrong_among kinds table ≡ kind_wrong kinds (Some name) table
kind_is kinds table name is = rw is refl

pub any_right : (kinds : List ℕ) (table : Members) (model : AnyModel) (end : ℕ) → IsTableOf table model end → wrong_among kinds table ≡ []
any_right kinds table (TokenRing r) end h = kind_is kinds table (codes "ring") h.model ∙ ring_right table r.ring end h
any_right kinds table (Phold p) end h = kind_is kinds table (codes "phold") h.model ∙ hold_right table p.hold end h
any_right kinds table (JobShop s) end h = kind_is kinds table (codes "jobshop") h.model ∙ shop_right table s.shop end h

-- 2. A table without mistakes describes a model

abbrev IsDescribed : Members → Type 0
IsDescribed table = (model : AnyModel) × (end : ℕ) × IsTableOf table model end

ring_there : (table : Members) → get_member (codes "model") table ≡ Some (string (codes "ring")) → ring_wrong table ≡ [] → IsDescribed table
ring_there table kind none =
    let numbers = numbers_wrong (ring_numbers table) table in
    let others = unknown_wrong ring_keys table in
    let ((lps, lps_is, some, few), ((end, end_is, begun, ended), ((held, hold_is, long, fits), ((tokens, tokens_is, some_tokens, few_tokens), all))))
    = numbers_there (ring_numbers table) table (none_before numbers others none) in
    let most = tokens_most table lps lps_is in (
      TokenRing (record {
        ring = record { lps = lps; hold = held; tokens = tokens };
        good = record { some = some; few = few; held = long; hold_fits = omega arith; some_tokens = some_tokens; few_tokens = subst (λ m. tokens ≤ m) most few_tokens };
      }),
      end,
      record {
        model = kind;
        lps = lps_is;
        last = end_is;
        hold = hold_is;
        tokens = subst (λ m. number_at (codes "tokens") 1 m table ≡ Some tokens) most tokens_is;
        only = none_behind numbers others none;
      },
    )

hold_there : (table : Members) → get_member (codes "model") table ≡ Some (string (codes "phold")) → hold_wrong table ≡ [] → IsDescribed table
hold_there table kind none =
    let numbers = numbers_wrong hold_numbers table in
    let others = unknown_wrong hold_keys table in
    let ((lps, lps_is, some, few), ((end, end_is, begun, ended), ((p, p_is, p_some, p_few), ((s, s_is, s_some, s_few), ((k, k_is, k_some, k_few), all)))))
    = numbers_there hold_numbers table (none_before numbers others none) in (
      Phold (record {
        hold = record { lps = lps; population = p; spread = s; seed = k };
        good = record { some = some; few = few; some_messages = p_some; few_messages = p_few; far = s_some; spread_fits = omega arith; seed_fits = omega arith };
      }),
      end,
      record { model = kind; lps = lps_is; last = end_is; population = p_is; spread = s_is; seed = k_is; only = none_behind numbers others none },
    )

shop_there : (table : Members) → get_member (codes "model") table ≡ Some (string (codes "jobshop")) → shop_wrong table ≡ [] → IsDescribed table
shop_there table kind none =
    let numbers = numbers_wrong shop_numbers table in
    let others = unknown_wrong shop_keys table in
    let ((lps, lps_is, some, few), ((end, end_is, begun, ended), ((j, j_is, j_some, j_few), ((s, s_is, s_some, s_few), ((k, k_is, k_some, k_few), all)))))
    = numbers_there shop_numbers table (none_before numbers others none) in (
      JobShop (record {
        shop = record { lps = lps; jobs = j; service = s; seed = k };
        good = record { some = some; few = few; some_jobs = j_some; few_jobs = j_few; some_service = s_some; service_fits = omega arith; seed_fits = omega arith };
      }),
      end,
      record { model = kind; lps = lps_is; last = end_is; jobs = j_is; service = s_is; seed = k_is; only = none_behind numbers others none },
    )

-- a table that names no model always has a mistake
kindless_there : (kinds : List ℕ) (table : Members) → kindless_wrong kinds table ≡ [] → IsDescribed table
kindless_there kinds table none =
    let e = words_there false (codes "model") kinds table (before_numbers (words_wrong false (codes "model") kinds table) common_numbers table none) in cc

module _ (table : Members) (name : List ℕ) (is : get_member (codes "model") table ≡ Some (string name)) where
  -- the name is the known one, or another one
  named : (known : List ℕ) (a b : List Wrong) → ((get_member (codes "model") table ≡ Some (string known)) → a ≡ [] → IsDescribed table) → (b ≡ [] → IsDescribed table)
      → cond (pointwise nat_eq name known) a b ≡ [] → IsDescribed table
  named known a b here there none =
      elim (cases_Bool (pointwise nat_eq name known)) [
        | inl same ↦ here (is ∙ ap (λ s. Some (string s)) ((bytes_decides name known).0 same)) (rw same at none)
        | inr other ↦ there (rw other at none)
      ]

  named_there : (kinds : List ℕ) → kind_wrong kinds (Some name) table ≡ [] → IsDescribed table
  named_there kinds none =
      named (codes "ring") (ring_wrong table) _ (ring_there table)
      (named (codes "phold") (hold_wrong table) _ (hold_there table)
      (named (codes "jobshop") (shop_wrong table) _ (shop_there table) (kindless_there kinds table))) none

by_kind : (kinds : List ℕ) (table : Members) (kind : Option (List ℕ)) → kind ≡ kind_of table → kind_wrong kinds kind table ≡ [] → IsDescribed table
by_kind kinds table None is none = kindless_there kinds table none
by_kind kinds table (Some name) is none = named_there table name (is_string (get_member (codes "model") table) name is) kinds none

pub any_there : (kinds : List ℕ) (table : Members) → wrong_among kinds table ≡ [] → IsDescribed table
any_there kinds table none = by_kind kinds table (kind_of table) refl none
