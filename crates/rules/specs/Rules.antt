-- The meaning of a model that is described by rules.
use Rattle.std.specs.Prelude.{All, ◌≡◌, ℕ, ◌^◌, ◌<◌, ◌≤◌, List, [], ◌∷◌, ◌++◌, Option, Some, None}
use Rattle.std.specs.Prelude.{drop, length, replicate, slice_index, slice_set, take}
use Rattle.eventkey.specs.Message.{Message}
use Rattle.model.specs.Meaning.{Meaning}
use Rattle.models.specs.Words.{next_key}
use Rattle.rules.specs.Effects.{Progress, after_all}
use Rattle.rules.specs.Limits.{IsWithin}
use Rattle.rules.specs.declared.limits.TheConstants.{MAX_LPS}
use Rattle.rules.specs.declared.parts.RulesParts.{RulesParts}
use Rattle.rules.specs.declared.tree.Statement.{Statement}

-- the parts of such a model, its tables and rules as lists
pub record Description : Type 0 where
  pub lps : ℕ
  pub digest : List ℕ  -- of what the description means
  pub width : ℕ  -- the number of words of a state
  pub key : Option ℕ  -- the place of the key of drawn words, if the state has it
  pub seed : ℕ  -- the first key
  pub tables : List (List ℕ)
  pub start : List Statement  -- what a process does when it starts
  pub handle : List Statement  -- what it does with a message

abbrev pub description_of : RulesParts → Description
description_of p = record {
  lps = p.lps;
  digest = p.digest;
  width = p.width;
  key = p.key;
  seed = p.seed;
  tables = p.tables.items;
  start = p.start.items;
  handle = p.handle.items;
}

pub record IsDescription (d : Description) : Type 0 where
  pub some : 1 ≤ d.lps
  pub few : d.lps ≤ MAX_LPS
  pub digest_four : length d.digest ≡ 4
  pub digest_fits : All (λ word. word < 2 ^ 64) d.digest
  pub seed_fits : d.seed < 2 ^ 63
  pub width_fits : d.width ≤ 16
  pub start : IsWithin d.start
  pub handle : IsWithin d.handle

-- a description whose numbers and rules are within the limits
pub record GoodRules : Type 0 where
  pub description : Description
  pub good : IsDescription description

-- the words of a state, where a missing word counts as 0
abbrev pub padded : List ℕ → List ℕ
padded state = state ++ drop (length state) (replicate 16 0)

-- the key among the words of a state
abbrev pub key_in : Option ℕ → List ℕ → ℕ
key_in None words = 0
key_in (Some place) words = slice_index words place

abbrev pub with_key : Option ℕ → ℕ → List ℕ → List ℕ
with_key None key words = words
with_key (Some place) key words = slice_set words place key

-- before the first statement of a rule
abbrev pub opening : Description → ℕ → ℕ → ℕ → List ℕ → List ℕ → Progress
opening d lp sender time content words = record {
  context = record {
    processes = d.lps;
    process = lp;
    sender = sender;
    time = time;
    content = content;
    key = key_in d.key words;
    words = words;
    locals = replicate 16 0;
  };
  drawn = 0;
  sends = [];
}

-- after the rule for the start: the time and the content are 0, the sender is the process itself,
-- and each word is 0 except the key, which is the seed
abbrev pub started : Description → ℕ → Progress
started d lp = after_all d.tables d.start
    (opening d lp lp 0 (0 ∷ 0 ∷ 0 ∷ 0 ∷ []) (with_key d.key d.seed (replicate 16 0)))

-- after the rule for a message
abbrev pub handled : Description → ℕ → List ℕ → Message → Progress
handled d lp state x = after_all d.tables d.handle
    (opening d lp x.from x.time (x.a ∷ x.b ∷ x.c ∷ x.d ∷ []) (padded state))

-- the state after a rule: all words, with a new key from the next two drawn words
abbrev pub ended : Description → Progress → List ℕ
ended d p = take d.width
    (with_key d.key (next_key p.context.key p.context.process p.drawn) p.context.words)

abbrev pub rules_meaning : Description → Meaning
rules_meaning d = record {
  lps = d.lps;
  identity = 102 ∷ d.digest;
  origin = None;
  start_state = λ lp. ended d (started d lp);
  start_sends = λ lp. (started d lp).sends;
  next_state = λ lp state x. ended d (handled d lp state x);
  sends = λ lp state x. (handled d lp state x).sends;
}
