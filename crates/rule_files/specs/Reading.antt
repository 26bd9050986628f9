-- Which text spells which rule, by the names that a model file gives.
use Rattle.std.specs.Prelude.{ℕ, ◌+◌, ◌*◌, List, [], ◌∷◌, ◌++◌, Option, Some, None, Bool, false}
use Rattle.std.specs.Prelude.{◌&&◌, drop, if◌then◌else◌, length, map, max, nat_le}
use Rattle.std.specs.List.{list_any}
use Rattle.rule_files.specs.Grammar.{Tree, Number, Word, Content, Local, Read, Not, Two, Entry, Draw}
use Rattle.rule_files.specs.Grammar.{Normal, Triangular, Choose, Element}
use Rattle.rule_files.specs.Names.{is_key, is_name}
use Rattle.rule_files.specs.RuleFile.{Kind, Parts, other_names}
use Rattle.rule_files.specs.Scopes.{Dictionary, token_meant}
use Rattle.rule_files.specs.Statements.{Act, Acts, Let, Set, Send, If, Repeat, RepeatUntil, Put, empty, cons}
use Rattle.rule_files.specs.Statements.{acts_of}
use Rattle.rule_files.specs.Texts.{IsRule, read_at}
use Rattle.rule_files.specs.declared.grammar.scope.Meaning.TheVariants as w
use Rattle.rule_files.specs.declared.grammar.token.Token.{Token}
use Rattle.rule_files.specs.declared.grammar.token.Token.TheVariants as t
use Rattle.rules.specs.declared.arrays.Array.{Array}
use Rattle.rules.specs.Costs.{draw_cost, send_cost, step_cost}
use Rattle.rules.specs.declared.limits.Limit.{Limit}
use Rattle.rules.specs.declared.limits.Limit.TheVariants.{Draws, Sends, Steps}
use Rattle.rules.specs.declared.limits.TheConstants.{MAX_DRAWS, MAX_SENDS, MAX_STEPS}
use Rattle.rules.specs.declared.tree.Statement.{Statement}

-- 1. What the names of a file mean

-- the words of the state, by their places; the key and the words of arrays have a place but no name
abbrev pub words_from : ℕ → List (List ℕ) → List (List ℕ × Token)
words_from i [] = []
words_from i (word ∷ words) =
    if is_name word then (word, t.Word i) ∷ words_from (i + 1) words else words_from (i + 1) words

-- the words of content, by their places
abbrev pub content_from : ℕ → List (List ℕ) → List (List ℕ × Token)
content_from i [] = []
content_from i (name ∷ names) = (name, t.Content i) ∷ content_from (i + 1) names

-- the tables, by their places
abbrev pub tables_from : ℕ → List (List ℕ × List ℕ) → List (List ℕ × Token)
tables_from i [] = []
tables_from i (table ∷ tables) = (table.0, t.Table i) ∷ tables_from (i + 1) tables

abbrev pub value_of : List ℕ → ℕ
value_of [] = 0
value_of (n ∷ ns) = n

abbrev pub number_names : List (List ℕ × List ℕ) → List (List ℕ × Token)
number_names ns = map (λ n. (n.0, t.Number (value_of n.1))) ns

abbrev pub array_names : List (List ℕ × Array) → List (List ℕ × Token)
array_names arrays = map (λ a. (a.0, t.Array a.1)) arrays

-- the sorts of messages, by their numbers, and how many words each has after its number
abbrev pub sorts_from : ℕ → List (List ℕ × List (List ℕ)) → List (List ℕ × Token)
sorts_from i [] = []
sorts_from i (sort ∷ sorts) = (sort.0, token_meant (w.Sort i (length sort.1))) ∷ sorts_from (i + 1) sorts

abbrev pub field_names : List (List ℕ × ℕ) → List (List ℕ × Token)
field_names fields = map (λ f. (f.0, t.Content f.1)) fields

abbrev pub kind_names : List Kind → List (List ℕ × Token)
kind_names kinds = map (λ k. (k.name, token_meant (w.Kind k.first k.count))) kinds

-- all names; rules may draw if the state has a key, and `self` is the place within the own kind
abbrev pub dictionary : Parts → Dictionary
dictionary p = record {
  draws = list_any is_key p.words;
  own = p.own;
  entries =
      (((((((words_from 0 p.words ++ content_from 0 p.content)
      ++ content_from (length p.content) (drop (length p.content) other_names))
      ++ number_names p.numbers)
      ++ tables_from 0 p.tables)
      ++ array_names p.arrays)
      ++ sorts_from 0 p.sorts)
      ++ field_names p.fields)
      ++ kind_names p.kinds;
}

-- the text spells this rule, by these names
unfoldable pub Spells : Parts → List ℕ → List Statement → Type 0
Spells parts text rule = IsRule (dictionary parts) text (acts_of rule)

-- 2. Whether a text is a rule within the limits

-- the costs of what a text spells, which are those of its trees
abbrev pub tree_cost : Limit → Tree → ℕ
tree_cost c (Number n) = step_cost c
tree_cost c (Word i) = step_cost c
tree_cost c (Content i) = step_cost c
tree_cost c (Local i) = step_cost c
tree_cost c (Read known) = step_cost c
tree_cost c (Not x) = step_cost c + tree_cost c x
tree_cost c (Two o x y) = step_cost c + tree_cost c x + tree_cost c y
tree_cost c (Entry table x) = step_cost c + tree_cost c x
tree_cost c (Draw law x) = draw_cost c + tree_cost c x
tree_cost c (Normal x y) = draw_cost c + tree_cost c x + tree_cost c y
tree_cost c (Triangular x y z) =
    draw_cost c + draw_cost c + tree_cost c x + tree_cost c y + tree_cost c z
tree_cost c (Choose table) = draw_cost c
tree_cost c (Element array x) = step_cost c + tree_cost c x

abbrev mutual
  pub act_cost : Limit → Act → ℕ
  act_cost c (Let i x) = step_cost c + tree_cost c x
  act_cost c (Set i x) = step_cost c + tree_cost c x
  act_cost c (Send to after four) =
      send_cost c
      + (tree_cost c to + tree_cost c after + tree_cost c four.a + tree_cost c four.b + tree_cost c four.c + tree_cost c four.d)
  act_cost c (If x met unmet) =
      step_cost c + tree_cost c x + max (acts_cost c met) (acts_cost c unmet)
  act_cost c (Repeat i n body) = step_cost c + n * (step_cost c + acts_cost c body)
  act_cost c (RepeatUntil i n x body) =
      step_cost c + n * (step_cost c + tree_cost c x + acts_cost c body)
  act_cost c (Put array i x) = step_cost c + tree_cost c i + tree_cost c x

  pub acts_cost : Limit → Acts → ℕ
  acts_cost c empty = 0
  acts_cost c (cons x rest) = act_cost c x + acts_cost c rest

abbrev pub are_within : Option Acts → Bool
are_within None = false
are_within (Some acts) =
    nat_le (acts_cost Sends acts) MAX_SENDS
    && (nat_le (acts_cost Draws acts) MAX_DRAWS && nat_le (acts_cost Steps acts) MAX_STEPS)

-- the text spells a rule within the limits
unfoldable pub is_rule : Parts → List ℕ → Bool
is_rule parts text = are_within (read_at (dictionary parts) text)

-- 3. The rule of a kind of processes. It has 256 steps less, so that the choice of the kind, four
-- steps for each of at most 64 kinds, stays within the limits.

abbrev pub MOST_STEPS : ℕ
MOST_STEPS = 65280

abbrev pub are_short : Option Acts → Bool
are_short None = false
are_short (Some acts) = are_within (Some acts) && nat_le (acts_cost Steps acts) MOST_STEPS

unfoldable pub is_short_rule : Parts → List ℕ → Bool
is_short_rule parts text = are_short (read_at (dictionary parts) text)
