-- The digest by which models by rules are told apart: the SHA-256 of the bytes of what their files
-- mean. Each part has a fixed length or stands after its length, and each node of a tree after
-- its kind.
use Rattle.std.specs.Prelude.{◌≡◌, ◌≤◌, ◌<◌, ℕ, zero, suc, ◌^◌, List, [], ◌∷◌, ◌++◌, Bool, codes}
use Rattle.std.specs.Prelude.{drop, if◌then◌else◌, length, map, replicate, take}
use Rattle.std.specs.Int.{bytes_high_first, from_be_bytes, w64}
use Rattle.std.specs.List.{flat_map, AllByRecursion as Every}
use Rattle.sha2.specs.Sha256.{sha256}
use Rattle.rule_files.specs.Grammar.{Tree, Number, Word, Content, Local, Read, Not, Two, Entry, Draw}
use Rattle.rule_files.specs.Grammar.{Normal, Triangular, Choose, Element}
use Rattle.rule_files.specs.Names.{is_word}
use Rattle.rule_files.specs.Statements.{Act, Acts, Four, Let, Set, Send, If, Repeat, RepeatUntil, Put}
use Rattle.rule_files.specs.Statements.{acts_of, cons, empty}
use Rattle.rules.specs.declared.arrays.Array.{Array}
use Rattle.rules.specs.declared.tree.Known.{Known as Knowledge}
use Rattle.rules.specs.declared.tree.Known.TheVariants as k
use Rattle.rules.specs.declared.tree.Law.{Law}
use Rattle.rules.specs.declared.tree.Law.TheVariants as l
use Rattle.rules.specs.declared.tree.Operator.{Operator}
use Rattle.rules.specs.declared.tree.Operator.TheVariants as o
use Rattle.rules.specs.declared.tree.Statement.{Statement}

-- 1. Numbers and lists

-- eight bytes, the highest first
unfoldable pub number_bytes : ℕ → List ℕ
number_bytes n = bytes_high_first 8 n

-- after its length
abbrev pub text_bytes : List ℕ → List ℕ
text_bytes text = number_bytes (length text) ++ text

-- the parts, after their number
abbrev pub list_bytes : {X : Type 0} → (X → List ℕ) → List X → List ℕ
list_bytes part xs = number_bytes (length xs) ++ flat_map part xs

abbrev pub table_bytes : List ℕ → List ℕ
table_bytes table = list_bytes number_bytes table

abbrev pub array_bytes : Array → List ℕ
array_bytes a = number_bytes a.place ++ (number_bytes a.bits ++ number_bytes a.count)

-- 2. Rules: the kind of a node, its numbers, and its parts

abbrev pub known_number : Knowledge → ℕ
known_number k.Process = 0
known_number k.Sender = 1
known_number k.Now = 2
known_number k.Processes = 3

abbrev pub law_number : Law → ℕ
law_number l.Uniform = 0
law_number l.Exponential = 1
law_number l.Geometric = 2

abbrev pub operator_number : Operator → ℕ
operator_number o.Plus = 0
operator_number o.Minus = 1
operator_number o.Times = 2
operator_number o.Over = 3
operator_number o.Modulo = 4
operator_number o.ShiftLeft = 5
operator_number o.ShiftRight = 6
operator_number o.BitAnd = 7
operator_number o.BitXor = 8
operator_number o.BitOr = 9
operator_number o.Same = 10
operator_number o.Different = 11
operator_number o.Below = 12
operator_number o.AtMost = 13
operator_number o.Above = 14
operator_number o.AtLeast = 15
operator_number o.Both = 16
operator_number o.Either = 17
operator_number o.Least = 18
operator_number o.Greatest = 19

abbrev pub tree_bytes : Tree → List ℕ
tree_bytes (Number n) = 1 ∷ number_bytes n
tree_bytes (Word i) = 2 ∷ number_bytes i
tree_bytes (Content i) = 3 ∷ number_bytes i
tree_bytes (Local i) = 4 ∷ number_bytes i
tree_bytes (Read known) = 5 ∷ number_bytes (known_number known)
tree_bytes (Not x) = 6 ∷ (number_bytes 0 ++ tree_bytes x)
tree_bytes (Two o x y) = 7 ∷ (number_bytes (operator_number o) ++ (tree_bytes x ++ tree_bytes y))
tree_bytes (Entry table x) = 8 ∷ (number_bytes table ++ tree_bytes x)
tree_bytes (Draw law x) = 9 ∷ (number_bytes (law_number law) ++ tree_bytes x)
tree_bytes (Normal x y) = 15 ∷ (number_bytes 0 ++ (tree_bytes x ++ tree_bytes y))
tree_bytes (Triangular x y z) =
    16 ∷ (number_bytes 0 ++ (tree_bytes x ++ (tree_bytes y ++ tree_bytes z)))
tree_bytes (Choose table) = 17 ∷ number_bytes table
tree_bytes (Element array x) = 18 ∷ (array_bytes array ++ tree_bytes x)

abbrev pub four_bytes : Four → List ℕ
four_bytes x = tree_bytes x.a ++ (tree_bytes x.b ++ (tree_bytes x.c ++ tree_bytes x.d))

-- the number of statements
abbrev pub count : Acts → ℕ
count empty = 0
count (cons x rest) = suc (count rest)

-- a statement, and statements one after the other; a block stands after their number
abbrev mutual
  pub act_bytes : Act → List ℕ
  act_bytes (Let i x) = 10 ∷ (number_bytes i ++ tree_bytes x)
  act_bytes (Set i x) = 11 ∷ (number_bytes i ++ tree_bytes x)
  act_bytes (Send to after content) =
      12 ∷ (number_bytes 0 ++ (tree_bytes to ++ (tree_bytes after ++ four_bytes content)))
  act_bytes (If x met unmet) =
      13 ∷ (number_bytes 0 ++ (tree_bytes x
      ++ ((number_bytes (count met) ++ acts_bytes met) ++ (number_bytes (count unmet) ++ acts_bytes unmet))))
  act_bytes (Repeat i n body) =
      14 ∷ (number_bytes i ++ (number_bytes n ++ (number_bytes (count body) ++ acts_bytes body)))
  act_bytes (RepeatUntil i n x body) =
      21 ∷ (number_bytes i ++ (number_bytes n ++ (tree_bytes x ++ (number_bytes (count body) ++ acts_bytes body))))
  act_bytes (Put array i x) = 19 ∷ (array_bytes array ++ (tree_bytes i ++ tree_bytes x))

  pub acts_bytes : Acts → List ℕ
  acts_bytes empty = []
  acts_bytes (cons x rest) = act_bytes x ++ acts_bytes rest

abbrev pub block_bytes : Acts → List ℕ
block_bytes acts = number_bytes (count acts) ++ acts_bytes acts

-- 3. What a file means

pub record Meant : Type 0 where
  pub words : List (List ℕ)  -- the names of the words of a state, [] for a word without one
  pub arrays : List Array  -- in the words of a state
  pub seed : ℕ  -- the first key
  pub tables : List (List ℕ)
  pub start : Acts  -- what a process does when it starts
  pub handle : Acts  -- what it does with a message

-- the words of arrays have no name of their own
abbrev pub own_name : List ℕ → List ℕ
own_name word = if is_word word then word else []

abbrev pub meant : List (List ℕ) → List (List ℕ × Array) → ℕ → List (List ℕ) → List Statement →
    List Statement → Meant
meant words arrays seed tables start handle = record {
  words = map own_name words;
  arrays = map (λ a. a.1) arrays;
  seed = seed;
  tables = tables;
  start = acts_of start;
  handle = acts_of handle;
}

-- the words of a state of `n` words, where kinds of processes have names of their own
abbrev pub state_words : Bool → ℕ → List (List ℕ)
state_words keyed zero = []
state_words keyed (suc n) = (if keyed then codes "key" else []) ∷ replicate n []

-- an array in the words of a state; no number says how many there are
abbrev pub kept_bytes : Array → List ℕ
kept_bytes a = 20 ∷ array_bytes a

unfoldable pub meaning_bytes : Meant → List ℕ
meaning_bytes m =
    list_bytes text_bytes m.words ++ (flat_map kept_bytes m.arrays ++ (number_bytes m.seed
    ++ (list_bytes table_bytes m.tables ++ (block_bytes m.start ++ block_bytes m.handle))))

-- the four words of 32 bytes, the highest byte of each first
abbrev pub words_of_digest : List ℕ → List ℕ
words_of_digest bytes =
    from_be_bytes w64 (take 8 bytes) ∷ from_be_bytes w64 (take 8 (drop 8 bytes))
    ∷ from_be_bytes w64 (take 8 (drop 16 bytes)) ∷ from_be_bytes w64 (take 8 (drop 24 bytes)) ∷ []

-- the words by which the identity of a model tells what its file means
unfoldable pub digest_words : Meant → List ℕ
digest_words m = words_of_digest (sha256 (meaning_bytes m))

-- 4. The numbers of a meaning

abbrev pub IsWord : ℕ → Type 0
IsWord n = n < 2 ^ 64

abbrev pub ArrayFits : Array → Type 0
ArrayFits a = (a.place < 2 ^ 8) × (a.bits < 2 ^ 8) × (a.count < 2 ^ 16)

abbrev pub TreeFits : Tree → Type 0
TreeFits (Number n) = IsWord n
TreeFits (Word i) = IsWord i
TreeFits (Content i) = IsWord i
TreeFits (Local i) = IsWord i
TreeFits (Read known) = Unit {0}
TreeFits (Not x) = TreeFits x
TreeFits (Two o x y) = TreeFits x × TreeFits y
TreeFits (Entry table x) = IsWord table × TreeFits x
TreeFits (Draw law x) = TreeFits x
TreeFits (Normal x y) = TreeFits x × TreeFits y
TreeFits (Triangular x y z) = TreeFits x × TreeFits y × TreeFits z
TreeFits (Choose table) = IsWord table
TreeFits (Element array x) = ArrayFits array × TreeFits x

abbrev pub FourFits : Four → Type 0
FourFits x = TreeFits x.a × TreeFits x.b × TreeFits x.c × TreeFits x.d

abbrev mutual
  pub ActFits : Act → Type 0
  ActFits (Let i x) = IsWord i × TreeFits x
  ActFits (Set i x) = IsWord i × TreeFits x
  ActFits (Send to after content) = TreeFits to × TreeFits after × FourFits content
  ActFits (If x met unmet) =
      TreeFits x × (IsWord (count met) × ActsFit met) × (IsWord (count unmet) × ActsFit unmet)
  ActFits (Repeat i n body) = IsWord i × IsWord n × (IsWord (count body) × ActsFit body)
  ActFits (RepeatUntil i n x body) =
      IsWord i × IsWord n × TreeFits x × (IsWord (count body) × ActsFit body)
  ActFits (Put array i x) = ArrayFits array × TreeFits i × TreeFits x

  pub ActsFit : Acts → Type 0
  ActsFit empty = Unit {0}
  ActsFit (cons x rest) = ActFits x × ActsFit rest

abbrev pub BlockFits : Acts → Type 0
BlockFits acts = IsWord (count acts) × ActsFit acts

abbrev pub WordsFit : List (List ℕ) → Type 0
WordsFit words = IsWord (length words) × Every (λ word. IsWord (length word)) words

abbrev pub TableFits : List ℕ → Type 0
TableFits table = IsWord (length table) × Every IsWord table

abbrev pub TablesFit : List (List ℕ) → Type 0
TablesFit tables = IsWord (length tables) × Every TableFits tables

-- each number and each length has at most 64 bits, as in every model that is made
pub record IsRanged (m : Meant) : Type 0 where
  pub words : WordsFit m.words
  pub arrays : Every ArrayFits m.arrays
  pub seed : IsWord m.seed
  pub tables : TablesFit m.tables
  pub start : BlockFits m.start
  pub handle : BlockFits m.handle

-- the limits of a file: its arrays have elements, and its tables and statements are few
pub record IsLimited (m : Meant) : Type 0 where
  pub elements : Every (λ a. 1 ≤ a.bits) m.arrays
  pub tables : length m.tables < 2 ^ 56
  pub statements : count m.start < 2 ^ 56

-- 5. Two files that mean something else have other bytes

abbrev pub TellsApart : Type 0
TellsApart =
    (a b : Meant) → IsRanged a → IsRanged b → IsLimited a → IsLimited b →
    meaning_bytes a ≡ meaning_bytes b → a ≡ b
