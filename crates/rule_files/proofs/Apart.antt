-- What the bytes of a meaning are read as.
use Rattle.std.proofs.Common.{◌≡◌, ℕ, zero, suc, ◌+◌, ◌^◌, ◌<◌, ◌≤◌, eqb, max, List, [], ◌∷◌, ◌++◌, length, Option, Some, None, refl, sym, ap, ◌∙◌, append_assoc, append-nil, arith, if◌then◌else◌}
use Rattle.std.specs.Prelude.{◌*◌, ◌/◌, ◌%◌}
use Rattle.std.specs.Int.{byte_at}
use Rattle.std.specs.List.{flat_map, AllByRecursion as Every}
use Rattle.std.proofs.lemmas.Option.{same_Some}
use Rattle.eventkey.specs.Reading.{◌>>=◌, Reader, number_at}
use Rattle.eventkey.proofs.Fields.{format8}
use Rattle.rules.specs.declared.arrays.Array.{Array}
use Rattle.rules.specs.declared.tree.Known.{Known as Knowledge}
use Rattle.rules.specs.declared.tree.Known.TheVariants as k
use Rattle.rules.specs.declared.tree.Law.{Law}
use Rattle.rules.specs.declared.tree.Law.TheVariants as l
use Rattle.rules.specs.declared.tree.Operator.{Operator}
use Rattle.rules.specs.declared.tree.Operator.TheVariants as o
use Rattle.rule_files.specs.Grammar.{Tree, Number, Word, Content, Local, Read, Not, Two, Entry, Draw, Normal, Triangular, Choose, Element, height}
use Rattle.rule_files.specs.Statements.{Act, Acts, Four, Let, Set, Send, If, Repeat, RepeatUntil, Put, empty, cons}
use Rattle.rule_files.specs.Digest.{table_bytes, kept_bytes, Meant, IsRanged, IsLimited, TellsApart, meaning_bytes, text_bytes, list_bytes, ActFits, ActsFit, FourFits, act_bytes, acts_bytes, block_bytes, count, four_bytes, number_bytes, array_bytes, known_number, law_number, operator_number, tree_bytes, IsWord, ArrayFits, TreeFits}

-- 1. Readers

number_again : (n : ℕ) (rest : List ℕ) → IsWord n → number_at 8 (number_bytes n ++ rest) ≡ Some (n, rest)
unfolding number_bytes
number_again n rest fits = format8.again n rest fits

-- a part, and then what follows
then_on : {X Y : Type 0} (read : Reader X) (f : X × List ℕ → Option Y) (part behind rest : List ℕ) (x : X)
    → read (part ++ (behind ++ rest)) ≡ Some (x, behind ++ rest) → (read ((part ++ behind) ++ rest) >>= f) ≡ f (x, behind ++ rest)
then_on read f part behind rest x e = ap (λ bytes. read bytes >>= f) (append_assoc part behind rest) ∙ ap (λ o. o >>= f) e

-- the last part
at_last : {X Y : Type 0} (read : Reader X) (f : X × List ℕ → Option Y) (part rest : List ℕ) (x : X)
    → read (part ++ rest) ≡ Some (x, rest) → (read (part ++ rest) >>= f) ≡ f (x, rest)
at_last read f part rest x e = ap (λ o. o >>= f) e

array_at : Reader Array
array_at bytes = number_at 8 bytes >>= λ p. number_at 8 p.1 >>= λ b. number_at 8 b.1 >>= λ c. Some (record { place = p.0; bits = b.0; count = c.0 }, c.1)

array_again : (a : Array) (rest : List ℕ) → ArrayFits a → array_at (array_bytes a ++ rest) ≡ Some (a, rest)
unfolding array_at
array_again a rest fits =
    then_on (number_at 8) _ (number_bytes a.place) (number_bytes a.bits ++ number_bytes a.count) rest a.place (number_again a.place _ (omega (arith, fits.0)))
    ∙ then_on (number_at 8) _ (number_bytes a.bits) (number_bytes a.count) rest a.bits (number_again a.bits _ (omega (arith, fits.1)))
    ∙ at_last (number_at 8) _ (number_bytes a.count) rest a.count (number_again a.count rest (omega (arith, fits.2)))

-- 2. Numbers of kinds

known_at : ℕ → Option Knowledge
known_at n =
    if eqb n 0 then Some k.Process else if eqb n 1 then Some k.Sender else if eqb n 2 then Some k.Now else if eqb n 3 then Some k.Processes else None

known_again : (known : Knowledge) → known_at (known_number known) ≡ Some known
unfolding known_at
known_again k.Process = refl
known_again k.Sender = refl
known_again k.Now = refl
known_again k.Processes = refl

known_fits : (known : Knowledge) → IsWord (known_number known)
known_fits k.Process = omega arith
known_fits k.Sender = omega arith
known_fits k.Now = omega arith
known_fits k.Processes = omega arith

law_at : ℕ → Option Law
law_at n = if eqb n 0 then Some l.Uniform else if eqb n 1 then Some l.Exponential else if eqb n 2 then Some l.Geometric else None

law_again : (law : Law) → law_at (law_number law) ≡ Some law
unfolding law_at
law_again l.Uniform = refl
law_again l.Exponential = refl
law_again l.Geometric = refl

law_fits : (law : Law) → IsWord (law_number law)
law_fits l.Uniform = omega arith
law_fits l.Exponential = omega arith
law_fits l.Geometric = omega arith

operator_at : ℕ → Option Operator
operator_at n =
    if eqb n 0 then Some o.Plus else
    if eqb n 1 then Some o.Minus else
    if eqb n 2 then Some o.Times else
    if eqb n 3 then Some o.Over else
    if eqb n 4 then Some o.Modulo else
    if eqb n 5 then Some o.ShiftLeft else
    if eqb n 6 then Some o.ShiftRight else
    if eqb n 7 then Some o.BitAnd else
    if eqb n 8 then Some o.BitXor else
    if eqb n 9 then Some o.BitOr else
    if eqb n 10 then Some o.Same else
    if eqb n 11 then Some o.Different else
    if eqb n 12 then Some o.Below else
    if eqb n 13 then Some o.AtMost else
    if eqb n 14 then Some o.Above else
    if eqb n 15 then Some o.AtLeast else
    if eqb n 16 then Some o.Both else
    if eqb n 17 then Some o.Either else
    if eqb n 18 then Some o.Least else
    if eqb n 19 then Some o.Greatest else
    None

operator_again : (operator : Operator) → operator_at (operator_number operator) ≡ Some operator
unfolding operator_at
operator_again o.Plus = refl
operator_again o.Minus = refl
operator_again o.Times = refl
operator_again o.Over = refl
operator_again o.Modulo = refl
operator_again o.ShiftLeft = refl
operator_again o.ShiftRight = refl
operator_again o.BitAnd = refl
operator_again o.BitXor = refl
operator_again o.BitOr = refl
operator_again o.Same = refl
operator_again o.Different = refl
operator_again o.Below = refl
operator_again o.AtMost = refl
operator_again o.Above = refl
operator_again o.AtLeast = refl
operator_again o.Both = refl
operator_again o.Either = refl
operator_again o.Least = refl
operator_again o.Greatest = refl

operator_fits : (operator : Operator) → IsWord (operator_number operator)
operator_fits o.Plus = omega arith
operator_fits o.Minus = omega arith
operator_fits o.Times = omega arith
operator_fits o.Over = omega arith
operator_fits o.Modulo = omega arith
operator_fits o.ShiftLeft = omega arith
operator_fits o.ShiftRight = omega arith
operator_fits o.BitAnd = omega arith
operator_fits o.BitXor = omega arith
operator_fits o.BitOr = omega arith
operator_fits o.Same = omega arith
operator_fits o.Different = omega arith
operator_fits o.Below = omega arith
operator_fits o.AtMost = omega arith
operator_fits o.Above = omega arith
operator_fits o.AtLeast = omega arith
operator_fits o.Both = omega arith
operator_fits o.Either = omega arith
operator_fits o.Least = omega arith
operator_fits o.Greatest = omega arith

-- a number that stands for something
as_known : {X Y : Type 0} (find : ℕ → Option X) (f : X → Option Y) (n : ℕ) (x : X) → find n ≡ Some x → (find n >>= f) ≡ f x
as_known find f n x e = ap (λ o. o >>= f) e

-- 3. Trees

-- after the kind of a node
node_at : ℕ → Reader Tree → Reader Tree
node_at kind part bytes =
    if eqb kind 1 then (number_at 8 bytes >>= λ n. Some (Number n.0, n.1)) else
    if eqb kind 2 then (number_at 8 bytes >>= λ n. Some (Word n.0, n.1)) else
    if eqb kind 3 then (number_at 8 bytes >>= λ n. Some (Content n.0, n.1)) else
    if eqb kind 4 then (number_at 8 bytes >>= λ n. Some (Local n.0, n.1)) else
    if eqb kind 5 then (number_at 8 bytes >>= λ n. known_at n.0 >>= λ known. Some (Read known, n.1)) else
    if eqb kind 6 then (number_at 8 bytes >>= λ n. part n.1 >>= λ x. Some (Not x.0, x.1)) else
    if eqb kind 7 then (number_at 8 bytes >>= λ n. part n.1 >>= λ x. part x.1 >>= λ y. operator_at n.0 >>= λ operator. Some (Two operator x.0 y.0, y.1)) else
    if eqb kind 8 then (number_at 8 bytes >>= λ n. part n.1 >>= λ x. Some (Entry n.0 x.0, x.1)) else
    if eqb kind 9 then (number_at 8 bytes >>= λ n. part n.1 >>= λ x. law_at n.0 >>= λ law. Some (Draw law x.0, x.1)) else
    if eqb kind 15 then (number_at 8 bytes >>= λ n. part n.1 >>= λ x. part x.1 >>= λ y. Some (Normal x.0 y.0, y.1)) else
    if eqb kind 16 then (number_at 8 bytes >>= λ n. part n.1 >>= λ x. part x.1 >>= λ y. part y.1 >>= λ z. Some (Triangular x.0 y.0 z.0, z.1)) else
    if eqb kind 17 then (number_at 8 bytes >>= λ n. Some (Choose n.0, n.1)) else
    if eqb kind 18 then (array_at bytes >>= λ a. part a.1 >>= λ x. Some (Element a.0 x.0, x.1)) else
    None

-- of trees at most so high
tree_at : ℕ → Reader Tree
tree_at n [] = None
tree_at zero (kind ∷ bytes) = None
tree_at (suc n) (kind ∷ bytes) = node_at kind (tree_at n) bytes

word_here : (n : ℕ) (behind rest : List ℕ) {Y : Type 0} (f : ℕ × List ℕ → Option Y) → IsWord n → (number_at 8 ((number_bytes n ++ behind) ++ rest) >>= f) ≡ f (n, behind ++ rest)
word_here n behind rest f fits = then_on (number_at 8) f (number_bytes n) behind rest n (number_again n (behind ++ rest) fits)

last_word : (n : ℕ) (rest : List ℕ) {Y : Type 0} (f : ℕ × List ℕ → Option Y) → IsWord n → (number_at 8 (number_bytes n ++ rest) >>= f) ≡ f (n, rest)
last_word n rest f fits = at_last (number_at 8) f (number_bytes n) rest n (number_again n rest fits)

zero_fits : IsWord 0
zero_fits = omega arith

tree_again : (n : ℕ) (x : Tree) (rest : List ℕ) → height x < n → TreeFits x → tree_at n (tree_bytes x ++ rest) ≡ Some (x, rest)
unfolding tree_at node_at
tree_again zero x rest low fits = absurd (omega arith)
tree_again (suc n) (Number k) rest low fits = last_word k rest _ fits
tree_again (suc n) (Word i) rest low fits = last_word i rest _ fits
tree_again (suc n) (Content i) rest low fits = last_word i rest _ fits
tree_again (suc n) (Local i) rest low fits = last_word i rest _ fits
tree_again (suc n) (Read known) rest low fits =
    last_word (known_number known) rest _ (known_fits known) ∙ as_known known_at _ (known_number known) known (known_again known)
tree_again (suc n) (Not x) rest low fits =
    word_here 0 (tree_bytes x) rest _ zero_fits
    ∙ at_last (tree_at n) _ (tree_bytes x) rest x (tree_again n x rest (omega arith) fits)
tree_again (suc n) (Two operator x y) rest low fits =
    word_here (operator_number operator) (tree_bytes x ++ tree_bytes y) rest _ (operator_fits operator)
    ∙ then_on (tree_at n) _ (tree_bytes x) (tree_bytes y) rest x (tree_again n x (tree_bytes y ++ rest) (omega arith) fits.0)
    ∙ at_last (tree_at n) _ (tree_bytes y) rest y (tree_again n y rest (omega arith) fits.1)
    ∙ as_known operator_at _ (operator_number operator) operator (operator_again operator)
tree_again (suc n) (Entry table x) rest low fits =
    word_here table (tree_bytes x) rest _ fits.0
    ∙ at_last (tree_at n) _ (tree_bytes x) rest x (tree_again n x rest (omega arith) fits.1)
tree_again (suc n) (Draw law x) rest low fits =
    word_here (law_number law) (tree_bytes x) rest _ (law_fits law)
    ∙ at_last (tree_at n) _ (tree_bytes x) rest x (tree_again n x rest (omega arith) fits)
    ∙ as_known law_at _ (law_number law) law (law_again law)
tree_again (suc n) (Normal x y) rest low fits =
    word_here 0 (tree_bytes x ++ tree_bytes y) rest _ zero_fits
    ∙ then_on (tree_at n) _ (tree_bytes x) (tree_bytes y) rest x (tree_again n x (tree_bytes y ++ rest) (omega arith) fits.0)
    ∙ at_last (tree_at n) _ (tree_bytes y) rest y (tree_again n y rest (omega arith) fits.1)
tree_again (suc n) (Triangular x y z) rest low fits =
    word_here 0 (tree_bytes x ++ (tree_bytes y ++ tree_bytes z)) rest _ zero_fits
    ∙ then_on (tree_at n) _ (tree_bytes x) (tree_bytes y ++ tree_bytes z) rest x (tree_again n x ((tree_bytes y ++ tree_bytes z) ++ rest) (omega arith) fits.0)
    ∙ then_on (tree_at n) _ (tree_bytes y) (tree_bytes z) rest y (tree_again n y (tree_bytes z ++ rest) (omega arith) fits.1)
    ∙ at_last (tree_at n) _ (tree_bytes z) rest z (tree_again n z rest (omega arith) fits.2)
tree_again (suc n) (Choose table) rest low fits = last_word table rest _ fits
tree_again (suc n) (Element array x) rest low fits =
    then_on array_at _ (array_bytes array) (tree_bytes x) rest array (array_again array (tree_bytes x ++ rest) fits.0)
    ∙ at_last (tree_at n) _ (tree_bytes x) rest x (tree_again n x rest (omega arith) fits.1)

-- 4. Statements

four_at : Reader Tree → Reader Four
four_at part bytes = part bytes >>= λ a. part a.1 >>= λ b. part b.1 >>= λ c. part c.1 >>= λ d. Some (record { a = a.0; b = b.0; c = c.0; d = d.0 }, d.1)

abbrev four_height : Four → ℕ
four_height x = max (max (height x.a) (height x.b)) (max (height x.c) (height x.d))

four_again : (n : ℕ) (x : Four) (rest : List ℕ) → four_height x < n → FourFits x → four_at (tree_at n) (four_bytes x ++ rest) ≡ Some (x, rest)
unfolding four_at
four_again n x rest low fits =
    then_on (tree_at n) _ (tree_bytes x.a) (tree_bytes x.b ++ (tree_bytes x.c ++ tree_bytes x.d)) rest x.a (tree_again n x.a _ (omega arith) fits.0)
    ∙ then_on (tree_at n) _ (tree_bytes x.b) (tree_bytes x.c ++ tree_bytes x.d) rest x.b (tree_again n x.b _ (omega arith) fits.1)
    ∙ then_on (tree_at n) _ (tree_bytes x.c) (tree_bytes x.d) rest x.c (tree_again n x.c _ (omega arith) fits.2)
    ∙ at_last (tree_at n) _ (tree_bytes x.d) rest x.d (tree_again n x.d rest (omega arith) fits.3)

-- how deep statements and their values are
abbrev mutual
  act_height : Act → ℕ
  act_height (Let i x) = height x + 1
  act_height (Set i x) = height x + 1
  act_height (Send to after content) = max (max (height to) (height after)) (four_height content) + 1
  act_height (If x met unmet) = max (height x) (max (acts_height met) (acts_height unmet)) + 1
  act_height (Repeat i n body) = acts_height body + 1
  act_height (RepeatUntil i n x body) = max (height x) (acts_height body) + 1
  act_height (Put array i x) = max (height i) (height x) + 1

  acts_height : Acts → ℕ
  acts_height empty = 0
  acts_height (cons x rest) = max (act_height x) (acts_height rest)

-- `n` statements
row_at : Reader Act → ℕ → Reader Acts
row_at part zero bytes = Some (empty, bytes)
row_at part (suc n) bytes = part bytes >>= λ x. row_at part n x.1 >>= λ xs. Some (cons x.0 xs.0, xs.1)

block_at : Reader Act → Reader Acts
block_at part bytes = number_at 8 bytes >>= λ n. row_at part n.0 n.1

-- after the kind of a statement
statement_at : ℕ → Reader Tree → Reader Act → Reader Act
statement_at kind value part bytes =
    if eqb kind 10 then (number_at 8 bytes >>= λ i. value i.1 >>= λ x. Some (Let i.0 x.0, x.1)) else
    if eqb kind 11 then (number_at 8 bytes >>= λ i. value i.1 >>= λ x. Some (Set i.0 x.0, x.1)) else
    if eqb kind 12 then (number_at 8 bytes >>= λ i. value i.1 >>= λ to. value to.1 >>= λ after. four_at value after.1 >>= λ four. Some (Send to.0 after.0 four.0, four.1)) else
    if eqb kind 13 then (number_at 8 bytes >>= λ i. value i.1 >>= λ x. block_at part x.1 >>= λ met. block_at part met.1 >>= λ unmet. Some (If x.0 met.0 unmet.0, unmet.1)) else
    if eqb kind 14 then (number_at 8 bytes >>= λ i. number_at 8 i.1 >>= λ n. block_at part n.1 >>= λ body. Some (Repeat i.0 n.0 body.0, body.1)) else
    if eqb kind 21 then (number_at 8 bytes >>= λ i. number_at 8 i.1 >>= λ n. value n.1 >>= λ x. block_at part x.1 >>= λ body. Some (RepeatUntil i.0 n.0 x.0 body.0, body.1)) else
    if eqb kind 19 then (array_at bytes >>= λ a. value a.1 >>= λ i. value i.1 >>= λ x. Some (Put a.0 i.0 x.0, x.1)) else
    None

-- of statements at most so deep
act_at : ℕ → Reader Act
act_at n [] = None
act_at zero (kind ∷ bytes) = None
act_at (suc n) (kind ∷ bytes) = statement_at kind (tree_at (suc n)) (act_at n) bytes

block_by : (part : Reader Act) (xs : Acts) (rest : List ℕ) → IsWord (count xs) → row_at part (count xs) (acts_bytes xs ++ rest) ≡ Some (xs, rest) → block_at part (block_bytes xs ++ rest) ≡ Some (xs, rest)
unfolding block_at
block_by part xs rest few e = word_here (count xs) (acts_bytes xs) rest _ few ∙ e

some_height : (x : Act) → act_height x ≤ 0 → ⊥
some_height (Let i x) low = omega arith
some_height (Set i x) low = omega arith
some_height (Send to after content) low = omega arith
some_height (If x met unmet) low = omega arith
some_height (Repeat i n body) low = omega arith
some_height (RepeatUntil i n x body) low = omega arith
some_height (Put array i x) low = omega arith

mutual
  unfolding act_at statement_at row_at

  act_again : (n : ℕ) (x : Act) (rest : List ℕ) → act_height x ≤ n → ActFits x → act_at n (act_bytes x ++ rest) ≡ Some (x, rest)
  act_again zero x rest low fits = absurd (some_height x low)
  act_again (suc n) (Let i x) rest low fits =
      word_here i (tree_bytes x) rest _ fits.0
      ∙ at_last (tree_at (suc n)) _ (tree_bytes x) rest x (tree_again (suc n) x rest (omega arith) fits.1)
  act_again (suc n) (Set i x) rest low fits =
      word_here i (tree_bytes x) rest _ fits.0
      ∙ at_last (tree_at (suc n)) _ (tree_bytes x) rest x (tree_again (suc n) x rest (omega arith) fits.1)
  act_again (suc n) (Send to after content) rest low fits =
      word_here 0 (tree_bytes to ++ (tree_bytes after ++ four_bytes content)) rest _ zero_fits
      ∙ then_on (tree_at (suc n)) _ (tree_bytes to) (tree_bytes after ++ four_bytes content) rest to (tree_again (suc n) to _ (omega arith) fits.0)
      ∙ then_on (tree_at (suc n)) _ (tree_bytes after) (four_bytes content) rest after (tree_again (suc n) after _ (omega arith) fits.1)
      ∙ at_last (four_at (tree_at (suc n))) _ (four_bytes content) rest content (four_again (suc n) content rest (omega arith) fits.2)
  act_again (suc n) (If x met unmet) rest low fits =
      word_here 0 (tree_bytes x ++ (block_bytes met ++ block_bytes unmet)) rest _ zero_fits
      ∙ then_on (tree_at (suc n)) _ (tree_bytes x) (block_bytes met ++ block_bytes unmet) rest x (tree_again (suc n) x _ (omega arith) fits.0)
      ∙ then_on (block_at (act_at n)) _ (block_bytes met) (block_bytes unmet) rest met (block_by (act_at n) met _ fits.1.0 (row_again n met _ (omega arith) fits.1.1))
      ∙ at_last (block_at (act_at n)) _ (block_bytes unmet) rest unmet (block_by (act_at n) unmet _ fits.2.0 (row_again n unmet _ (omega arith) fits.2.1))
  act_again (suc n) (Repeat i k body) rest low fits =
      word_here i (number_bytes k ++ block_bytes body) rest _ fits.0
      ∙ word_here k (block_bytes body) rest _ fits.1
      ∙ at_last (block_at (act_at n)) _ (block_bytes body) rest body (block_by (act_at n) body _ fits.2.0 (row_again n body _ (omega arith) fits.2.1))
  act_again (suc n) (RepeatUntil i k x body) rest low fits =
      word_here i (number_bytes k ++ (tree_bytes x ++ block_bytes body)) rest _ fits.0
      ∙ word_here k (tree_bytes x ++ block_bytes body) rest _ fits.1
      ∙ then_on (tree_at (suc n)) _ (tree_bytes x) (block_bytes body) rest x (tree_again (suc n) x _ (omega arith) fits.2)
      ∙ at_last (block_at (act_at n)) _ (block_bytes body) rest body (block_by (act_at n) body _ fits.3.0 (row_again n body _ (omega arith) fits.3.1))
  act_again (suc n) (Put array i x) rest low fits =
      then_on array_at _ (array_bytes array) (tree_bytes i ++ tree_bytes x) rest array (array_again array _ fits.0)
      ∙ then_on (tree_at (suc n)) _ (tree_bytes i) (tree_bytes x) rest i (tree_again (suc n) i _ (omega arith) fits.1)
      ∙ at_last (tree_at (suc n)) _ (tree_bytes x) rest x (tree_again (suc n) x rest (omega arith) fits.2)

  row_again : (n : ℕ) (xs : Acts) (rest : List ℕ) → acts_height xs ≤ n → ActsFit xs → row_at (act_at n) (count xs) (acts_bytes xs ++ rest) ≡ Some (xs, rest)
  row_again n empty rest low fits = refl
  row_again n (cons x xs) rest low fits =
      then_on (act_at n) _ (act_bytes x) (acts_bytes xs) rest x (act_again n x _ (omega arith) fits.0)
      ∙ at_last (row_at (act_at n) (count xs)) _ (acts_bytes xs) rest xs (row_again n xs rest (omega arith) fits.1)

block_again : (n : ℕ) (xs : Acts) (rest : List ℕ) → acts_height xs ≤ n → IsWord (count xs) → ActsFit xs → block_at (act_at n) (block_bytes xs ++ rest) ≡ Some (xs, rest)
block_again n xs rest low few fits = block_by (act_at n) xs rest few (row_again n xs rest low fits)

-- 5. What is read once is written once

-- the same bytes are the same value, and what follows is the same
abbrev pub IsApart : {X : Type 0} → (X → Type 0) → (X → List ℕ) → Type 0
IsApart {X = X} Fits write = (x y : X) (r s : List ℕ) → Fits x → Fits y → write x ++ r ≡ write y ++ s → (x ≡ y) × (r ≡ s)

apart_by : {X : Type 0} (read : Reader X) (write : X → List ℕ) (x y : X) (r s : List ℕ) → read (write x ++ r) ≡ Some (x, r) → read (write y ++ s) ≡ Some (y, s)
    → write x ++ r ≡ write y ++ s → (x ≡ y) × (r ≡ s)
apart_by {X = X} read write x y r s p q e =
    let same : (x, r) ≡ (y, s) = same_Some (x, r) (y, s) (sym p ∙ ap read e ∙ q) in
    (ap (λ (z : X × List ℕ). z.0) same, ap (λ (z : X × List ℕ). z.1) same)

number_apart : IsApart IsWord number_bytes
number_apart x y r s p q e = apart_by (number_at 8) number_bytes x y r s (number_again x r p) (number_again y s q) e

array_apart : IsApart ArrayFits array_bytes
array_apart x y r s p q e = apart_by array_at array_bytes x y r s (array_again x r p) (array_again y s q) e

block_apart : IsApart (λ xs. IsWord (count xs) × ActsFit xs) block_bytes
block_apart x y r s p q e =
    let n = max (acts_height x) (acts_height y) in
    apart_by (block_at (act_at n)) block_bytes x y r s (block_again n x r (omega arith) p.0 p.1) (block_again n y s (omega arith) q.0 q.1) e

text_apart : IsApart (λ text. IsWord (length text)) text_bytes
text_apart x y r s p q e =
    let (long, same) = number_apart (length x) (length y) (x ++ r) (y ++ s) p q (sym (append_assoc (number_bytes (length x)) x r) ∙ e ∙ append_assoc (number_bytes (length y)) y s) in
    texts x y r s long same
  where
    texts : (x y r s : List ℕ) → length x ≡ length y → x ++ r ≡ y ++ s → (x ≡ y) × (r ≡ s)
    texts [] [] r s long e = (refl, e)
    texts [] (b ∷ y) r s long e = absurd (omega arith)
    texts (a ∷ x) [] r s long e = absurd (omega arith)
    texts (a ∷ x) (b ∷ y) r s long e =
        let head : a ≡ b = cc in
        let tail : x ++ r ≡ y ++ s = cc in
        let (same, behind) = texts x y r s (omega arith) tail in
        (ap (λ c. c ∷ x) head ∙ ap (λ z. b ∷ z) same, behind)

parts_apart : {X : Type 0} (Fits : X → Type 0) (write : X → List ℕ) → IsApart Fits write → (xs ys : List X) (r s : List ℕ) → length xs ≡ length ys
    → Every Fits xs → Every Fits ys → flat_map write xs ++ r ≡ flat_map write ys ++ s → (xs ≡ ys) × (r ≡ s)
parts_apart Fits write each [] [] r s long p q e = (refl, e)
parts_apart Fits write each [] (y ∷ ys) r s long p q e = absurd (omega arith)
parts_apart Fits write each (x ∷ xs) [] r s long p q e = absurd (omega arith)
parts_apart Fits write each (x ∷ xs) (y ∷ ys) r s long p q e =
    let (head, behind) = each x y (flat_map write xs ++ r) (flat_map write ys ++ s) p.0 q.0 (sym (append_assoc (write x) (flat_map write xs) r) ∙ e ∙ append_assoc (write y) (flat_map write ys) s) in
    let (tail, rest) = parts_apart Fits write each xs ys r s (omega arith) p.1 q.1 behind in
    (ap (λ z. z ∷ xs) head ∙ ap (λ zs. y ∷ zs) tail, rest)

list_apart : {X : Type 0} (Fits : X → Type 0) (write : X → List ℕ) → IsApart Fits write → IsApart (λ xs. IsWord (length xs) × Every Fits xs) (list_bytes write)
list_apart Fits write each xs ys r s p q e =
    let (long, same) = number_apart (length xs) (length ys) (flat_map write xs ++ r) (flat_map write ys ++ s) p.0 q.0
    (sym (append_assoc (number_bytes (length xs)) (flat_map write xs) r) ∙ e ∙ append_assoc (number_bytes (length ys)) (flat_map write ys) s) in
    parts_apart Fits write each xs ys r s long p.1 q.1 same

-- 6. Arrays, which stand in no list: what follows them begins otherwise

-- a byte in front of a number
shifted : (h n : ℕ) → h < 256 → IsWord n → h ∷ number_bytes n ≡ number_bytes (h * 2 ^ 56 + n / 256) ++ (n % 256) ∷ []
unfolding number_bytes
shifted h n small fits =
    let top : byte_at 7 (h * 2 ^ 56 + n / 256) ≡ h = omega arith in
    let e6 : byte_at 6 (h * 2 ^ 56 + n / 256) ≡ byte_at 7 n = omega arith in
    let e5 : byte_at 5 (h * 2 ^ 56 + n / 256) ≡ byte_at 6 n = omega arith in
    let e4 : byte_at 4 (h * 2 ^ 56 + n / 256) ≡ byte_at 5 n = omega arith in
    let e3 : byte_at 3 (h * 2 ^ 56 + n / 256) ≡ byte_at 4 n = omega arith in
    let e2 : byte_at 2 (h * 2 ^ 56 + n / 256) ≡ byte_at 3 n = omega arith in
    let e1 : byte_at 1 (h * 2 ^ 56 + n / 256) ≡ byte_at 2 n = omega arith in
    let e0 : byte_at 0 (h * 2 ^ 56 + n / 256) ≡ byte_at 1 n = omega arith in
    cc

byte_first : (x h n : ℕ) (xs behind : List ℕ) → IsWord x → h < 256 → IsWord n → number_bytes x ++ xs ≡ h ∷ (number_bytes n ++ behind) → (x ≡ h * 2 ^ 56 + n / 256) × (xs ≡ (n % 256) ∷ behind)
byte_first x h n xs behind fits small word e =
    let moved : h ∷ (number_bytes n ++ behind) ≡ number_bytes (h * 2 ^ 56 + n / 256) ++ ((n % 256) ∷ behind) =
    ap (λ bytes. bytes ++ behind) (shifted h n small word) ∙ append_assoc (number_bytes (h * 2 ^ 56 + n / 256)) ((n % 256) ∷ []) behind in
    number_apart x (h * 2 ^ 56 + n / 256) xs ((n % 256) ∷ behind) fits (omega arith) (e ∙ moved)

no_items : {X : Type 0} (xs : List X) → length xs ≡ 0 → xs ≡ []
no_items [] e = refl
no_items (x ∷ xs) e = absurd (omega arith)

-- what stands after the arrays
abbrev tail_of : Meant → List ℕ
tail_of m = number_bytes m.seed ++ (list_bytes table_bytes m.tables ++ (block_bytes m.start ++ block_bytes m.handle))

no_array : (m : Meant) (a : Array) (rest : List ℕ) → IsRanged m → IsLimited m → ArrayFits a → 1 ≤ a.bits → tail_of m ≡ kept_bytes a ++ rest → ⊥
no_array m a rest is few fits some e =
    let behind = block_bytes m.start ++ block_bytes m.handle in
    let items = flat_map table_bytes m.tables in
    let bits_on = number_bytes a.bits ++ (number_bytes a.count ++ rest) in
    let first : number_bytes m.seed ++ (list_bytes table_bytes m.tables ++ behind) ≡ 20 ∷ (number_bytes a.place ++ bits_on) =
    e ∙ ap (λ bytes. 20 ∷ bytes) (append_assoc (number_bytes a.place) (number_bytes a.bits ++ number_bytes a.count) rest
    ∙ ap (λ bytes. number_bytes a.place ++ bytes) (append_assoc (number_bytes a.bits) (number_bytes a.count) rest)) in
    let one = byte_first m.seed 20 a.place _ bits_on is.seed (omega arith) (omega (arith, fits.0)) first in
    let two = byte_first (length m.tables) (a.place % 256) a.bits (items ++ behind) (number_bytes a.count ++ rest) (omega (arith, few.tables)) (omega arith) (omega (arith, fits.1))
    (sym (append_assoc (number_bytes (length m.tables)) items behind) ∙ one.1) in
    let none : m.tables ≡ [] = no_items m.tables (omega (arith, two.0, few.tables, fits.1)) in
    let three : number_bytes (count m.start) ++ (acts_bytes m.start ++ block_bytes m.handle) ≡ (a.bits % 256) ∷ (number_bytes a.count ++ rest) =
    sym (append_assoc (number_bytes (count m.start)) (acts_bytes m.start) (block_bytes m.handle)) ∙ ap (λ ts. flat_map table_bytes ts ++ behind) (sym none) ∙ two.1 in
    let last = byte_first (count m.start) (a.bits % 256) a.count _ rest (omega (arith, few.statements)) (omega arith) (omega (arith, fits.2)) three in
    omega (arith, last.0, few.statements, fits.1, some)

abbrev HasElements : Array → Type 0
HasElements a = ArrayFits a × (1 ≤ a.bits)

one_apart : IsApart HasElements kept_bytes
one_apart x y r s p q e = array_apart x y r s p.0 q.0 cc

arrays_apart : (xs ys : List Array) (m n : Meant) → IsRanged m → IsRanged n → IsLimited m → IsLimited n → Every HasElements xs → Every HasElements ys
    → flat_map kept_bytes xs ++ tail_of m ≡ flat_map kept_bytes ys ++ tail_of n → (xs ≡ ys) × (tail_of m ≡ tail_of n)
arrays_apart [] [] m n i j k l p q e = (refl, e)
arrays_apart [] (b ∷ ys) m n i j k l p q e = absurd (no_array m b (flat_map kept_bytes ys ++ tail_of n) i k q.0.0 q.0.1 (e ∙ append_assoc (kept_bytes b) (flat_map kept_bytes ys) (tail_of n)))
arrays_apart (a ∷ xs) [] m n i j k l p q e = absurd (no_array n a (flat_map kept_bytes xs ++ tail_of m) j l p.0.0 p.0.1 (sym e ∙ append_assoc (kept_bytes a) (flat_map kept_bytes xs) (tail_of m)))
arrays_apart (a ∷ xs) (b ∷ ys) m n i j k l p q e =
    let (head, behind) = one_apart a b _ _ p.0 q.0 (sym (append_assoc (kept_bytes a) (flat_map kept_bytes xs) (tail_of m)) ∙ e ∙ append_assoc (kept_bytes b) (flat_map kept_bytes ys) (tail_of n)) in
    let (tail, rest) = arrays_apart xs ys m n i j k l p.1 q.1 behind in
    (ap (λ z. z ∷ xs) head ∙ ap (λ zs. b ∷ zs) tail, rest)

-- 7. Meanings

table_apart : IsApart (λ t. IsWord (length t) × Every IsWord t) table_bytes
table_apart = list_apart IsWord number_bytes number_apart

abbrev made : List (List ℕ) → List Array → ℕ → List (List ℕ) → Acts → Acts → Meant
made words arrays seed tables start handle = record { words = words; arrays = arrays; seed = seed; tables = tables; start = start; handle = handle }

same_meaning : (a b : Meant) → a.words ≡ b.words → a.arrays ≡ b.arrays → a.seed ≡ b.seed → a.tables ≡ b.tables → a.start ≡ b.start → a.handle ≡ b.handle → a ≡ b
same_meaning a b p q r s t u =
    ap (λ x. made x a.arrays a.seed a.tables a.start a.handle) p ∙ ap (λ x. made b.words x a.seed a.tables a.start a.handle) q
    ∙ ap (λ x. made b.words b.arrays x a.tables a.start a.handle) r ∙ ap (λ x. made b.words b.arrays b.seed x a.start a.handle) s
    ∙ ap (λ x. made b.words b.arrays b.seed b.tables x a.handle) t ∙ ap (made b.words b.arrays b.seed b.tables b.start) u

with_elements : (xs : List Array) → Every ArrayFits xs → Every (λ a. 1 ≤ a.bits) xs → Every HasElements xs
with_elements [] p q = tt
with_elements (x ∷ xs) p q = ((p.0, q.0), with_elements xs p.1 q.1)

pub tells_apart : TellsApart
unfolding meaning_bytes
tells_apart a b i j k l e =
    let (words, one) = list_apart (λ w. IsWord (length w)) text_bytes text_apart a.words b.words _ _ i.words j.words e in
    let (arrays, two) = arrays_apart a.arrays b.arrays a b i j k l (with_elements a.arrays i.arrays k.elements) (with_elements b.arrays j.arrays l.elements) one in
    let (seed, three) = number_apart a.seed b.seed _ _ i.seed j.seed two in
    let (tables, four) = list_apart (λ t. IsWord (length t) × Every IsWord t) table_bytes table_apart a.tables b.tables _ _ i.tables j.tables three in
    let (start, five) = block_apart a.start b.start _ _ i.start j.start four in
    let (handle, nothing) = block_apart a.handle b.handle [] [] i.handle j.handle (append-nil _ ∙ five ∙ sym (append-nil _)) in
    same_meaning a b words arrays seed tables start handle
