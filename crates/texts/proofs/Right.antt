-- Tables without mistakes.
use Rattle.std.proofs.Common.{◌≡◌, ℕ, ℤ, ◌≤◌, ◌&&◌, nat_le, pos, negsuc, List, [], ◌∷◌, ◌++◌, Bool, true, false, cond, Option, Some, None, is_some, option_and_then, Result, Ok, Err, IfOk, refl, subst, sym, ◌∙◌}
use Rattle.std.proofs.lemmas.Bool.{and_parts, leb-true}
use Rattle.toml.specs.Data.{Members, as_integer, get_member}
use Rattle.texts.specs.declared.findings.Found.{Found}
use Rattle.texts.specs.ModelFile.{NumberKey, Wrong, in_range, item_wrong, number_at, number_wrong, numbers_from, numbers_wrong, unless, words_wrong}

-- 1. One finding after another

pub none_before : {A : Type 0} (xs ys : List A) → xs ++ ys ≡ [] → xs ≡ []
none_before [] ys none = refl
none_before (x ∷ xs) ys none = cc

pub none_behind : {A : Type 0} (xs ys : List A) → xs ++ ys ≡ [] → ys ≡ []
none_behind [] ys none = none
none_behind (x ∷ xs) ys none = cc

some_there : (o : Option ℕ) (w : Wrong) → unless (is_some o) w ≡ [] → (n : ℕ) × (o ≡ Some n)
some_there None w none = cc
some_there (Some n) w none = (n, refl)

-- 2. Numbers

within : (least most m n : ℕ) (b : Bool) → (nat_le least m && nat_le m most) ≡ b → cond b (Some m) None ≡ Some n → (least ≤ n) × (n ≤ most)
within least most m n true inside is =
    let e : m ≡ n = cc in
    let (low, high) = and_parts (nat_le least m) (nat_le m most) inside in
    (subst (λ k. least ≤ k) e (leb-true least m low), subst (λ k. k ≤ most) e (leb-true m most high))
within least most m n false inside is = cc

in_range_within : (least most n : ℕ) (z : ℤ) → in_range least most z ≡ Some n → (least ≤ n) × (n ≤ most)
in_range_within least most n (pos m) is = within least most m n (nat_le least m && nat_le m most) refl is
in_range_within least most n (negsuc m) is = cc

read_within : (least most n : ℕ) (o : Option ℤ) → option_and_then (in_range least most) o ≡ Some n → (least ≤ n) × (n ≤ most)
read_within least most n None is = cc
read_within least most n (Some z) is = in_range_within least most n z is

-- if there is no mistake at a key of a number, the number is there and in its range
pub number_there : (key : List ℕ) (least most : ℕ) (table : Members) → number_wrong key least most table ≡ []
    → (n : ℕ) × (number_at key least most table ≡ Some n) × (least ≤ n) × (n ≤ most)
unfolding number_wrong
number_there key least most table none =
    let (n, is) = some_there (number_at key least most table) _ none in
    let (low, high) = read_within least most n (option_and_then as_integer (get_member key table)) is in
    (n, is, low, high)

-- if the number is there, there is no mistake
pub number_right : (key : List ℕ) (least most : ℕ) (table : Members) (n : ℕ) → number_at key least most table ≡ Some n → number_wrong key least most table ≡ []
unfolding number_wrong
number_right key least most table n is = rw is refl

-- 3. Numbers at several keys

-- the table has the number of a key, in its range
abbrev pub IsThere : Members → NumberKey → Type 0
IsThere table k = (n : ℕ) × (number_at k.key k.least k.most table ≡ Some n) × (k.least ≤ n) × (n ≤ k.most)

-- the table has the number of each of these keys, in its range
abbrev pub AreThere : Members → List NumberKey → Type 0
AreThere table [] = Unit {0}
AreThere table (k ∷ ks) = IsThere table k × AreThere table ks

numbers_behind : (before : List Wrong) (keys : List NumberKey) (table : Members) → numbers_from before keys table ≡ [] → (before ≡ []) × AreThere table keys
numbers_behind before [] table none = (none, tt)
numbers_behind before (k ∷ ks) table none =
    let (first, others) = numbers_behind (before ++ number_wrong k.key k.least k.most table) ks table none in (
      none_before before (number_wrong k.key k.least k.most table) first,
      (number_there k.key k.least k.most table (none_behind before (number_wrong k.key k.least k.most table) first), others),
    )

-- if there are no mistakes after these keys, there were none before, and each number is there and
-- in its range
pub before_numbers : (before : List Wrong) (keys : List NumberKey) (table : Members) → numbers_from before keys table ≡ [] → before ≡ []
before_numbers before keys table none = (numbers_behind before keys table none).0

pub numbers_there : (keys : List NumberKey) (table : Members) → numbers_wrong keys table ≡ [] → AreThere table keys
numbers_there keys table none = (numbers_behind [] keys table none).1

-- the table has the number of a key, and of each of these keys
abbrev pub IsNumber : Members → NumberKey → Type 0
IsNumber table k = (n : ℕ) × (number_at k.key k.least k.most table ≡ Some n)

abbrev pub AreNumbers : Members → List NumberKey → Type 0
AreNumbers table [] = Unit {0}
AreNumbers table (k ∷ ks) = IsNumber table k × AreNumbers table ks

-- if each number is there, there is no mistake
pub numbers_right : (keys : List NumberKey) (table : Members) → AreNumbers table keys → numbers_wrong keys table ≡ []
numbers_right [] table there = refl
numbers_right (k ∷ ks) table there = rw (number_right k.key k.least k.most table there.0.0 there.0.1) (numbers_right ks table there.1)

-- 4. Other values

pub words_right : (key text : List ℕ) (table : Members) → words_wrong true key text table ≡ []
unfolding words_wrong
words_right key text table = refl

pub words_there : (right : Bool) (key text : List ℕ) (table : Members) → words_wrong right key text table ≡ [] → right ≡ true
unfolding words_wrong
words_there true key text table none = refl
words_there false key text table none = cc

pub item_right : (key : List ℕ) (place : ℕ) (what : Found) (text : List ℕ) → item_wrong true key place what text ≡ []
unfolding item_wrong
item_right key place what text = refl

pub item_there : (right : Bool) (key : List ℕ) (place : ℕ) (what : Found) (text : List ℕ) → item_wrong right key place what text ≡ [] → right ≡ true
unfolding item_wrong
item_there true key place what text none = refl
item_there false key place what text none = cc

-- 5. The clauses of `mistakes`, if it returns `wrong`

pub none_reported : {E : Type 0} (r : Result (List Wrong) E) (wrong : List Wrong) (P : Type 0) → IfOk r (λ found. found ≡ wrong) → (wrong ≡ [] → P) → IfOk r (λ found. found ≡ [] → P)
none_reported (Ok found) wrong P is there = λ none. there (sym is ∙ none)
none_reported (Err e) wrong P is there = tt

pub some_found : {E : Type 0} (r : Result (List Wrong) E) (wrong : List Wrong) (M : Type 0) (says : M → ℕ → Type 0) → IfOk r (λ found. found ≡ wrong)
    → ((model : M) (end : ℕ) → says model end → wrong ≡ []) → IfOk r (λ found. (model : M) (end : ℕ) → says model end → found ≡ [])
some_found (Ok found) wrong M says is right = λ model end h. is ∙ right model end h
some_found (Err e) wrong M says is right = tt
