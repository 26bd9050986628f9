-- What each `send` of a rule says beside the grammar: its receiver names a process, and where the model has sorts of messages, its content is a
-- sort and as many words as the sort has.
use Rattle.std.specs.Prelude.{ℕ, suc, ◌-◌, ◌==◌, List, [], ◌∷◌, Bool, true, false, ◌&&◌, ◌||◌, eqb, not, if◌then◌else◌}
use Rattle.rule_files.specs.declared.grammar.token.Mark.{Mark as MarkKind}
use Rattle.rule_files.specs.declared.grammar.token.Mark.TheVariants as m
use Rattle.rule_files.specs.declared.grammar.token.Token.{Token}
use Rattle.rule_files.specs.declared.grammar.token.Token.TheVariants as t
use Rattle.rule_files.specs.Grammar.{code}

-- whether the token is this mark
abbrev pub is_mark : MarkKind → Token → Bool
is_mark mark (t.Mark other) = eqb (code other) (code mark)
is_mark mark _ = false

-- `self`, where it is a place within a kind
abbrev pub is_own : Token → Bool
is_own (t.Own first) = true
is_own _ = false

abbrev pub is_sign : Token → Bool
is_sign (t.Sign o) = true
is_sign _ = false

-- 1. A place within a kind is no process: it names one by an index alone

-- whether `self` is a place within a kind, before `after` and outside of all [ ], if `n` [ are open at its beginning
abbrev pub has_bare_self : (open_brackets : ℕ) → List Token → Bool
has_bare_self n [] = false
has_bare_self n (token ∷ ts) =
    if is_mark m.After token then false else
    if is_mark m.OpenIndex token then has_bare_self (suc n) ts else
    if is_mark m.CloseIndex token then has_bare_self (n - 1) ts else
    if is_own token && (n == 0) then true else
    has_bare_self n ts

-- 2. Where the model has sorts, the first word of content is the name of one, which says how many more there are

-- the number of words of content after the sort, before a further `send`: the commas outside of all ( ), if `n` ( are open at the beginning
abbrev pub words_from : (open_brackets : ℕ) → List Token → ℕ
words_from n [] = 0
words_from n (token ∷ ts) =
    if is_mark m.Send token then 0 else
    if is_mark m.Open token then words_from (suc n) ts else
    if is_mark m.Close token then words_from (n - 1) ts else
    if is_mark m.Comma token && (n == 0) then suc (words_from n ts) else
    words_from n ts

-- whether the first of them is an operator
abbrev pub goes_on : List Token → Bool
goes_on [] = false
goes_on (token ∷ ts) = is_sign token

-- what stands after `with`
abbrev pub is_of_sort : List Token → Bool
is_of_sort [] = false
is_of_sort (t.Sort sort ∷ ts) = not (goes_on ts) && (words_from 0 ts == sort.words)
is_of_sort (token ∷ ts) = false

-- whether the content begins with its sort: there is a `with` before a further `send`
abbrev pub has_its_sort : List Token → Bool
has_its_sort [] = false
has_its_sort (token ∷ ts) =
    if is_mark m.Send token then false else
    if is_mark m.With token then is_of_sort ts else
    has_its_sort ts

-- 3. Each `send`

abbrev pub is_right : (sorted : Bool) → List Token → Bool
is_right sorted ts = not (has_bare_self 0 ts) && (not sorted || has_its_sort ts)

abbrev pub are_right : (sorted : Bool) → List Token → Bool
are_right sorted [] = true
are_right sorted (token ∷ ts) = if is_mark m.Send token then is_right sorted ts && are_right sorted ts else are_right sorted ts
