-- What the names of a rule mean.
use Rattle.std.specs.Prelude.{ℕ, List, [], ◌∷◌, ◌++◌, Option, Some, None, Bool, true, false, ◌&&◌, ◌-◌, codes, map, take, drop, if◌then◌else◌}
use Rattle.std.specs.Str.{bytes_eq}
use Rattle.rules.specs.declared.tree.Known.TheVariants as k
use Rattle.rules.specs.declared.tree.Law.TheVariants as l
use Rattle.rule_files.specs.declared.grammar.lexemes.Lexeme.{Lexeme}
use Rattle.rule_files.specs.declared.grammar.lexemes.Lexeme.TheVariants as x
use Rattle.rule_files.specs.declared.grammar.lexemes.Placed.{Placed}
use Rattle.rule_files.specs.declared.grammar.scope.Entry.{Entry}
use Rattle.rule_files.specs.declared.grammar.scope.Meaning.{Meaning}
use Rattle.rule_files.specs.declared.grammar.scope.Meaning.TheVariants as w
use Rattle.rule_files.specs.declared.grammar.token.Mark.{Mark as MarkKind}
use Rattle.rule_files.specs.declared.grammar.token.Mark.TheVariants as m
use Rattle.rule_files.specs.declared.grammar.token.Token.{Token}
use Rattle.rule_files.specs.declared.grammar.token.Token.TheVariants as t

-- whether rules may draw, the first process of the kind that they are for, and the names of the model file with the tokens that they mean
pub record Dictionary : Type 0 where
  pub draws : Bool
  pub own : Option ℕ
  pub entries : List (List ℕ × Token)

abbrev pub entries_of : List Entry → List (List ℕ × Token)
entries_of es = map (λ e. (e.name.items, e.token)) es

abbrev pub dictionary_of : Bool → Option ℕ → List Entry → Dictionary
dictionary_of draws own es = record { draws = draws; own = own; entries = entries_of es }

abbrev pub with_entry : Dictionary → List ℕ → Token → Dictionary
with_entry scope name token = record { draws = scope.draws; own = scope.own; entries = scope.entries ++ (name, token) ∷ [] }

abbrev pub token_meant : Meaning → Token
token_meant (w.Word place) = t.Word place
token_meant (w.Content place) = t.Content place
token_meant (w.Number n) = t.Number n
token_meant (w.Table place) = t.Table place
token_meant (w.Array array) = t.Array array
token_meant (w.Kind first count) = t.Kind first count
token_meant (w.Sort number words) = t.Sort (record { number = number; words = words })

-- the words of the language
abbrev pub statement_word : List ℕ → Option Token
statement_word name =
    if bytes_eq name (codes "let") then Some (t.Mark m.Let) else
    if bytes_eq name (codes "send") then Some (t.Mark m.Send) else
    if bytes_eq name (codes "to") then Some (t.Mark m.To) else
    if bytes_eq name (codes "after") then Some (t.Mark m.After) else
    if bytes_eq name (codes "with") then Some (t.Mark m.With) else
    if bytes_eq name (codes "if") then Some (t.Mark m.If) else
    if bytes_eq name (codes "else") then Some (t.Mark m.Else) else
    if bytes_eq name (codes "repeat") then Some (t.Mark m.Repeat) else
    None

-- the words that draw
abbrev pub drawing_word : List ℕ → Option MarkKind
drawing_word name =
    if bytes_eq name (codes "draw") then Some (m.Draw l.Uniform) else
    if bytes_eq name (codes "exponential") then Some (m.Draw l.Exponential) else
    if bytes_eq name (codes "geometric") then Some (m.Draw l.Geometric) else
    if bytes_eq name (codes "normal") then Some m.Normal else
    if bytes_eq name (codes "triangular") then Some m.Triangular else
    if bytes_eq name (codes "choose") then Some m.Choose else
    None

-- a word that draws is kept from rules without a key
abbrev pub with_draws : Bool → Option MarkKind → Option Token
with_draws draws None = None
with_draws draws (Some mark) = Some (t.Mark (if draws then mark else m.Kept))

-- `self` is the process, or in a scope of a kind its place within the kind
abbrev pub self_token : Option ℕ → Token
self_token None = t.Known k.Process
self_token (Some first) = t.Own first

abbrev pub known_word : Option ℕ → List ℕ → Option Token
known_word own name =
    if bytes_eq name (codes "min") then Some (t.Mark m.Min) else
    if bytes_eq name (codes "max") then Some (t.Mark m.Max) else
    if bytes_eq name (codes "key") then Some (t.Mark m.Kept) else
    if bytes_eq name (codes "self") then Some (self_token own) else
    if bytes_eq name (codes "sender") then Some (t.Known k.Sender) else
    if bytes_eq name (codes "now") then Some (t.Known k.Now) else
    if bytes_eq name (codes "lps") then Some (t.Known k.Processes) else
    None

abbrev pub or_else : Option Token → Option Token → Option Token
or_else None other = other
or_else (Some token) other = Some token

-- a word that may be part of a value
unfoldable pub value_word : Bool → Option ℕ → List ℕ → Option Token
value_word draws own name = or_else (with_draws draws (drawing_word name)) (known_word own name)

abbrev pub is_sort : Token → Bool
is_sort (t.Sort sort) = true
is_sort _ = false

abbrev pub any_sort : List (List ℕ × Token) → Bool
any_sort [] = false
any_sort (e ∷ es) = if is_sort e.1 then true else any_sort es

-- whether the model has sorts of messages
abbrev pub has_sort : Dictionary → Bool
has_sort scope = any_sort scope.entries

abbrev pub lookup : List ℕ → List (List ℕ × Token) → Option Token
lookup name [] = None
lookup name (e ∷ es) = if bytes_eq e.0 name then Some e.1 else lookup name es

-- what a name means
abbrev pub meaning : Dictionary → List ℕ → Option Token
meaning scope name = or_else (statement_word name) (or_else (value_word scope.draws scope.own name) (lookup name scope.entries))

-- the bytes of a lexeme
abbrev pub letters_of : List ℕ → Placed → List ℕ
letters_of text p = take (p.end - p.start) (drop p.start text)

abbrev pub is_name_lexeme : Lexeme → Bool
is_name_lexeme x.Name = true
is_name_lexeme _ = false

abbrev pub is_same_name : List ℕ → List ℕ → Placed → Bool
is_same_name text letters p = is_name_lexeme p.lexeme && bytes_eq (letters_of text p) letters

-- where a name is first used, which distinguishes names without a meaning
abbrev pub first_place : List ℕ → List ℕ → List Placed → ℕ
first_place text letters [] = 0
first_place text letters (p ∷ ps) = if is_same_name text letters p then p.start else first_place text letters ps

-- `until` and `on` are words in some places alone, and elsewhere names as others are: they have numbers that no place has, since a rule has
-- at most 65,536 bytes
abbrev pub until_name : ℕ
until_name = 65536

abbrev pub on_name : ℕ
on_name = 65537

-- the number of a name with no meaning
abbrev pub name_number : List ℕ → List ℕ → List Placed → ℕ
name_number text letters all =
    if bytes_eq letters (codes "until") then until_name else
    if bytes_eq letters (codes "on") then on_name else
    first_place text letters all

abbrev pub known_or : Option Token → ℕ → Token
known_or (Some token) place = token
known_or None place = t.Name place

abbrev pub token_by : Lexeme → Dictionary → List ℕ → List Placed → List ℕ → Token
token_by (x.Number n) scope text all letters = t.Number n
token_by (x.Sign o) scope text all letters = t.Sign o
token_by (x.Mark mark) scope text all letters = t.Mark mark
token_by x.Name scope text all letters = known_or (meaning scope letters) (name_number text letters all)

abbrev pub token_of : Dictionary → List ℕ → List Placed → Placed → Token
token_of scope text all p = token_by p.lexeme scope text all (letters_of text p)

-- what the lexemes of a text mean
abbrev pub tokens_of : Dictionary → List ℕ → List Placed → List Token
tokens_of scope text all = map (token_of scope text all) all
