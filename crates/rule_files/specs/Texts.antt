-- Which text is which rule.
use Rattle.std.specs.Prelude.{◌≡◌, ℕ, ◌≤◌, List, Option, None, Bool, true, Result, Ok, Err, length, nat_lt, if◌then◌else◌}
use Rattle.rule_files.specs.declared.grammar.lexemes.Placed.{Placed}
use Rattle.rule_files.specs.declared.grammar.read.ReadError.{ReadError}
use Rattle.rule_files.specs.declared.grammar.read.ReadError.TheVariants.{Memory, Mistaken}
use Rattle.rule_files.specs.declared.grammar.token.Token.{Token}
use Rattle.rule_files.specs.Lexical.{Splits, lexemes_at}
use Rattle.rule_files.specs.ReadingValues.{◌>>=◌}
use Rattle.rule_files.specs.ReadingStatements.{rule_at}
use Rattle.rule_files.specs.Scopes.{Dictionary, has_sort, tokens_of}
use Rattle.rule_files.specs.Sends.{are_right}
use Rattle.rule_files.specs.Statements.{Acts, SpellsRule}

-- the text, of at most 65,536 bytes, is the rule: what its lexemes mean in the scope forms these statements, and each `send` among them is right
pub record IsRule (scope : Dictionary) (text : List ℕ) (acts : Acts) : Type 0 where
  pub short : length text ≤ 65536
  pub lexemes : List Placed
  pub split : Splits 0 text lexemes
  pub spelled : SpellsRule acts (tokens_of scope text lexemes)
  pub right : are_right (has_sort scope) (tokens_of scope text lexemes) ≡ true

-- the text is a rule
pub record SomeRule (scope : Dictionary) (text : List ℕ) : Type 0 where
  pub acts : Acts
  pub rule : IsRule scope text acts

-- an error for lack of memory alone
abbrev pub IsForMemory : ReadError → Type 0
IsForMemory Memory = Unit {0}
IsForMemory (Mistaken m) = ⊥

-- these statements, unless memory ran out
abbrev pub Yields : {X : Type 0} → (X → Acts) → Result X ReadError → Acts → Type 0
Yields view (Ok x) acts = view x ≡ acts
Yields view (Err e) acts = IsForMemory e

-- the statements that tokens form, if each `send` among them is right
unfoldable pub formed_at : (sorted : Bool) → List Token → Option Acts
formed_at sorted tokens = if are_right sorted tokens then rule_at tokens else None

-- the statements of a text, by one pass over its lexemes
unfoldable pub read_at : Dictionary → List ℕ → Option Acts
read_at scope text = if nat_lt 65536 (length text) then None else (lexemes_at text >>= λ lexemes. formed_at (has_sort scope) (tokens_of scope text lexemes))
