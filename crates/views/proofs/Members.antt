-- The members of the figures of a run, and some text for each of them.
use Rattle.std.specs.Prelude.{◌≡◌, ℕ, Bool, Option, true, false, List, [], ◌++◌, codes}
use Rattle.std.proofs.Common.{refl, subst, sym}
use Rattle.cli.specs.declared.command.Format.TheVariants as format
use Rattle.views.specs.Tables.{IsAfter, IsBoth, IsRest, IsTable, table_text}
use Rattle.views.specs.Views.{Begins, Prints}
use Rattle.views.proofs.Tabled.{no_table}

abbrev pub summary : List ℕ → Type 0
summary = IsAfter (codes "{\"summary\": ") (IsTable format.Json)

abbrev pub spreads : List ℕ → Type 0
spreads = IsAfter (codes ",\n\"spreads\": ") (IsTable format.Json)

abbrev pub busiest : List ℕ → Type 0
busiest = IsAfter (codes ",\n\"busiest\": ") (IsTable format.Json)

abbrev pub totals : List ℕ → Type 0
totals = IsAfter (codes ",\n\"totals\": ") (IsTable format.Json)

some_after : (before : List ℕ) → IsAfter before (IsTable format.Json) (before ++ table_text format.Json [] [])
some_after before = (table_text format.Json [] [], no_table format.Json, refl)

pub some_spreads : spreads (codes ",\n\"spreads\": " ++ table_text format.Json [] [])
some_spreads = some_after (codes ",\n\"spreads\": ")

pub some_busiest : busiest (codes ",\n\"busiest\": " ++ table_text format.Json [] [])
some_busiest = some_after (codes ",\n\"busiest\": ")

pub some_rest : (names : Bool) → (text : List ℕ) × IsRest names text
some_rest true = (_, (codes ",\n\"totals\": " ++ table_text format.Json [] [], some_after (codes ",\n\"totals\": "), (codes "}\n", refl, refl)))
some_rest false = (codes "}\n", refl)

-- the end of the object with the table of the named numbers
abbrev pub end : List ℕ → Type 0
end = λ text. text ≡ codes "}\n"

module _ (names : Bool) (is : names ≡ true) (old new : Option (List ℕ)) where
  pub rest_begun : Begins (IsBoth totals end) old new → Begins (IsRest names) old new
  rest_begun h = subst (λ (b : Bool). Begins (IsRest b) old new) (sym is) h

  pub rest_printed : Prints (IsBoth totals end) old new → Prints (IsRest names) old new
  rest_printed h = subst (λ (b : Bool). Prints (IsRest b) old new) (sym is) h
