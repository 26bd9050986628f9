-- Tables as they are printed: as comma-separated values (RFC 4180, with lines that end in a line
-- feed alone), as JSON (RFC 8259), or as words with blanks between.
use Rattle.std.specs.Char.{digit_char}
use Rattle.std.specs.Io.KnownBytes.{Appends}
use Rattle.std.specs.List.{AllByRecursion as Every, join_by, list_any}
use Rattle.std.specs.Prelude.{◌≡◌, ◌-◌, ◌/◌, ◌%◌, ◌++◌, ◌∷◌, ◌==◌, ◌||◌, ◌&&◌, [], ℕ, Bool}
use Rattle.std.specs.Prelude.{List, None, Option, Some, codes, decimal, encode_utf8, false}
use Rattle.std.specs.Prelude.{flat_map, if◌then◌else◌, length, map, nat_lt, replicate, true}
use Rattle.cli.specs.declared.command.Format.{Format}
use Rattle.cli.specs.declared.command.Format.TheVariants as format
use Rattle.views.specs.declared.cells.Cell.{Cell}
use Rattle.views.specs.declared.cells.Cell.TheVariants as cell
use Rattle.views.specs.declared.cells.Decimal.{Decimal}
use Rattle.views.specs.declared.cells.Decimal.TheVariants as digits
use Rattle.views.specs.declared.cells.NamedCell.{NamedCell}

-- ---- values

-- what a row has in a column: nothing, a text, a whole number, or a number with decimals
-- after the point
pub data Value : Type 0 where
  missing : Value
  words : List ℕ → Value
  whole : ℕ → Value
  fraction : ℕ → ℕ → ℕ → Value

abbrev pub fraction_of : Decimal → Value
fraction_of (digits.Tenths n rest) = fraction 1 n rest
fraction_of (digits.Thousandths n rest) = fraction 3 n rest
fraction_of (digits.Millionths n rest) = fraction 6 n rest

abbrev pub value_of : Cell → Value
value_of cell.Missing = missing
value_of (cell.Text text) = words text.now
value_of (cell.Number n) = whole n
value_of (cell.Decimal d) = fraction_of d

-- a value under the name of its column
pub record Field : Type 0 where
  pub column : List ℕ
  pub value : Value

abbrev pub field_of : NamedCell → Field
field_of c = record { column = c.column.now; value = value_of c.cell }

abbrev pub field : List ℕ → Value → Field
field column value = record { column = column; value = value }

abbrev pub whole_if : Option ℕ → Value
whole_if None = missing
whole_if (Some n) = whole n

-- ---- the text of a value

-- a number after the point: that many digits, zeros first
abbrev pub places : ℕ → ℕ → List ℕ
places count n = replicate (count - length (decimal n)) 48 ++ decimal n

-- a letter, by what is written of its byte if it has only one
abbrev pub letter_text : (ℕ → List ℕ) → ℕ → List ℕ
letter_text text letter = if nat_lt letter 128 then text letter else encode_utf8 letter

-- RFC 4180: in quotes, in which a quote is doubled, where it has a quote, a comma or the end of a
-- line
abbrev pub in_field : ℕ → List ℕ
in_field byte = if byte == 34 then codes "\"\"" else byte ∷ []

abbrev pub is_special : ℕ → Bool
is_special byte = byte == 34 || (byte == 44 || (byte == 10 || byte == 13))

abbrev pub csv_field : List ℕ → List ℕ
csv_field text =
    if list_any is_special text then codes "\"" ++ (flat_map in_field text ++ codes "\"") else text

-- RFC 8259: in quotes, in which a quote, a backslash and each control character is escaped
abbrev pub in_string : ℕ → List ℕ
in_string byte = if byte == 34 then codes "\\\"" else (if byte == 92 then codes "\\\\"
    else (if nat_lt byte 32
    then codes "\\u00" ++ (digit_char (byte / 16) ∷ digit_char (byte % 16) ∷ []) else byte ∷ []))

abbrev pub json_string : List ℕ → List ℕ
json_string text = codes "\"" ++ (flat_map in_string text ++ codes "\"")

abbrev pub missing_text : Format → List ℕ
missing_text format.Text = codes "-"
missing_text format.Csv = []
missing_text format.Json = codes "null"

abbrev pub words_text : Format → List ℕ → List ℕ
words_text format.Text text = text
words_text format.Csv text = csv_field text
words_text format.Json text = json_string text

unfoldable pub value_text : Format → Value → List ℕ
value_text f missing = missing_text f
value_text f (words text) = words_text f text
value_text f (whole n) = decimal n
value_text f (fraction count n rest) = decimal n ++ (codes "." ++ places count rest)

-- ---- rows

-- what is between two values of a line
abbrev pub between : Format → List ℕ
between format.Text = codes " "
between format.Csv = codes ","
between format.Json = codes ","

-- a line for the values of a row
unfoldable pub line_text : Format → List Field → List ℕ
line_text f row = join_by (λ x. value_text f x.value) (between f) row ++ codes "\n"

-- an object for the values of a row
abbrev pub member_text : Field → List ℕ
member_text x = json_string x.column ++ (codes ": " ++ value_text format.Json x.value)

unfoldable pub object_text : List Field → List ℕ
object_text row = codes "{" ++ (join_by member_text (codes ", ") row ++ codes "}")

abbrev pub row_text : Format → List Field → List ℕ
row_text format.Text row = line_text format.Text row
row_text format.Csv row = line_text format.Csv row
row_text format.Json row = object_text row

-- ---- tables

-- what comes before the rows: a line with the names of the columns, or the begin of a list
unfoldable pub names_text : Format → List (List ℕ) → List ℕ
names_text f columns = join_by (words_text f) (between f) columns ++ codes "\n"

abbrev pub head_text : Format → List (List ℕ) → List ℕ
head_text format.Text columns = names_text format.Text columns
head_text format.Csv columns = names_text format.Csv columns
head_text format.Json columns = codes "[\n"

-- what is between two rows, and after them
abbrev pub divider : Format → List ℕ
divider format.Text = []
divider format.Csv = []
divider format.Json = codes ",\n"

abbrev pub tail_text : Format → List ℕ
tail_text format.Text = []
tail_text format.Csv = []
tail_text format.Json = codes "\n]\n"

-- the first rows of a table, or rows that come after others
unfoldable pub rows_text : Format → Bool → List (List Field) → List ℕ
rows_text f starts rows = if starts then join_by (row_text f) (divider f) rows
    else flat_map (λ row. divider f ++ row_text f row) rows

unfoldable pub table_text : Format → List (List ℕ) → List (List Field) → List ℕ
table_text f columns rows = head_text f columns ++ (rows_text f true rows ++ tail_text f)

-- a table with one row
abbrev pub row_table : Format → List Field → List ℕ
row_table f row = table_text f (map (λ x. x.column) row) (row ∷ [])

-- each row has a value in each column, in their order
abbrev pub AreUnder : List (List ℕ) → List (List Field) → Type 0
AreUnder columns rows = Every (λ row. map (λ x. x.column) row ≡ columns) rows

-- the text of a table
pub record IsTable (f : Format) (text : List ℕ) : Type 0 where
  pub columns : List (List ℕ)
  pub rows : List (List Field)
  pub under : AreUnder columns rows
  pub is : text ≡ table_text f columns rows

-- a line for each value of a row that is there, after the name of its column
abbrev pub field_line : List ℕ → Value → List ℕ
field_line column missing = []
field_line column value = column ++ (codes " " ++ (value_text format.Text value ++ codes "\n"))

unfoldable pub fields_text : List Field → List ℕ
fields_text row = flat_map (λ x. field_line x.column x.value) row

-- a row as text, or as a table with one row
abbrev pub IsFields : Format → List ℕ → Type 0
IsFields format.Text text = (row : List Field) × (text ≡ fields_text row)
IsFields format.Csv text = IsTable format.Csv text
IsFields format.Json text = IsTable format.Json text

-- the text of rows of a table
abbrev pub IsRows : Format → List (List ℕ) → Bool → List ℕ → Type 0
IsRows f columns starts text =
    (rows : List (List Field)) × AreUnder columns rows × (text ≡ rows_text f starts rows)

abbrev pub is_empty : List (List Field) → Bool
is_empty [] = true
is_empty (row ∷ rows) = false

-- The writer has taken some rows of a table, and nothing else. It says whether the next row is the
-- first one.
pub record AddsRows (f : Format) (columns : List (List ℕ)) (starts : Bool)
    (old new : Option (List ℕ)) (next : Bool) : Type 0 where
  pub rows : List (List Field)
  pub under : AreUnder columns rows
  pub appended : Appends old new (rows_text f starts rows)
  pub next_is : next ≡ (starts && is_empty rows)

-- The writer has taken what comes before the rows of a table, and then the first rows.
pub record HasRows (f : Format) (columns : List (List ℕ)) (old new : Option (List ℕ))
    (next : Bool) : Type 0 where
  pub rows : List (List Field)
  pub under : AreUnder columns rows
  pub appended : Appends old new (head_text f columns ++ rows_text f true rows)
  pub next_is : next ≡ is_empty rows

-- this text, and then one of those
abbrev pub IsAfter : List ℕ → (List ℕ → Type 0) → List ℕ → Type 0
IsAfter before is text = (more : List ℕ) × is more × (text ≡ before ++ more)

-- one of these, and then one of those
abbrev pub IsBoth : (List ℕ → Type 0) → (List ℕ → Type 0) → List ℕ → Type 0
IsBoth is more text = (first : List ℕ) × is first × IsAfter first more text

-- the figures of a run as the first members of an object of JSON, each of them a table
abbrev pub IsFigures : List ℕ → Type 0
IsFigures = IsBoth
    (IsBoth (IsAfter (codes "{\"summary\": ") (IsTable format.Json))
    (IsAfter (codes ",\n\"spreads\": ") (IsTable format.Json)))
    (IsAfter (codes ",\n\"busiest\": ") (IsTable format.Json))

-- its end, with the table of the named numbers or without it
abbrev pub IsRest : Bool → List ℕ → Type 0
IsRest true = IsBoth (IsAfter (codes ",\n\"totals\": ") (IsTable format.Json))
    (λ text. text ≡ codes "}\n")
IsRest false = λ text. text ≡ codes "}\n"

abbrev pub IsObject : Bool → List ℕ → Type 0
IsObject names = IsBoth IsFigures (IsRest names)
