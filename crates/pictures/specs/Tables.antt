-- The figures of a run as texts: a table, and comma-separated values.
use Rattle.std.specs.Prelude.{ℕ, ◌-◌, ◌/◌, ◌%◌, List, [], ◌∷◌, ◌++◌, codes, decimal, flat_map}
use Rattle.std.specs.Prelude.{length, replicate}
use Rattle.pictures.specs.Filled.{filled}
use Rattle.pictures.specs.declared.counted.Busy.{Busy}
use Rattle.pictures.specs.declared.counted.Figures.{Figures}
use Rattle.pictures.specs.declared.counted.Spread.{Spread}
use Rattle.pictures.specs.declared.tables.TheConstants.{BUSIEST, CSV, CSV_ROW, SPREADS, SUMMARY}

-- a number, right-aligned in a column of 12 characters
abbrev pub right : ℕ → List ℕ
right n = replicate (12 - length (decimal n)) 32 ++ decimal n

-- a line: a label, and a column for each number
abbrev pub columns_text : List ℕ → List ℕ → List ℕ
columns_text label numbers = label ++ flat_map right numbers ++ codes "\n"

abbrev pub spread_numbers : Spread → List ℕ
spread_numbers s = s.least ∷ s.median ∷ s.most ∷ []

abbrev pub busy_numbers : Busy → List ℕ
busy_numbers b = b.process ∷ b.events ∷ b.sends ∷ []

-- the three digits of thousandths
abbrev pub first_digit : ℕ → ℕ
first_digit n = n / 100

abbrev pub second_digit : ℕ → ℕ
second_digit n = n / 10 % 10

abbrev pub third_digit : ℕ → ℕ
third_digit n = n % 10

-- the table: a summary line, a line for each spread, and a line for each of the busiest processes
abbrev pub stats_text : Figures → List ℕ
stats_text f =
    filled SUMMARY.now (f.events ∷ f.pending ∷ f.processes ∷ f.time ∷ f.rate.whole
    ∷ first_digit f.rate.thousandths ∷ second_digit f.rate.thousandths
    ∷ third_digit f.rate.thousandths ∷ [])
    ++ SPREADS.now
    ++ columns_text (codes "handled   ") (spread_numbers f.handled)
    ++ columns_text (codes "sent      ") (spread_numbers f.sent)
    ++ columns_text (codes "delay     ") (spread_numbers f.delay)
    ++ BUSIEST.now
    ++ flat_map (λ (b : Busy). columns_text [] (busy_numbers b)) f.busiest

-- the same figures as comma-separated values, with a line of names before each of three tables
abbrev pub csv_text : Figures → List ℕ
csv_text f =
    filled CSV.now (f.time ∷ f.processes ∷ f.events ∷ f.pending ∷ f.rate.whole
    ∷ first_digit f.rate.thousandths ∷ second_digit f.rate.thousandths
    ∷ third_digit f.rate.thousandths
    ∷ f.handled.least ∷ f.handled.median ∷ f.handled.most
    ∷ f.sent.least ∷ f.sent.median ∷ f.sent.most
    ∷ f.delay.least ∷ f.delay.median ∷ f.delay.most ∷ [])
    ++ flat_map (λ (b : Busy). filled CSV_ROW.now (busy_numbers b)) f.busiest
