-- The handlings that a process has not reported yet, kept as the bytes of their reports.
use Rattle.std.specs.Prelude.{ℕ, ◌+◌, ◌≤◌, ◌≡◌, nat_lt, if◌then◌else◌, List, [], ◌∷◌, ◌++◌}
use Rattle.std.specs.Prelude.{length, map, drop, Option, Some, None}
use Rattle.process.specs.Reports.{AreReports, done_bytes, reports_in}
use Rattle.process.specs.declared.Done.{Done}

-- 1. For callers

-- the time of the first of these handlings, if there are any
abbrev pub first_reported : List Done → Option ℕ
first_reported [] = None
first_reported (d ∷ ds) = Some d.message.time

-- the number of leading handlings before the time
abbrev pub count_before : ℕ → List Done → ℕ
count_before c [] = 0
count_before c (d ∷ ds) = if nat_lt d.message.time c then count_before c ds + 1 else 0

-- the last of these handlings, if there are any
abbrev pub IsLastOf : List Done → Option Done → Type 0
IsLastOf ds (Some d) = (front : List Done) × (ds ≡ front ++ d ∷ [])
IsLastOf ds None = ds ≡ []

-- 2. Inside: where the reports lie

-- the number of bytes of each report
abbrev pub lengths_of : List Done → List ℕ
lengths_of ds = map (λ (d : Done). length (done_bytes d)) ds

-- the handlings whose reports lie from `start` on, as many as there are lengths
abbrev pub handlings_in : ℕ → List ℕ → List ℕ → List Done
handlings_in start lengths bytes = reports_in (length lengths) (drop start bytes)

-- the bytes from `start` on are reports of these lengths
pub record HoldHandlings (start : ℕ) (lengths bytes : List ℕ) : Type 0 where
  pub begins : start ≤ length bytes
  pub reports : AreReports (length lengths) (drop start bytes)
  pub each : lengths ≡ lengths_of (handlings_in start lengths bytes)
