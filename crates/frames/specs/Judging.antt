-- A judge of a node's reports: what it knows of each process, and which reports it accepts.
use Rattle.std.specs.List.{slice_get}
use Rattle.std.specs.Prelude.{Bool, List, Some, [], ◌++◌, ◌∷◌, filter, if◌then◌else◌, length, nat_eq, nat_le}
use Rattle.std.specs.Prelude.{set, suc, true, zero, ℕ, ◌+◌, ◌/◌, ◌<◌, ◌≡◌, ◌≤◌, ◌^◌}
use Rattle.model.specs.Meaning.{Meaning}
use Rattle.node.specs.declared.Part.{Part}
use Rattle.frames.specs.declared.judging.differences.ReportDifference.{ReportDifference}
use Rattle.process.specs.Consistent.{AreConsistent}
use Rattle.process.specs.declared.Done.{Done}

-- what is known of a process: its state and its send number after its last report, or those of the
-- load before its first, and the number of its reports since one was judged
pub record Known : Type 0 where
  pub lp : ℕ
  pub words : List ℕ
  pub number : ℕ
  pub passed : ℕ

-- what is known of a process that has just been loaded: its first report is judged
abbrev pub loaded_known : ℕ → Part → Known
loaded_known every part = record {
  lp = part.lp;
  words = part.words;
  number = part.number;
  passed = every;
}

-- one report in `every` is judged
abbrev pub is_due : ℕ → Known → Bool
is_due every k = nat_le every (k.passed + 1)

-- what is known after this report
abbrev pub moved : ℕ → Done → Known → Known
moved every d k = record {
  lp = k.lp;
  words = d.after;
  number = d.number_after;
  passed = if is_due every k then 0 else k.passed + 1;
}

-- A reported handling is what the model does with its message, from what is known of its process:
-- its sends, the state words and the send number after it.
abbrev pub IsOfModel : Meaning → Known → Done → Type 0
IsOfModel m k d = (k.lp < m.lps) × AreConsistent m k.lp k.words k.number (d ∷ [])

-- A report is of this process, its numbers lie in their ranges, and if it is due to be judged, it is
-- what the model does.
pub record IsAccepted (m : Meaning) (every : ℕ) (k : Known) (d : Done) : Type 0 where
  pub own : d.message.to ≡ k.lp
  pub words : length d.after ≤ 16
  pub number : d.number_after ≤ 2 ^ 63
  pub judged : is_due every k ≡ true → IsOfModel m k d

-- this report is accepted by what is known: process lp is at place lp / nodes
abbrev pub IsOneAccepted : Meaning → ℕ → ℕ → List Known → Done → Type 0
IsOneAccepted m every nodes ks d =
    (k : Known) × (slice_get ks (d.message.to / nodes) ≡ Some k) × IsAccepted m every k d

-- These reports are accepted one after another, each by what is then known. The last list is what is
-- known after them.
abbrev pub AreAccepted : Meaning → ℕ → ℕ → List Known → List Done → List Known → Type 0
AreAccepted m every nodes ks [] ks' = ks' ≡ ks
AreAccepted m every nodes ks (d ∷ ds) ks' =
    (k : Known) × (slice_get ks (d.message.to / nodes) ≡ Some k) × IsAccepted m every k d
    × AreAccepted m every nodes (set ks (d.message.to / nodes) (moved every d k)) ds ks'

-- the event of a report
abbrev pub event_of : Done → ReportDifference
event_of d = record { process = d.message.to; time = d.message.time }

-- The first of these reports that is not accepted is one of this event: those before it are accepted,
-- and it is not accepted by what is then known.
pub record IsFirstRefused (m : Meaning) (every nodes : ℕ) (ks : List Known) (ds : List Done)
    (event : ReportDifference) : Type 0 where
  pub before : List Done
  pub report : Done
  pub after : List Done
  pub known : List Known
  pub split : ds ≡ before ++ report ∷ after
  pub accepted : AreAccepted m every nodes ks before known
  pub differs : IsOneAccepted m every nodes known report → ⊥
  pub event_is : event ≡ event_of report

-- reports that are accepted, where 0 judges nothing
abbrev pub AreJudged : Meaning → ℕ → ℕ → List Known → List Done → List Known → Type 0
AreJudged m zero nodes ks ds ks' = ks' ≡ ks
AreJudged m (suc gap) nodes ks ds ks' = AreAccepted m (suc gap) nodes ks ds ks'

-- the reports of one process, in their order
abbrev pub reports_of : ℕ → List Done → List Done
reports_of lp ds = filter (λ (d : Done). nat_eq d.message.to lp) ds

-- The reports of each known process are what the model does, from what is known of it.
abbrev pub AreOfModel : Meaning → ℕ → List Known → List Done → Type 0
AreOfModel m nodes ks ds = (k : Known) → slice_get ks (k.lp / nodes) ≡ Some k →
    AreConsistent m k.lp k.words k.number (reports_of k.lp ds)
