-- Optimistic equals sequential, as a user-level theorem: it speaks of fronts, logs and global
-- virtual time, and of no invariant.
use Rattle.std.specs.Prelude.{List, ℕ, ◌++◌, ◌^◌, ◌≡◌, ◌≤◌}
use Rattle.eventkey.specs.Message.{Message}
use Rattle.model.specs.Meaning.{IsLawful, Meaning}
use Rattle.model.specs.World.{IsUpto, World}
use Rattle.gvt.specs.Moves.{Move, after_moves}
use Rattle.gvt.specs.System.{System, gvt, opened}

-- The front is the sequential simulation up to its time, its log only grows, and global virtual
-- time never falls.
pub record IsSequential (m : Meaning) (end : ℕ) (p p' : System) : Type 0 where
  pub front : IsUpto m end p'.front.time p'.front
  pub log_grows : (more : List Message) × (p'.front.log ≡ p.front.log ++ more)
  pub gvt_rises : gvt end p ≤ gvt end p'

abbrev pub OptimisticIsSequential : Type 0
OptimisticIsSequential = (m : Meaning) (end nodes : ℕ) (w : World) (ks ls : List Move) →
    IsLawful m → end ≤ 2 ^ 40 → 1 ≤ nodes → w.time ≤ end → IsUpto m end w.time w →
    IsSequential m end (after_moves m end ks (opened m.lps nodes w))
    (after_moves m end (ks ++ ls) (opened m.lps nodes w))

-- There is one committed history, whatever the numbers of nodes and the moves: the log of an
-- earlier front begins that of a later one, and fronts of the same time are the same world.
pub record IsOneHistory (v w : World) : Type 0 where
  pub begins : v.time ≤ w.time → (more : List Message) × (w.log ≡ v.log ++ more)
  pub same : v.time ≡ w.time → v ≡ w

abbrev pub SchedulesAgree : Type 0
SchedulesAgree = (m : Meaning) (end nodes nodes' : ℕ) (u : World) (ks ls : List Move) →
    IsLawful m → end ≤ 2 ^ 40 → 1 ≤ nodes → 1 ≤ nodes' → u.time ≤ end → IsUpto m end u.time u →
    IsOneHistory (after_moves m end ks (opened m.lps nodes u)).front
    (after_moves m end ls (opened m.lps nodes' u)).front
