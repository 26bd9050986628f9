-- Commits that trust no node: what the reports below a time have to be, from whatever nodes they
-- come, so that a commit up to that time is the sequential simulation.
use Rattle.std.specs.List.{AllByRecursion as Every}
use Rattle.std.specs.Prelude.{◌≡◌, ℕ, ◌^◌, ◌<◌, ◌≤◌, List, filter, nat_lt}
use Rattle.eventkey.specs.Bag.{IsAscending, add_all}
use Rattle.eventkey.specs.Message.{IsRanged, Message}
use Rattle.gvt.specs.Ledger.{least_floor}
use Rattle.model.specs.Meaning.{IsLawful, Meaning}
use Rattle.model.specs.World.{IsUpto, World, number_of, state_of}
use Rattle.process.specs.Consistent.{AreConsistent}
use Rattle.process.specs.declared.Done.{Done}
use Rattle.gvt.specs.Moves.{merged, reported_before, reported_front}
use Rattle.gvt.specs.Sound.{IsSystem}
use Rattle.gvt.specs.System.{System, reported_by, reported_messages, reported_sends}

-- those of these messages that are before a time
abbrev pub early : ℕ → List Message → List Message
early c xs = filter (λ (x : Message). nat_lt x.time c) xs

-- The reports below c are those of this front: along each process they are what the model does from
-- the front's state and send number on, in message order and not before the front's time; and what
-- they handled is exactly what is below c among the front's pending messages and what they sent,
-- each message as often as it is there.
pub record AreOfFront (m : Meaning) (c : ℕ) (ds : List Done) (w : World) : Type 0 where
  pub consistent : (lp : ℕ) → lp < m.lps →
      AreConsistent m lp (state_of w lp) (number_of w lp) (reported_by lp (reported_before c ds))
  pub ascending : (lp : ℕ) → lp < m.lps →
      IsAscending (reported_messages (reported_by lp (reported_before c ds)))
  pub from : Every (λ (d : Done). w.time ≤ d.message.time) (reported_before c ds)
  pub whole :
      early c (add_all (reported_sends (reported_before c ds)) w.pending) ≡ merged c ds

-- what is known of a session over any ports: its front is the sequential simulation up to its time,
-- and every gathered report is of a process of the model, with its numbers in their ranges
pub record MayJudge (m : Meaning) (end c : ℕ) (ds : List Done) (w : World) : Type 0 where
  pub lawful : IsLawful m
  pub short : end ≤ 2 ^ 40
  pub front : IsUpto m end w.time w
  pub later : w.time ≤ c
  pub within : c ≤ end
  pub there : Every (λ (d : Done). d.message.to < m.lps) ds
  pub ranged : Every (λ (d : Done). IsRanged d.message) ds

-- A commit of such reports makes the front the sequential simulation up to c. No premise speaks of
-- nodes, ports, floors, lows or what travels.
abbrev pub JudgedCommitIsSequential : Type 0
JudgedCommitIsSequential = (m : Meaning) (end c : ℕ) (ds : List Done) (w : World) →
    MayJudge m end c ds w → AreOfFront m c ds w → IsUpto m end c (reported_front c ds w)

-- Over faithful ports nothing is refused: in a sound system state the reports below any time that
-- all nodes answered are those of its front.
abbrev pub JudgesRefuseNoTruth : Type 0
JudgesRefuseNoTruth = (m : Meaning) (end c : ℕ) (p : System) → IsSystem m end p →
    p.front.time ≤ c → c ≤ least_floor end p.floors → AreOfFront m c p.gathered p.front
