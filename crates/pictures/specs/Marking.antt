-- What a diagram shows of a run so far, where the simulation forgets its events.
use Rattle.std.specs.List.{AllByRecursion as Every}
use Rattle.std.specs.Prelude.{ℕ, List}
use Rattle.model.specs.Meaning.{Meaning}
use Rattle.model.specs.World.{World}
use Rattle.pictures.specs.Counting.{GoesOn, HasRun}
use Rattle.pictures.specs.Drawing.{AreMarks, sendings}
use Rattle.pictures.specs.Run.{Run}
use Rattle.pictures.specs.Senders.{AreSenders, HaveTime}
use Rattle.pictures.specs.declared.diagrams.Marks.{Marks}
use Rattle.pictures.specs.declared.drawn.Frame.{Frame}
use Rattle.pictures.specs.declared.senders.Sender.{Sender}

-- the marks that a frame has of the events of a run; it has them in each later run
abbrev pub HasMarks : Run → Frame → Marks → Type 0
HasMarks r f m = (later : Run) → GoesOn r later → AreMarks f f.to (sendings later r.events) m

-- the marks of the simulation up to a world, and when the messages on their way were sent
pub record IsMarked (m : Meaning) (bound : ℕ) (w : World) (f : Frame) (all : List Sender)
    (found : Marks) : Type 0 where
  pub run : Run
  pub has : HasRun m bound run w
  pub senders : AreSenders run all
  pub pending : Every (HaveTime run all) w.pending
  pub marks : HasMarks run f found
