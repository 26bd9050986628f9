use Rattle.std.specs.List.{AllByRecursion as Every}
use Rattle.std.proofs.Common.{◌≡◌, filter, take}
use Rattle.pictures.specs.Drawing.{sendings}
use Rattle.pictures.specs.Run.{Run, is_from}
use Rattle.pictures.specs.Senders.{AreSenders, HaveTime}
use Rattle.pictures.proofs.diagrams.sent_from.Given as goal

abbrev pub invariant-loop-message : goal.invariant-loop-message
invariant-loop-message l = (r : Run) → AreSenders r l.senders → Every (HaveTime r l.senders) l.messages → l.late.items ≡ sendings r (filter (is_from l.time) (take l.message-index l.messages))
