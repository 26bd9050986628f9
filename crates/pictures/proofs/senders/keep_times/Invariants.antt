use Rattle.std.specs.List.{AllByRecursion as Every}
use Rattle.std.proofs.Common.{take}
use Rattle.pictures.specs.Run.{Run}
use Rattle.pictures.specs.Senders.{AreSenders, HaveTime, HaveTimes}
use Rattle.pictures.proofs.senders.keep_times.Given as goal

abbrev pub invariant-loop-message : goal.invariant-loop-message
invariant-loop-message l = (r : Run) → AreSenders r l.senders → AreSenders r l.initial.short.items → Every (HaveTime r l.senders) l.messages →
    HaveTimes r r l.initial.short.items l.short.items × Every (HaveTime r l.short.items) (take l.message-index l.messages)
