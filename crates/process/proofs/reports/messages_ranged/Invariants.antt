use Rattle.std.proofs.Common.{drop}
use Rattle.std.specs.List.{AllByRecursion as Every}
use Rattle.eventkey.specs.Message.{IsRanged}
use Rattle.process.proofs.reports.messages_ranged.Given as goal

abbrev pub invariant-loop-message : goal.invariant-loop-message
invariant-loop-message l = Every IsRanged (drop l.message-index l.messages) → Every IsRanged l.messages
