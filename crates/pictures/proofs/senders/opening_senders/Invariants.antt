use Rattle.std.proofs.Common.{◌≡◌, ◌<◌, ℕ, get_or, length, replicate}
use Rattle.pictures.specs.Senders.{IsFound, IsSender}
use Rattle.pictures.specs.declared.senders.Sender.{Sender}
use Rattle.pictures.proofs.senders.opening_senders.Given as goal

abbrev pub invariant-loop-sent : goal.invariant-loop-sent
invariant-loop-sent l = record {
  long : length l.senders.items ≡ l.sent-index;
  each : (lp : ℕ) (d : Sender) → lp < length l.senders.items → IsSender (replicate (get_or l.numbers lp 0) 0) (get_or l.senders.items lp d)
      × ((number : ℕ) → IsFound (replicate (get_or l.numbers lp 0) 0) (get_or l.senders.items lp d) number);
}
