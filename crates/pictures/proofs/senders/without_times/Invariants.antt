use Rattle.std.proofs.Common.{◌≡◌, ◌<◌, ℕ, List, get_or, length}
use Rattle.pictures.specs.Senders.{IsSender}
use Rattle.pictures.specs.declared.senders.Sender.{Sender}
use Rattle.pictures.proofs.senders.without_times.Given as goal

abbrev pub invariant-loop-sender : goal.invariant-loop-sender
invariant-loop-sender l = record {
  long : length l.short.items ≡ l.sender-index;
  each : (lp : ℕ) (d : Sender) → lp < length l.short.items → (e : Sender) (times : List ℕ) → IsSender times (get_or l.senders lp e) → IsSender times (get_or l.short.items lp d);
}
