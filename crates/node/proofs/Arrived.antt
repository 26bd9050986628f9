-- One message that arrives at one process: what holds of all messages there, and of those sent.
use Rattle.std.proofs.Common.{◌++◌}
use Rattle.std.proofs.lemmas.Bool.{cond_both}
use Rattle.std.proofs.lemmas.List.{map-append}
use Rattle.std.proofs.lemmas.List.Concat.{flat_map-append}
use Rattle.std.specs.List.{AllByRecursion as Every}
use Rattle.eventkey.proofs.Lists.{Every-add, Every-add_all, Every-left, Every-map, Every-remove_one, Every-right, Every-weaker}
use Rattle.eventkey.specs.Bag.{IsAscending, add, is_among, remove_one}
use Rattle.eventkey.specs.Message.{IsAtMost, Message}
use Rattle.eventkey.specs.Signed.{minus}
use Rattle.eventkey.specs.declared.Sign.{Sign}
use Rattle.eventkey.specs.declared.Sign.TheVariants.{Minus, Plus}
use Rattle.eventkey.specs.declared.Signed.{Signed}
use Rattle.queues.proofs.Arrivals.{undone_from}
use Rattle.queues.proofs.Places.{but_last-last_of, map-last_of}
use Rattle.queues.specs.Record.{Record, messages, sent_in}
use Rattle.queues.specs.Queue.{Queue, arrived, back, but_last, last_of, settle, wait_again}
use Rattle.process.proofs.Arrivals.{IsFine}
use Rattle.process.specs.Process.{Process, arrive, queue_of, cancelled_sends}

settle_parts : (sign : Sign) (m : Message) (k : Queue) (P : Message → Type 0) → P m → Every P k.waiting → Every P k.antis →
    Every P (settle (record { sign = sign; message = m }) k).waiting × Every P (settle (record { sign = sign; message = m }) k).antis
settle_parts Plus m k P p w a =
    cond_both (is_among m k.antis) (record k { antis = remove_one m k.antis }) (record k { waiting = add m k.waiting }) (λ (r : Queue). Every P r.waiting × Every P r.antis)
    (λ _. (w, Every-remove_one P m k.antis a)) (λ _. (Every-add P m k.waiting p w, a))
settle_parts Minus m k P p w a =
    cond_both (is_among m k.waiting) (record k { waiting = remove_one m k.waiting }) (record k { antis = add m k.antis }) (λ (r : Queue). Every P r.waiting × Every P r.antis)
    (λ _. (Every-remove_one P m k.waiting w, a)) (λ _. (w, Every-add P m k.antis p a))

-- P holds of what waits afterwards if it holds of the message, of all that is not before it, and of
-- what waited
pub arrived_parts : (s : Signed) (k : Queue) (P : Message → Type 0) → IsAscending k.done → ((x : Message) → IsAtMost s.message x → P x) → P s.message → Every P k.waiting → Every P k.antis →
    Every P (arrived s k).waiting × Every P (arrived s k).antis
arrived_parts s k P up later p w a =
    settle_parts s.sign s.message (wait_again (back s k) k) P p
    (Every-add_all P (last_of (back s k) k.done) k.waiting (Every-weaker (IsAtMost s.message) P later (last_of (back s k) k.done) (undone_from s k up)) w)
    a

module _ (P : Message → Type 0) (s : Signed) (q : Process) (h : IsFine P q) where
  sent_split : Every P (sent_in (but_last (back s (queue_of q)) q.done) ++ sent_in (last_of (back s (queue_of q)) q.done))
  sent_split = rw (← flat_map-append (λ (h : Record). h.sent) (but_last (back s (queue_of q)) q.done) (last_of (back s (queue_of q)) q.done), but_last-last_of (back s (queue_of q)) q.done) h.sent

  pub fine_arrive : P s.message → IsFine P (arrive s q)
  fine_arrive p =
      let n = back s (queue_of q) in
      let handled : Every P (messages (but_last n q.done) ++ messages (last_of n q.done)) = rw (← map-append (λ (h : Record). h.message) (but_last n q.done) (last_of n q.done), but_last-last_of n q.done) h.handled in
      let undone : Every P (last_of n (messages q.done)) = rw map-last_of at (Every-right P (messages (but_last n q.done)) (messages (last_of n q.done)) handled) in
      let parts = settle_parts s.sign s.message (wait_again n (queue_of q)) P p (Every-add_all P (last_of n (messages q.done)) q.waiting undone h.waiting) h.antis in
      record {
        handled = Every-left P (messages (but_last n q.done)) (messages (last_of n q.done)) handled;
        waiting = parts.0;
        antis = parts.1;
        sent = Every-left P (sent_in (but_last n q.done)) (sent_in (last_of n q.done)) sent_split;
      }

  pub fine_cancelled : Every (λ (t : Signed). P t.message) (cancelled_sends s q)
  fine_cancelled = Every-map (λ (t : Signed). P t.message) minus (sent_in (last_of (back s (queue_of q)) q.done))
      (Every-right P (sent_in (but_last (back s (queue_of q)) q.done)) (sent_in (last_of (back s (queue_of q)) q.done)) sent_split)
