-- The messages of a process, handled and waiting, stay its own.
use Rattle.std.proofs.Common.{ℕ, [], ◌∷◌}
use Rattle.std.specs.List.{AllByRecursion as Every}
use Rattle.std.proofs.lemmas.Bool.{cond_both}
use Rattle.std.proofs.lemmas.List.{append-nil, map-append}
use Rattle.eventkey.proofs.Lists.{Every-add, Every-add_all, Every-append, Every-left, Every-remove_one, Every-right}
use Rattle.eventkey.specs.Bag.{add, is_among, remove_one}
use Rattle.eventkey.specs.Message.{Message}
use Rattle.eventkey.specs.declared.Sign.{Sign}
use Rattle.eventkey.specs.declared.Sign.TheVariants.{Minus, Plus}
use Rattle.eventkey.specs.declared.Signed.{Signed}
use Rattle.model.specs.Meaning.{Meaning}
use Rattle.process.specs.Process.{Process, arrive, handle, queue_of, release}
use Rattle.queues.proofs.Places.{but_last-last_of}
use Rattle.queues.proofs.Releases.{Every-handled_from}
use Rattle.queues.specs.Queue.{Queue, back, but_last, last_of, settle, wait_again}
use Rattle.queues.specs.Record.{Record, handled_from, messages}

module _ (P : Message → Type 0) where
  settle_waiting : (sign : Sign) (m : Message) (k : Queue) → P m → Every P k.waiting → Every P (settle (record { sign = sign; message = m }) k).waiting
  settle_waiting Plus m k p h = cond_both (is_among m k.antis) (record k { antis = remove_one m k.antis }) (record k { waiting = add m k.waiting }) (λ (r : Queue). Every P r.waiting) (λ _. h) (λ _. Every-add P m k.waiting p h)
  settle_waiting Minus m k p h = cond_both (is_among m k.waiting) (record k { waiting = remove_one m k.waiting }) (record k { antis = add m k.antis }) (λ (r : Queue). Every P r.waiting) (λ _. Every-remove_one P m k.waiting h) (λ _. h)

  pub arrive_waiting : (s : Signed) (q : Process) → P s.message → Every P (messages q.done) → Every P q.waiting → Every P (arrive s q).waiting
  arrive_waiting s q p done waiting =
      let n : ℕ = back s (queue_of q) in
      let undone : Every P (last_of n (messages q.done)) = Every-right P (but_last n (messages q.done)) (last_of n (messages q.done)) (rw (but_last-last_of n (messages q.done)) done) in
      settle_waiting s.sign s.message (wait_again n (queue_of q)) p (Every-add_all P (last_of n (messages q.done)) q.waiting undone waiting)

  pub arrive_done : (s : Signed) (q : Process) → Every P (messages q.done) → Every P (messages (arrive s q).done)
  arrive_done s q done =
      let n : ℕ = back s (queue_of q) in
      Every-left P (messages (but_last n q.done)) (messages (last_of n q.done)) (rw (← map-append (λ (h : Record). h.message) (but_last n q.done) (last_of n q.done), but_last-last_of n q.done) done)

  pub handle_waiting : (m : Meaning) (lp : ℕ) (x : Message) (q : Process) → Every P q.waiting → Every P (handle m lp x q).waiting
  handle_waiting m lp x q h = Every-remove_one P x q.waiting h

  pub handle_done : (m : Meaning) (lp : ℕ) (x : Message) (q : Process) → P x → Every P (messages q.done) → Every P (messages (handle m lp x q).done)
  handle_done m lp x q p h = rw map-append (Every-append P (messages q.done) (x ∷ []) h (p, tt))

  pub release_done : (floor : ℕ) (q : Process) → Every P (messages q.done) → Every P (messages (release floor q).done)
  release_done floor q h = rw (← append-nil (handled_from floor q.done)) (Every-handled_from P floor q.done [] (rw append-nil h))
