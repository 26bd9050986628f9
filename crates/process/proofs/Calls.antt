-- The fields that the calls leave make the process after the call.
use Rattle.std.proofs.Common.{◌≡◌, ℕ, ◌+◌, ◌≤◌, ◌++◌, List, [], ◌∷◌, Some, length, ap, sym, ◌∙◌, arith, subst}
use Rattle.std.proofs.lemmas.List.{length-map}
use Rattle.eventkey.specs.Bag.{IsAscending}
use Rattle.eventkey.specs.Message.{Message}
use Rattle.eventkey.specs.declared.Signed.{Signed}
use Rattle.model.proofs.Worlds.{length-stamp}
use Rattle.model.specs.Meaning.{Meaning, stamp}
use Rattle.model.specs.declared.Outgoing.{Outgoing}
use Rattle.queues.proofs.Moves.{same_queue}
use Rattle.queues.proofs.Queues.{arrivals_count_undone}
use Rattle.queues.specs.Queue.{Queue, arrival, arrived, back, back_of, but_last, first_before, last_of, released, taken}
use Rattle.queues.specs.Record.{Record, handled_from, messages, number_before, state_before}
use Rattle.queues.specs.declared.Arrival.{Arrival}
use Rattle.process.proofs.Sound.{queue_of_arrive, queue_of_handle, queue_of_release}
use Rattle.process.specs.Process.{Process, arrive, handle, handling_of, queue_of, release}

pub same_process : (p q : Process) → p.done ≡ q.done → p.waiting ≡ q.waiting → p.antis ≡ q.antis → p.state ≡ q.state → p.number ≡ q.number → p ≡ q
same_process p q d w a s n = λ i. record { done = d i; waiting = w i; antis = a i; state = s i; number = n i }

-- the queue and the history of a process that is not spent
module _ (old : Queue) (q : Process) (same : old.done ≡ messages q.done) (waits : old.waiting ≡ q.waiting) (against : old.antis ≡ q.antis) where
  pub queue_is : old ≡ queue_of q
  queue_is = same_queue old (queue_of q) same waits against

  -- 1. An arrival

  module _ (s : Signed) (n : ℕ) (reported : Arrival) (reported_is : reported ≡ arrival s old) (n_is : n ≡ back_of reported) (up : IsAscending (messages q.done)) where
    reports : (n ≡ back s old) × (n ≤ length old.done)
    reports =
        let both = arrivals_count_undone s old (subst IsAscending (sym same) up) in
        let is : n ≡ back s old = n_is ∙ (ap back_of reported_is ∙ both.0) in
        (is, subst (λ (k : ℕ). k ≤ length old.done) (sym is) both.1)

    pub back_fits : n ≤ length q.done
    back_fits = let long = reports.1 in let same_long = ap length same ∙ length-map q.done (λ (h : Record). h.message) in omega arith

    back_is : n ≡ back s (queue_of q)
    back_is = reports.0 ∙ ap (back s) queue_is

    pub undone_is : (undone : List Record) → undone ≡ last_of n q.done → undone ≡ last_of (back s (queue_of q)) q.done
    undone_is undone u = u ∙ ap (λ (k : ℕ). last_of k q.done) back_is

    module _ (new : Process) (now : Queue) (now_is : now ≡ arrived s old) (undone : List Record) (u : undone ≡ last_of n q.done)
        (d : new.done ≡ but_last n q.done) (w : new.waiting ≡ now.waiting) (a : new.antis ≡ now.antis)
        (t : new.state ≡ state_before undone q.state) (k : new.number ≡ number_before undone q.number) where
      now_arrived : now ≡ arrived s (queue_of q)
      now_arrived = now_is ∙ ap (arrived s) queue_is

      pub delivered_is : new ≡ arrive s q
      delivered_is =
          let u' = undone_is undone u in
          same_process new (arrive s q) (d ∙ ap (λ (i : ℕ). but_last i q.done) back_is) (w ∙ ap (λ (r : Queue). r.waiting) now_arrived) (a ∙ ap (λ (r : Queue). r.antis) now_arrived)
          (t ∙ ap (λ (hs : List Record). state_before hs q.state) u') (k ∙ ap (λ (hs : List Record). number_before hs q.number) u')

      pub delivered_done : now.done ≡ messages new.done
      delivered_done = ap (λ (r : Queue). r.done) (now_arrived ∙ sym (queue_of_arrive s q)) ∙ ap (λ (r : Process). messages r.done) (sym delivered_is)

  -- 2. A handling

  module _ (m : Meaning) (lp end : ℕ) (x : Message) (e : first_before end q.waiting ≡ Some x) (new : Process) (now : Queue) (now_is : now ≡ taken end old) (r : Record) (r_is : r ≡ handling_of m lp x q)
      (d : new.done ≡ q.done ++ r ∷ []) (w : new.waiting ≡ now.waiting) (a : new.antis ≡ now.antis)
      (t : new.state ≡ m.next_state lp q.state x) (k : new.number ≡ q.number + length (m.sends lp q.state x)) where
    now_taken : now ≡ queue_of (handle m lp x q)
    now_taken = now_is ∙ (ap (taken end) queue_is ∙ sym (queue_of_handle m lp end x q e))

    pub handled_is : new ≡ handle m lp x q
    handled_is =
        same_process new (handle m lp x q) (d ∙ ap (λ (h : Record). q.done ++ h ∷ []) r_is) (w ∙ ap (λ (c : Queue). c.waiting) now_taken) (a ∙ ap (λ (c : Queue). c.antis) now_taken) t
        (k ∙ ap (λ (i : ℕ). q.number + i) (sym (length-stamp lp x.time q.number (m.sends lp q.state x))))

    pub handled_done : now.done ≡ messages new.done
    handled_done = ap (λ (c : Queue). c.done) now_taken ∙ ap (λ (c : Process). messages c.done) (sym handled_is)

  -- 3. A collection

  module _ (floor : ℕ) (up : IsAscending (messages q.done)) (new : Process) (now : Queue) (now_is : now ≡ released floor old)
      (d : new.done ≡ handled_from floor q.done) (w : new.waiting ≡ now.waiting) (a : new.antis ≡ now.antis) (t : new.state ≡ q.state) (k : new.number ≡ q.number) where
    now_released : now ≡ queue_of (release floor q)
    now_released = now_is ∙ (ap (released floor) queue_is ∙ sym (queue_of_release floor q up))

    pub collected_is : new ≡ release floor q
    collected_is = same_process new (release floor q) d (w ∙ ap (λ (c : Queue). c.waiting) now_released) (a ∙ ap (λ (c : Queue). c.antis) now_released) t k

    pub collected_done : now.done ≡ messages new.done
    collected_done = ap (λ (c : Queue). c.done) now_released ∙ ap (λ (c : Process). messages c.done) (sym collected_is)

-- as many messages as the model sends
pub sent_long : (lp time number : ℕ) (slice sent : List Message) (os sends : List Outgoing) → slice ≡ sent → sent ≡ stamp lp time number os → os ≡ sends → length slice ≡ length sends
sent_long lp time number slice sent os sends a b c = ap length (a ∙ b) ∙ (length-stamp lp time number os ∙ ap length c)
