use Rattle.std.proofs.Common.{◌≡◌, ◌∙◌, ◌++◌, ℕ, List, ap, false, map, refl, subst, sym}
use Rattle.eventkey.specs.Signed.{minus}
use Rattle.model.specs.Meaning.{Meaning}
use Rattle.process.proofs.Calls.{back_fits, delivered_done, delivered_is, undone_is}
use Rattle.process.proofs.Sound.{arrived_sound, done_arrived, has_history, kept_unspent}
use Rattle.process.specs.Inside.{view_of}
use Rattle.process.specs.Process.{Process, arrive}
use Rattle.process.specs.View.{HasDone, IsDelivered, IsProcessKept, IsSound, ProcessView}
use Rattle.queues.specs.Queue.{last_of}
use Rattle.queues.specs.Record.{Record, sent_in}
use Rattle.process.proofs.logical.Process.deliver.Goals as goal

pub cancel_sends-requires : goal.cancel_sends-requires
cancel_sends-requires c =
    let whole = c.self.invariant c.if-self.false in
    back_fits c.self.inside.queue (view_of c.self.inside).process whole.0 refl refl c.args.signed c.back-back.result c.in_ok-arrival.arrival c.in_ok-arrival.ensures.answer c.back-back.ensures whole.1.in_order.done

pub roll_back-requires : goal.roll_back-requires
roll_back-requires c =
    let whole = c.self.invariant c.if-self.false in
    back_fits c.self.inside.queue (view_of c.self.inside).process whole.0 refl refl c.args.signed c.back-back.result c.in_ok-arrival.arrival c.in_ok-arrival.ensures.answer c.back-back.ensures whole.1.in_order.done

-- the process that the code leaves
abbrev now_of : goal.After-self-2-1 → ProcessView
now_of c = view_of (record { alloc = c.self.inside.alloc; lp = c.self.inside.lp; floor = c.self.inside.floor; spent = false; queue = c.arrive.new.self; history = c.roll_back.new.self })

abbrev new_of : goal.After-self-2-1 → Process
new_of c = (now_of c).process

new_is : (c : goal.After-self-2-1) → new_of c ≡ arrive c.args.signed (view_of c.self.inside).process
new_is c =
    let whole = c.self.invariant c.if-self.false in
    delivered_is c.self.inside.queue (view_of c.self.inside).process whole.0 refl refl c.args.signed c.back-back.result c.in_ok-arrival.arrival c.in_ok-arrival.ensures.answer c.back-back.ensures whole.1.in_order.done
    (new_of c) c.arrive.new.self c.in_ok-arrival.ensures.arrived (last_of c.back-back.result c.self.inside.history.done) refl c.roll_back.ensures.left refl refl c.roll_back.ensures.state c.roll_back.ensures.number

pub invariant_of-self-2 : goal.invariant_of-self-2
invariant_of-self-2 c = λ _.
    let whole = c.self.invariant c.if-self.false in
    let own : c.args.signed.message.to ≡ c.self.inside.lp = sym c.to.ensures ∙ c.if-to-self.false in (
      delivered_done c.self.inside.queue (view_of c.self.inside).process whole.0 refl refl c.args.signed c.back-back.result c.in_ok-arrival.arrival c.in_ok-arrival.ensures.answer c.back-back.ensures whole.1.in_order.done
          (new_of c) c.arrive.new.self c.in_ok-arrival.ensures.arrived (last_of c.back-back.result c.self.inside.history.done) refl c.roll_back.ensures.left refl refl c.roll_back.ensures.state c.roll_back.ensures.number,
      subst (λ (q : Process). IsSound (record { lp = c.self.inside.lp; floor = c.self.inside.floor; spent = false; process = q })) (sym (new_is c)) (arrived_sound c.args.signed false (view_of c.self.inside) own whole.1),
    )

now_is : (c : goal.After-self-2-1) → now_of c ≡ record (view_of c.self.inside) { process = arrive c.args.signed (view_of c.self.inside).process }
now_is c =
    let spent = sym c.if-self.false in
    let is = new_is c in
    λ i. record { lp = c.self.inside.lp; floor = c.self.inside.floor; spent = spent i; process = is i }

done_then : (c : goal.After-self-2-1) (m : Meaning) (state : List ℕ) (number : ℕ) → HasDone m (view_of c.self.inside) state number → HasDone m (now_of c) state number
done_then c m state number h = subst (λ (v : ProcessView). HasDone m v state number) (sym (now_is c)) (done_arrived m c.args.signed (view_of c.self.inside) state number h)

pub returns-clause-delivered : goal.returns-clause-delivered
returns-clause-delivered c =
    let whole = c.self.invariant c.if-self.false in
    let undone = undone_is c.self.inside.queue (view_of c.self.inside).process whole.0 refl refl c.args.signed c.back-back.result c.in_ok-arrival.arrival c.in_ok-arrival.ensures.answer c.back-back.ensures whole.1.in_order.done
    (last_of c.back-back.result c.self.inside.history.done) refl in
    subst (λ (v : ProcessView). IsDelivered c.args.signed v (now_of c) c.args.out.now.items c.cancel_sends.new.out.items) c.self.view_is (
    record {
      process = now_is c;
      out = c.in_ok-cancel_sends.ensures.out ∙ ap (λ (hs : List Record). c.args.out.now.items ++ map minus (sent_in hs)) undone;
      done = done_then c;
    }
    )

pub returns-clause-kept : goal.returns-clause-kept
returns-clause-kept c m =
    subst (λ (v : ProcessView). IsProcessKept m v (now_of c)) c.self.view_is
    (kept_unspent m (view_of c.self.inside) (now_of c) c.if-self.false refl (λ before. has_history m (now_of c) _ _ (done_then c m _ _ before)))
