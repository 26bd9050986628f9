use Rattle.std.proofs.Common.{◌≡◌, false, refl, subst, sym}
use Rattle.process.proofs.Calls.{collected_done, collected_is}
use Rattle.process.proofs.Sound.{done_collected, fossils_in_range, has_history, kept_unspent, released_sound}
use Rattle.process.specs.Inside.{view_of}
use Rattle.process.specs.Process.{Process, fossils_of, number_after, release, state_after}
use Rattle.process.specs.Consistent.{AreConsistent}
use Rattle.process.specs.View.{HasDone, IsCollected, IsProcessKept, IsSound, ProcessView}
use Rattle.process.proofs.logical.Process.collect_into.Goals as goal

-- the process that the code leaves
abbrev now_of : goal.After-self-3-1 → ProcessView
now_of c = view_of (record { alloc = c.self.inside.alloc; lp = c.self.inside.lp; floor = c.args.floor; spent = false; queue = c.release.new.self; history = c.release-2.new.self })

new_is : (c : goal.After-self-3-1) → (now_of c).process ≡ release c.args.floor (view_of c.self.inside).process
new_is c =
    let whole = c.self.invariant c.if-self.false in
    collected_is c.self.inside.queue (view_of c.self.inside).process whole.0 refl refl c.args.floor whole.1.in_order.done (now_of c).process c.release.new.self c.release.ensures c.in_ok-release.ensures.left refl refl c.release-2.ensures.state c.release-2.ensures.number

pub invariant_of-self-2 : goal.invariant_of-self-2
invariant_of-self-2 c = λ _.
    let whole = c.self.invariant c.if-self.false in (
      collected_done c.self.inside.queue (view_of c.self.inside).process whole.0 refl refl c.args.floor whole.1.in_order.done (now_of c).process c.release.new.self c.release.ensures c.in_ok-release.ensures.left refl refl c.release-2.ensures.state c.release-2.ensures.number,
      subst (λ (q : Process). IsSound (record { lp = c.self.inside.lp; floor = c.args.floor; spent = false; process = q })) (sym (new_is c)) (released_sound c.args.floor false (view_of c.self.inside) whole.1),
    )

collected : (c : goal.After-self-3-1) → IsCollected c.args.floor (view_of c.self.inside) (now_of c) c.args.fossils.now c.release-2.new.fossils
collected c =
    let v = view_of c.self.inside in
    let spent = sym c.if-self.false in
    let is = new_is c in
    let now : now_of c ≡ record v { floor = c.args.floor; process = release c.args.floor v.process } = λ i. record { lp = v.lp; floor = c.args.floor; spent = spent i; process = is i } in
    record {
      fossils = c.in_ok-release.ensures.reported;
      process = now;
      range = fossils_in_range c.args.floor v (c.self.invariant c.if-self.false).1;
      done = λ m state number h.
          subst (λ (w : ProcessView). AreConsistent m v.lp state number (fossils_of c.args.floor v.process) × HasDone m w (state_after (fossils_of c.args.floor v.process) state) (number_after (fossils_of c.args.floor v.process) number))
          (sym now) (done_collected m c.args.floor v state number h);
    }

pub returns-clause-collected : goal.returns-clause-collected
returns-clause-collected c = subst (λ (v : ProcessView). IsCollected c.args.floor v (now_of c) c.args.fossils.now c.release-2.new.fossils) c.self.view_is (collected c)

pub returns-clause-kept : goal.returns-clause-kept
returns-clause-kept c m =
    subst (λ (v : ProcessView). IsProcessKept m v (now_of c)) c.self.view_is
    (kept_unspent m (view_of c.self.inside) (now_of c) c.if-self.false refl (λ before. has_history m (now_of c) _ _ ((collected c).done m _ _ before).1))
