-- How a world goes on to a bound, and what that says of the sequential simulation.
use Rattle.std.specs.Prelude.{Err, IfErr, Ok, OnErr, OnOk, Result, Some, nat_le, nat_lt}
use Rattle.std.specs.List.{AllByRecursion as Every, slice_get}
use Rattle.std.proofs.Common.{◌≡◌, ◌≤◌, ◌<◌, ◌+◌, ◌-◌, ◌^◌, ◌++◌, ◌∷◌, ◌∙◌, ℕ, zero, suc, List, drop, length, max, true, refl, sym, ap, subst, arith}
use Rattle.std.proofs.lemmas.Bool.{and_parts, ltb-true}
use Rattle.std.proofs.lemmas.List.{length-append}
use Rattle.eventkey.proofs.Lists.{Every-weaker}
use Rattle.eventkey.specs.Bag.{IsAscending}
use Rattle.eventkey.specs.Message.{Message}
use Rattle.model.specs.Meaning.{IsLawful, Meaning}
use Rattle.model.specs.Runner.{IsIdle, IsLimited, IsRun, RunsTo, is_due}
use Rattle.model.specs.World.{IsUpto, IsWorld, Reaches, World, at_time, number_of, opening, state_of}
use Rattle.model.proofs.Runs.{first_is, idle_late, not_idle}
use Rattle.model.proofs.Steps.{Reaches-at_time, Reaches-sooner}
use Rattle.model.proofs.Worlds.{Reaches-append, Reaches_IsWorld, log_goes_on, step_is}
use Rattle.plain.specs.Going.{IsAtLimit, IsLeast, IsOn}

module _ (m : Meaning) (end bound : ℕ) (old new : World) (within : bound ≤ end) where
  steps-before-end : (n : ℕ) (w : World) → Reaches m bound n old w → Reaches m end n (at_time 0 old) (at_time 0 w)
  steps-before-end n w reached = Reaches-at_time m end 0 n old w (Reaches-sooner m bound end n old w within reached)

  pub went_on : old.time ≤ bound → RunsTo m bound old new → IsOn m end old new
  went_on later ran =
      let time : new.time ≡ bound = omega (arith, ran.time, later) in
      record {
        steps = ran.run.steps;
        reached = steps-before-end ran.run.steps (at_time old.time new) ran.run.reached;
        later = omega (arith, time, later);
        within = omega (arith, time, within);
        left = subst (λ (t : ℕ). IsIdle t new) (sym time) ran.left;
      }

  pub at_limit : IsUpto m end old.time old → IsRun m bound old new → IsLimited m bound new → IsAtLimit m end
  at_limit upto run limited = record {
    steps = upto.steps + run.steps;
    world = at_time 0 new;
    reached = Reaches-append m end upto.steps run.steps (opening m) (at_time 0 old) (at_time 0 new) upto.reached (steps-before-end run.steps new run.reached);
    limited = record { least = limited.least; rest = limited.rest; pending = limited.pending; early = omega (arith, limited.early, within); over = limited.over };
  }

-- nothing is handled before a bound before which nothing is pending
idle-stays : (m : Meaning) (bound n : ℕ) (old w : World) → IsIdle bound old → Reaches m bound n old w → w ≡ old
idle-stays m bound zero old w idle reached = reached
idle-stays m bound (suc n) old w idle reached =
    let s = step_is m bound old reached.0 reached.1 in
    let can = and_parts (nat_lt s.0.time bound) (nat_le (number_of old s.0.to + length (m.sends s.0.to (state_of old s.0.to) s.0)) (2 ^ 63)) s.4 in
    absurd (not_idle bound old s.0 s.1 s.2 (ltb-true s.0.time bound can.0) idle)

pub same-log : (m : Meaning) (bound : ℕ) (old new : World) → IsIdle bound old → RunsTo m bound old new → new.log ≡ old.log
same-log m bound old new idle ran = ap (λ (w : World). w.log) (idle-stays m bound ran.run.steps old (at_time old.time new) idle ran.run.reached)

module _ (m : Meaning) (end : ℕ) where
  pub stood : (w : World) → w.time ≤ end → IsIdle w.time w → IsOn m end w w
  stood w within left = record { steps = 0; reached = refl; later = omega arith; within = within; left = left }

  pub went_further : (old mid new : World) → IsOn m end old mid → IsOn m end mid new → IsOn m end old new
  went_further old mid new first second = record {
    steps = first.steps + second.steps;
    reached = Reaches-append m end first.steps second.steps (at_time 0 old) (at_time 0 mid) (at_time 0 new) first.reached second.reached;
    later = omega (arith, first.later, second.later);
    within = second.within;
    left = second.left;
  }

  pub logged_more : (old new : World) → IsOn m end old new → (more : List Message) × (new.log ≡ old.log ++ more)
  logged_more old new on = log_goes_on m end on.steps (at_time 0 old) (at_time 0 new) on.reached

  pub log-longer : (old new : World) → IsOn m end old new → length old.log ≤ length new.log
  log-longer old new on =
      let more = logged_more old new on in
      let e = ap length more.1 in
      let f = length-append old.log more.0 in
      omega (arith, e, f)

  pub still_world : (old new : World) → IsLawful m → end ≤ 2 ^ 40 → IsWorld m.lps old → IsOn m end old new → IsWorld m.lps new
  still_world old new law short is on =
      let made = Reaches_IsWorld m end on.steps (at_time 0 old) (at_time 0 new) law short (record { states = is.states; numbers = is.numbers; ascending = is.ascending; addressed = is.addressed; words = is.words }) on.reached in
      record { states = made.states; numbers = made.numbers; ascending = made.ascending; addressed = made.addressed; words = made.words }

  -- the simulation up to a later time before which nothing is pending
  pub upto-later : (w : World) (time : ℕ) → w.time ≤ time → IsIdle time w → IsUpto m end w.time w → IsUpto m end time (at_time time w)
  upto-later w time later idle upto = record {
    steps = upto.steps;
    reached = upto.reached;
    time = refl;
    logged = Every-weaker (λ (x : Message). x.time < w.time) (λ (x : Message). x.time < time) (λ x h. omega (arith, h, later)) w.log upto.logged;
    left = idle;
  }

  -- after the events of one virtual time
  pub least-after : (every : ℕ) (start old new : World) (time : ℕ) → IsIdle time old → old.time ≤ time → new.time ≡ suc time
      → length old.log < length start.log + max every 1 → IsUpto m end old.time old → IsUpto m end new.time new → IsLeast m end every start new
  least-after every start old new time idle later time_is few upto next = record {
    time = time;
    before = at_time time old;
    upto = upto-later old time later idle upto;
    few = few;
    last = new;
    next = subst (λ (t : ℕ). IsUpto m end t new) time_is next;
    all = refl;
  }

  -- if there is no event before the end
  pub least-none : (every : ℕ) (start new : World) → start.time < end → IsIdle end start → new.time ≡ end → new.log ≡ start.log
      → IsUpto m end start.time start → IsUpto m end new.time new → IsLeast m end every start new
  least-none every start new early idle time_is log upto next = record {
    time = end - 1;
    before = at_time (end - 1) start;
    upto = upto-later start (end - 1) (omega (arith, early)) (Every-weaker (λ (x : Message). end ≤ x.time) (λ (x : Message). end - 1 ≤ x.time) (λ x h. omega (arith, h)) start.pending idle) upto;
    few = omega arith;
    last = new;
    next = subst (λ (t : ℕ). IsUpto m end t new) (omega (arith, time_is, early)) next;
    all = refl;
  }

  pub least-same : (every : ℕ) (start old new : World) → new.log ≡ old.log → IsLeast m end every start old → IsLeast m end every start new
  least-same every start old new log least = record { time = least.time; before = least.before; upto = least.upto; few = least.few; last = least.last; next = least.next; all = log ∙ least.all }

-- 2. The least pending message

module _ (x : Message) (w : World) (first : Some x ≡ slice_get w.pending 0) (ascending : IsAscending w.pending) where
  pending-is : w.pending ≡ x ∷ drop 1 w.pending
  pending-is = first_is w.pending x first

  -- nothing is pending before a time that is not after it
  pub idle-before : (time : ℕ) → time ≤ x.time → IsIdle time w
  idle-before time le = idle_late time w x (drop 1 w.pending) ascending pending-is le

  -- and if nothing is, the time is not after it
  pub before-it : (time : ℕ) → IsIdle time w → time ≤ x.time
  before-it time idle = let all : Every (λ (y : Message). time ≤ y.time) (x ∷ drop 1 w.pending) = subst (Every (λ (y : Message). time ≤ y.time)) pending-is idle in all.0

  pub early : (end : ℕ) → is_due end w.pending ≡ true → x.time < end
  early end due = ltb-true x.time end (subst (λ (xs : List Message). is_due end xs ≡ true) pending-is due)

-- 3. Results

-- what holds of an error, at this error
pub on_err_of : {T E P : Type 0} (r : Result T E) (e : E) → r ≡ Err e → OnErr r P → P
on_err_of (Ok x) e is h = absurd cc
on_err_of (Err f) e is h = h

pub if_err_weaker : {T E : Type 0} {P Q : E → Type 0} (r : Result T E) → ((e : E) → P e → Q e) → IfErr r P → IfErr r Q
if_err_weaker (Ok x) so h = h
if_err_weaker (Err e) so h = so e h

pub on_ok_both : {T E P Q R : Type 0} (r : Result T E) → (P → Q → R) → OnOk r P → OnOk r Q → OnOk r R
on_ok_both (Ok x) so p q = so p q
on_ok_both (Err e) so p q = tt
