-- Steps of a session, one after another, and what holds of them.
use Rattle.std.proofs.Common.{◌≡◌, ◌≤◌, ℕ, Bool, false, true, List, Ok, Err, OnOk, Option, Result, Some, [], ◌∷◌, ◌++◌, ap, ap₂, arith, map, refl, subst, sym}
use Rattle.std.specs.Prelude.{not, unwrap_or, ◌||◌}
use Rattle.std.proofs.Common.{inl, inr}
use Rattle.commitlog.specs.Log.{Opened}
use Rattle.coordinator.proofs.Driving.{carry, goes_keeps, joined, none_made, one_made, then_keeps, under}
use Rattle.coordinator.specs.Crashes.{IsTrusted}
use Rattle.coordinator.specs.Drives.{Goes, IsStep, any_trusts}
use Rattle.coordinator.specs.Opening.{AllFaithful}
use Rattle.coordinator.specs.Session.{IsConsistentSession, Running, Session, system_of, running}
use Rattle.coordinator.specs.Steps.{move_of, trusts}
use Rattle.gvt.specs.Moves.{Move}
use Rattle.coordinator.specs.declared.SessionFault.{SessionFault}
use Rattle.coordinator.specs.declared.Step.{Step}
use Rattle.disk.specs.Disk.{DiskState}
use Rattle.recovery.specs.Crashes.{IsWritten}
use Rattle.runs.specs.Driver.{AreMade, AreRoundsOfRun, IsDriven, IsDrivenBy, IsFinished, Keeps, Made, TrustsOnlyFaithful, answers_of, moves_of, steps_of, transits_of, trusts_by}
use Rattle.runs.specs.declared.rounds.Plan.{Plan}
use Rattle.eventkey.specs.declared.Signed.{Signed}
use Rattle.model.specs.Meaning.{Meaning}
use Rattle.model.specs.World.{IsUpto, World}
use Rattle.gvt.proofs.Runs.{fronts_open}
use Rattle.gvt.specs.Moves.{move}
use Rattle.gvt.specs.System.{System}
use Rattle.gvt.specs.declared.Answer.{Answer}
use Rattle.wire.specs.Port.{PortState}

pub on_ok : {T E A B : Type 0} (r : Result T E) → (A → B) → OnOk r A → OnOk r B
on_ok (Ok x) f h = f h
on_ok (Err e) f h = tt

-- Which steps trust the nodes

neither : (a b : Bool) → a ≡ false → b ≡ false → (a || b) ≡ false
neither true b first second = first
neither false b first second = second

not_first : (a b : Bool) → (a || b) ≡ false → a ≡ false
not_first true b is = is
not_first false b is = refl

not_second : (a b : Bool) → (a || b) ≡ false → b ≡ false
not_second true b is = absurd (cc)
not_second false b is = is

none_trusts : (xs ys : List Made) → any_trusts (steps_of xs) ≡ false → any_trusts (steps_of ys) ≡ false → any_trusts (steps_of (xs ++ ys)) ≡ false
none_trusts [] ys first second = second
none_trusts (x ∷ xs) ys first second =
    neither (trusts x.step) (any_trusts (steps_of (xs ++ ys))) (not_first (trusts x.step) (any_trusts (steps_of xs)) first)
    (none_trusts xs ys (not_second (trusts x.step) (any_trusts (steps_of xs)) first) second)

-- what is promised of any session, or of a consistent one, is promised of a consistent one
pub trusted : (b : Bool) (r : Running) → IsConsistentSession r → IsTrusted b r
trusted true r consistent = consistent
trusted false r consistent = tt

-- and where less is trusted, it is promised of as many sessions or more
trusts_less : (b c : Bool) (r : Running) → (b ≡ false → c ≡ false) → IsTrusted b r → IsTrusted c r
trusts_less true true r less holds = holds
trusts_less true false r less holds = tt
trusts_less false false r less holds = tt
trusts_less false true r less holds = (let no = less refl in absurd (cc))

-- what a run trusts holds of a session that is consistent over faithful ports
pub may_trust : (plan : Plan) (m : Meaning) (ports : List PortState) (r : Running) → (AllFaithful m ports → IsConsistentSession r) → TrustsOnlyFaithful plan m ports → IsTrusted (trusts_by plan) r
may_trust plan m ports r consistent (inl judged) = subst (λ (b : Bool). IsTrusted (not b) r) (sym judged) tt
may_trust plan m ports r consistent (inr faithful) = trusted (trusts_by plan) r (consistent faithful)

-- a front that records represent is the sequential simulation up to its time
written_upto : {D : Type 0} (m : Meaning) (end : ℕ) (front : World) (log : Opened D) → IsWritten m end front log → IsUpto m end front.time front × (front.time ≤ end)
written_upto m end front log is =
    let whole = is.represent.whole in
    (subst (λ (t : ℕ). IsUpto m end t front) (sym whole.upto.time) whole.upto, subst (λ (t : ℕ). t ≤ end) (sym whole.upto.time) whole.within)

-- a front within the end that has reached it
pub reached_upto : (m : Meaning) (end : ℕ) (front : World) → end ≤ front.time → IsUpto m end front.time front × (front.time ≤ end) → IsUpto m end end front
reached_upto m end front late is = (let same : front.time ≡ end = omega (arith, late, is.1) in subst (λ (t : ℕ). IsUpto m end t front) same is.0)

module _ {M P D : Type 0} (meaning : M → Meaning) (state : P → PortState) (disk : D → DiskState) where
  pub steps_join : (xs ys : List Made) (old mid new : Session M P D) → AreMade meaning state disk xs old mid → AreMade meaning state disk ys mid new → AreMade meaning state disk (xs ++ ys) old new
  steps_join [] ys old mid new first second = subst (λ (s : Session M P D). AreMade meaning state disk ys s new) first second
  steps_join (x ∷ xs) ys old mid new first second = (first.0, first.1, first.2, steps_join xs ys first.0 mid new first.3 second)

  trusting : (b c : Bool) (ks : List Move) (old new : Session M P D) → (b ≡ false → c ≡ false) → Goes meaning state disk c ks old new → Goes meaning state disk b ks old new
  trusting b c ks old new less goes = record {
    model_is = goes.model_is;
    end_is = goes.end_is;
    made = goes.made;
    written = λ holds. goes.written (trusts_less b c (running meaning state old) less holds);
    crashes = λ holds. goes.crashes (trusts_less b c (running meaning state old) less holds);
    durable = goes.durable;
    leaves = goes.leaves;
  }

  -- Steps that were made go on from the session before. They trust the nodes only if `b` says so.
  goes_as : (b : Bool) (xs : List Made) (old new : Session M P D) → (b ≡ false → any_trusts (steps_of xs) ≡ false) → AreMade meaning state disk xs old new → Goes meaning state disk b (moves_of xs) old new
  goes_as b [] old new none made = subst (λ (s : Session M P D). Goes meaning state disk b [] old s) (sym made) (trusting b false [] old old (λ is. refl) (none_made meaning state disk old))
  goes_as b (x ∷ xs) old new none made =
      let first = trusting b (trusts x.step) (move_of x.step ∷ []) old made.0 (λ is. not_first (trusts x.step) (any_trusts (steps_of xs)) (none is)) (one_made meaning state disk x.step x.answer old made.0 made.2) in
      let rest = goes_as b xs made.0 new (λ is. not_second (trusts x.step) (any_trusts (steps_of xs)) (none is)) made.3 in
      trusting b (b || b) (moves_of (x ∷ xs)) old new (λ is. neither b b is is) (joined meaning state disk b b (move_of x.step ∷ []) old made.0 new first (moves_of xs) rest)

  -- over faithful ports the steps that were made are moves of the system state
  pub goes_by : (xs : List Made) (old new : Session M P D) → AreMade meaning state disk xs old new → Goes meaning state disk true (moves_of xs) old new
  goes_by xs old new made = goes_as true xs old new (λ is. absurd (cc)) made

  -- what holds of the later steps over the system state after the first step
  later_on : (x : Made) (old mid : Session M P D) → IsStep meaning state disk x.step old mid (Ok x.answer) → IsConsistentSession (running meaning state old) → (F : Meaning → ℕ → System → Type 0) → F (meaning mid.model) mid.end (system_of (running meaning state mid))
      → F (meaning old.model) old.end (unwrap_or (move (meaning old.model) old.end (move_of x.step) (system_of (running meaning state old))) (system_of (running meaning state old)))
  later_on x old mid is consistent F holds =
      let one = is.made consistent in
      let p = system_of (running meaning state old) in
      let after : unwrap_or (move (meaning old.model) old.end (move_of x.step) p) p ≡ system_of (running meaning state mid) = ap (λ (o : Option System). unwrap_or o p) one.move_is in
      subst (F (meaning old.model) old.end) (sym after)
      (carry meaning state disk (λ (z : M) (e : ℕ). F (meaning z) e (system_of (running meaning state mid))) old.model mid.model old.end mid.end is.same.0 is.same.1 holds)

  -- and have the answers of those moves
  pub answered : (xs : List Made) (old new : Session M P D) → AreMade meaning state disk xs old new → IsConsistentSession (running meaning state old)
      → map (λ (k : Made). Some k.answer) xs ≡ answers_of (meaning old.model) old.end (moves_of xs) (system_of (running meaning state old))
  answered [] old new made consistent = refl
  answered (x ∷ xs) old new made consistent =
      let one = made.2.made consistent in
      ap₂ (λ (o : Option Answer) (os : List (Option Answer)). o ∷ os) (sym one.answer_is)
      (later_on x old made.0 made.2 consistent (λ (m : Meaning) (e : ℕ) (p : System). map (λ (k : Made). Some k.answer) xs ≡ answers_of m e (moves_of xs) p) (answered xs made.0 new made.3 one.consistent))

  -- and what was in transit for them
  pub in_transit : (xs : List Made) (old new : Session M P D) → AreMade meaning state disk xs old new → IsConsistentSession (running meaning state old)
      → map (λ (k : Made). k.transit) xs ≡ transits_of (meaning old.model) old.end (moves_of xs) (system_of (running meaning state old))
  in_transit [] old new made consistent = refl
  in_transit (x ∷ xs) old new made consistent =
      let one = made.2.made consistent in
      ap₂ (λ (t : List Signed) (ts : List (List Signed)). t ∷ ts) made.1
      (later_on x old made.0 made.2 consistent (λ (m : Meaning) (e : ℕ) (p : System). map (λ (k : Made). k.transit) xs ≡ transits_of m e (moves_of xs) p) (in_transit xs made.0 new made.3 one.consistent))

  -- no step
  pub stood_by : {b : Bool} (S : List Made → Type 0) (s : Session M P D) → S [] → IsDrivenBy meaning state disk b S s s
  stood_by {b} S s none = record { steps = []; shape = none; made = refl; trusts_none = λ is. refl }

  -- a step that is made
  pub one_step_by : {b : Bool} (S : List Made → Type 0) (step : Step) (answer : Answer) (old new : Session M P D) → S (record { step = step; transit = old.ledger.transit; answer = answer } ∷ []) → IsStep meaning state disk step old new (Ok answer) → (b ≡ false → trusts step ≡ false)
      → IsDrivenBy meaning state disk b S old new
  one_step_by {b} S step answer old new shape is less = record { steps = record { step = step; transit = old.ledger.transit; answer = answer } ∷ []; shape = shape; made = (new, refl, is, refl); trusts_none = λ none. neither (trusts step) false (less none) refl }

  pub then_by : {b : Bool} (S T U : List Made → Type 0) (old mid new : Session M P D) → ((ks ls : List Made) → S ks → T ls → U (ks ++ ls)) → IsDrivenBy meaning state disk b S old mid → IsDrivenBy meaning state disk b T mid new →
      IsDrivenBy meaning state disk b U old new
  then_by {b} S T U old mid new both first second = record {
    steps = first.steps ++ second.steps;
    shape = both first.steps second.steps first.shape second.shape;
    made = steps_join first.steps second.steps old mid new first.made second.made;
    trusts_none = λ is. none_trusts first.steps second.steps (first.trusts_none is) (second.trusts_none is);
  }

  -- the same if the shape of the later steps depends on the earlier ones
  pub then_after : {b : Bool} (S T U : List Made → Type 0) (old mid new : Session M P D) (first : IsDrivenBy meaning state disk b S old mid) → ((ls : List Made) → T ls → U (first.steps ++ ls)) → IsDrivenBy meaning state disk b T mid new →
      IsDrivenBy meaning state disk b U old new
  then_after {b} S T U old mid new first both second = record {
    steps = first.steps ++ second.steps;
    shape = both second.steps second.shape;
    made = steps_join first.steps second.steps old mid new first.made second.made;
    trusts_none = λ is. none_trusts first.steps second.steps (first.trusts_none is) (second.trusts_none is);
  }

  pub shaped_by : {b : Bool} (S T : List Made → Type 0) (old new : Session M P D) → ((ks : List Made) → S ks → T ks) → IsDrivenBy meaning state disk b S old new → IsDrivenBy meaning state disk b T old new
  shaped_by {b} S T old new so is = record { steps = is.steps; shape = so is.steps is.shape; made = is.made; trusts_none = is.trusts_none }

  pub driven_so : {b : Bool} (S : List Made → Type 0) (old new : Session M P D) → IsDrivenBy meaning state disk b S old new → IsDriven meaning state disk b old new
  driven_so {b} S old new is = record { moves = moves_of is.steps; made = goes_as b is.steps old new is.trusts_none is.made }

  -- rounds that are all of their run
  pub all_made : {b : Bool} (plan : Plan) (end last made rounds : ℕ) (old new : Session M P D) → last ≡ rounds → made ≡ rounds → IsDrivenBy meaning state disk b (AreRoundsOfRun plan end last made) old new
      → IsDrivenBy meaning state disk b (AreRoundsOfRun plan end rounds rounds) old new
  all_made {b} plan end last made rounds old new last_is made_is by =
      subst (λ (n : ℕ). IsDrivenBy meaning state disk b (AreRoundsOfRun plan end n rounds) old new) last_is
      (subst (λ (n : ℕ). IsDrivenBy meaning state disk b (AreRoundsOfRun plan end last n) old new) made_is by)

  -- if what is trusted holds and the records represent the front before, the front is the sequential
  -- simulation up to its time
  pub front_upto : {b : Bool} (S : List Made → Type 0) (old new : Session M P D) (m : Meaning) (end : ℕ) → meaning old.model ≡ m → old.end ≡ end → IsDrivenBy meaning state disk b S old new → IsTrusted b (running meaning state old) → IsWritten m end old.front old.log
      → IsUpto m end new.front.time new.front × (new.front.time ≤ end)
  front_upto {b} S old new m end model_is end_is by holds written =
      let goes = (driven_so S old new by).made in
      let before : IsWritten (meaning old.model) old.end old.front old.log = subst (λ (e : ℕ). IsWritten (meaning old.model) e old.front old.log) (sym end_is) (subst (λ (n : Meaning). IsWritten n end old.front old.log) (sym model_is) written) in
      let after : IsWritten m end new.front new.log = subst (λ (e : ℕ). IsWritten m e new.front new.log) end_is (subst (λ (n : Meaning). IsWritten n old.end new.front new.log) model_is (goes.written holds before)) in
      written_upto m end new.front new.log after

  pub driven_represents : {b : Bool} (old new : Session M P D) → IsDriven meaning state disk b old new → Keeps meaning state disk b old new
  driven_represents {b} old new is = goes_keeps meaning state disk b is.moves old new is.made

  pub then_represents : {b : Bool} (old mid new : Session M P D) → IsDriven meaning state disk b old mid → Keeps meaning state disk b mid new → Keeps meaning state disk b old new
  then_represents {b} old mid new first second =
      under meaning state disk (IsTrusted (b || b) (running meaning state old)) (IsTrusted b (running meaning state old)) old new (trusts_less b (b || b) (running meaning state old) (λ is. neither b b is is))
      (then_keeps meaning state disk b b first.moves old mid new first.made second)

  -- a step, whatever it returned, and no step
  pub step-keeps : (b : Bool) (step : Step) (old new : Session M P D) (result : Result Answer SessionFault) → IsStep meaning state disk step old new result → (b ≡ false → trusts step ≡ false) → Keeps meaning state disk b old new
  step-keeps b step old new result is less = under meaning state disk (IsTrusted (trusts step) (running meaning state old)) (IsTrusted b (running meaning state old)) old new (trusts_less b (trusts step) (running meaning state old) less) is.keeps

  pub stood-keeps : (b : Bool) (s : Session M P D) → Keeps meaning state disk b s s
  stood-keeps b s = goes_keeps meaning state disk b [] s s (trusting b false [] s s (λ is. refl) (none_made meaning state disk s))

  -- a front that has reached the end is the sequential simulation up to the end
  pub finished : {b : Bool} (end : ℕ) (old new : Session M P D) → old.end ≡ end → IsDriven meaning state disk b old new → end ≤ new.front.time → IsFinished meaning state end old new
  finished {b} end old new end_is is late = λ consistent.
      let now = (is.made.made consistent).consistent in
      let front = now.system.sound.front in
      let same_end : new.end ≡ end = omega (arith, is.made.end_is, end_is) in
      let soon = (fronts_open (meaning new.model) new.end 1 (system_of (running meaning state new)) now.system (omega arith)).soon in
      let time : new.front.time ≡ end = omega (arith, soon, same_end, late) in
      subst (λ (m : M). IsUpto (meaning m) end end new.front) is.made.model_is
      (subst (λ (t : ℕ). IsUpto (meaning new.model) end t new.front) time (subst (λ (e : ℕ). IsUpto (meaning new.model) e new.front.time new.front) same_end front))
