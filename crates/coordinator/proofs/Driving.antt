-- A step, and lists of steps, one after another.
use Rattle.std.proofs.Common.{Bool, Err, IfErr, IfOk, IsErrOf, inl, inr, List, Ok, OnOk, Result, [], ◌∷◌, ◌++◌, ◌+◌, ◌<◌, Some, ap, arith, get_or, length, map, refl, suc, subst, sym, take, true, ℕ, ◌≡◌, ◌≤◌, ◌∙◌}
use Rattle.std.proofs.Math.Seq.{take-suc}
use Rattle.std.proofs.lemmas.Bool.{cases_Bool}
use Rattle.std.proofs.lemmas.List.{map-append}
use Rattle.commitlog.specs.declared.records.Entry.{Entry}
use Rattle.disk.specs.Disk.{DiskState}
use Rattle.model.specs.Meaning.{Meaning}
use Rattle.gvt.proofs.Runs.{moves_are_sound, moves_made_are_sound, moves_made_join}
use Rattle.gvt.specs.Moves.{Move, moves_made}
use Rattle.gvt.specs.Moves.Move.{Checkpoint as CheckpointMove, Commit as CommitMove, Take as TakeMove}
use Rattle.gvt.specs.Sound.{GoesOnFrom}
use Rattle.gvt.specs.declared.Answer.{Answer}
use Rattle.gvt.specs.declared.Answer.TheVariants.{AlreadyAt}
use Rattle.recovery.proofs.Crashes.{followed_by}
use Rattle.recovery.specs.Represents.{Recovers}
use Rattle.wire.specs.Port.{PortState}
use Rattle.coordinator.proofs.Appending.{leaves_old, leaves_on, log_stays, none_changed}
use Rattle.coordinator.proofs.Committing.{stays}
use Rattle.coordinator.specs.Appending.{AppendsOnly}
use Rattle.coordinator.specs.Crashes.{IsTrusted, KeepsRepresentation, StaysWritten, SurvivesCrashes}
use Rattle.recovery.specs.Crashes.{IsWritten, KeepsRecovery}
use Rattle.coordinator.specs.Drives.{AreSteps, Goes, IsStep, StepsAreMade, any_trusts}
use Rattle.coordinator.specs.Session.{HasSameNodes, IsConsistentSession, Running, Session, system_of, running}
use Rattle.coordinator.specs.Steps.{Appends, AreNextReports, HasCause, IsLogged, IsMade, IsReplyTaken, IsStepped, MayCommit, StepHasCause, appended_by, leaves_all, move_of, next_time, seals, trusts}
use Rattle.coordinator.specs.declared.SessionFault.{SessionFault}
use Rattle.coordinator.specs.declared.SessionFault.TheVariants.{Disk, Full, Reports, Spent}
use Rattle.coordinator.specs.declared.Step.{Step}
use Rattle.coordinator.specs.declared.Step.TheVariants.{JudgedCommit}
use Rattle.eventkey.proofs.Lists.{or_false}
use Rattle.std.specs.Prelude.{◌||◌, false, zero}

-- the later system state goes on from the earlier one
pub goes-on : (k : Move) (old new : Running) (result : Result Answer SessionFault) → (IsConsistentSession old → IfOk result (λ answer. IsMade k old new answer)) → IsConsistentSession old
    → OnOk result (GoesOnFrom old.end (system_of old) (system_of new))
goes-on k old new (Ok answer) made consistent = (moves_are_sound old.meaning old.end k (system_of old) (system_of new) consistent.system (made consistent).move_is).1
goes-on k old new (Err fault) made consistent = tt

pub same_fault : (f g : SessionFault) → ◌≡◌ {A = Result Answer SessionFault} (Err f) (Err g) → f ≡ g
same_fault f g e = cc

same_node : (a b : ℕ) → TakeMove a ≡ TakeMove b → a ≡ b
same_node a b e = cc

commit_appends : (k : Move) → k ≡ CommitMove → Appends k
commit_appends k is = subst Appends (sym is) tt

checkpoint_appends : (k : Move) → k ≡ CheckpointMove → Appends k
checkpoint_appends k is = subst Appends (sym is) tt

pub one-move : (k : Move) (old new : Running) (answer : Answer) → IsMade k old new answer → StepsAreMade (k ∷ []) old new
one-move k old new answer made = record { moves_are = rw (made.move_is) refl; consistent = made.consistent }

-- what is trusted of a session

pub all-trusted : (b : Bool) (r : Running) → IsConsistentSession r → IsTrusted b r
all-trusted true r consistent = consistent
all-trusted false r consistent = tt

trusted-left : (a b : Bool) (r : Running) → IsTrusted (a || b) r → IsTrusted a r
trusted-left true b r trusted = trusted
trusted-left false b r trusted = tt

trusted-right : (a b : Bool) (r : Running) → IsTrusted (a || b) r → IsTrusted b r
trusted-right true b r trusted = all-trusted b r trusted
trusted-right false b r trusted = trusted

pub trusted-on : (b : Bool) (old new : Running) → (IsConsistentSession old → IsConsistentSession new) → IsTrusted b old → IsTrusted b new
trusted-on true old new on trusted = on trusted
trusted-on false old new on trusted = tt

trusted-less : (a b c : Bool) (r : Running) → (IsTrusted b r → IsTrusted c r) → IsTrusted (a || b) r → IsTrusted (a || c) r
trusted-less true b c r less trusted = trusted
trusted-less false b c r less trusted = less trusted

-- fewer steps trust no more
pub trusted-take : (k : ℕ) (steps : List Step) (r : Running) → IsTrusted (any_trusts steps) r → IsTrusted (any_trusts (take k steps)) r
trusted-take zero steps r trusted = tt
trusted-take (suc k) [] r trusted = tt
trusted-take (suc k) (x ∷ xs) r trusted = trusted-less (trusts x) (any_trusts xs) (any_trusts (take k xs)) r (trusted-take k xs r) trusted

or-joined : (a b c : Bool) → (a || (b || c)) ≡ ((a || b) || c)
or-joined true b c = refl
or-joined false b c = refl

trusts-more : (xs : List Step) (x : Step) → any_trusts (xs ++ x ∷ []) ≡ (any_trusts xs || trusts x)
trusts-more [] x = or_false (trusts x)
trusts-more (y ∷ ys) x = ap (λ (b : Bool). trusts y || b) (trusts-more ys x) ∙ or-joined (trusts y) (any_trusts ys) (trusts x)

-- what one result promises, another promises too
pub on_ok : {A B : Type 0} (result : Result Answer SessionFault) → (A → B) → OnOk result A → OnOk result B
on_ok (Ok answer) f a = f a
on_ok (Err fault) f a = tt

pub step-cause : (fault : SessionFault) (step : Step) (old : Running) → HasCause (move_of step) old fault → StepHasCause fault step old
step-cause Reports step old cause = absurd cause
step-cause fault step old cause = cause

step-causes : (step : Step) (old : Running) (result : Result Answer SessionFault) → IfErr result (λ fault. HasCause (move_of step) old fault) → IfErr result (λ fault. StepHasCause fault step old)
step-causes step old (Ok answer) cause = tt
step-causes step old (Err fault) cause = step-cause fault step old cause

module _ {M P D : Type 0} (meaning : M → Meaning) (state : P → PortState) (disk : D → DiskState) where
  -- what holds by a session's model and end holds by equal ones
  pub carry : (Q : M → ℕ → Type 0) (x y : M) (e f : ℕ) → y ≡ x → f ≡ e → Q y f → Q x e
  carry Q x y e f model_is end_is q = subst (λ (k : ℕ). Q x k) end_is (subst (λ (z : M). Q z f) model_is q)

  -- a premise that gives another one
  pub under : (A B : Type 0) (old new : Session M P D) → (B → A) → KeepsRepresentation meaning disk A old new → KeepsRepresentation meaning disk B old new
  under A B old new gives keeps = record {
    written = λ unspent b. keeps.written unspent (gives b);
    crashes = λ b. keeps.crashes (gives b);
    durable = keeps.durable;
    leaves = keeps.leaves;
  }

  pub none_made : (s : Session M P D) → Goes meaning state disk false [] s s
  none_made s = record {
    model_is = refl;
    end_is = refl;
    made = λ consistent. record { moves_are = refl; consistent = consistent };
    written = λ trusted is. is;
    crashes = λ trusted is recovers. stays (meaning s.model) s.end s.front.time (disk s.log.disk) recovers;
    durable = λ was. was;
    leaves = none_changed disk s;
  }

  module _ (a b : Bool) (ks : List Move) (old mid new : Session M P D) (first : Goes meaning state disk a ks old mid) where
    before-it : IsTrusted (a || b) (running meaning state old) → IsTrusted a (running meaning state old)
    before-it = trusted-left a b (running meaning state old)

    after-it : IsTrusted (a || b) (running meaning state old) → IsTrusted b (running meaning state mid)
    after-it trusted = trusted-on b (running meaning state old) (running meaning state mid) (λ consistent. (first.made consistent).consistent) (trusted-right a b (running meaning state old) trusted)

    -- one more step, made or not
    crashed : SurvivesCrashes meaning disk (IsTrusted b (running meaning state mid)) mid new → SurvivesCrashes meaning disk (IsTrusted (a || b) (running meaning state old)) old new
    crashed second trusted is recovers =
        let before = first.crashes (before-it trusted) is recovers in
        followed_by (meaning old.model) old.end old.front.time mid.front.time new.front.time (disk old.log.disk) (disk mid.log.disk) (disk new.log.disk) before
        (carry (λ (x : M) (e : ℕ). KeepsRecovery (meaning x) e mid.front.time new.front.time (disk mid.log.disk) (disk new.log.disk)) old.model mid.model old.end mid.end first.model_is first.end_is
        (second (after-it trusted)
        (carry (λ (x : M) (e : ℕ). IsWritten (meaning x) e mid.front mid.log) mid.model old.model mid.end old.end (sym first.model_is) (sym first.end_is) (first.written (before-it trusted) is))
        (carry (λ (x : M) (e : ℕ). Recovers (meaning x) e mid.front.time (disk mid.log.disk)) mid.model old.model mid.end old.end (sym first.model_is) (sym first.end_is) before.now_on)))

    then_written : StaysWritten meaning (IsTrusted b (running meaning state mid)) mid new → StaysWritten meaning (IsTrusted (a || b) (running meaning state old)) old new
    then_written second trusted is =
        carry (λ (x : M) (e : ℕ). IsWritten (meaning x) e new.front new.log) old.model mid.model old.end mid.end first.model_is first.end_is
        (second (after-it trusted)
        (carry (λ (x : M) (e : ℕ). IsWritten (meaning x) e mid.front mid.log) mid.model old.model mid.end old.end (sym first.model_is) (sym first.end_is) (first.written (before-it trusted) is)))

    -- moves that were made, and then a call that keeps the records representing the front
    pub then_keeps : KeepsRepresentation meaning disk (IsTrusted b (running meaning state mid)) mid new → KeepsRepresentation meaning disk (IsTrusted (a || b) (running meaning state old)) old new
    then_keeps second = record {
      written = λ unspent. then_written (second.written unspent);
      crashes = crashed second.crashes;
      durable = λ unspent was. second.durable unspent (first.durable was);
      leaves = leaves_on disk old mid new first.durable first.leaves second.leaves;
    }

    pub joined : (ls : List Move) → Goes meaning state disk b ls mid new → Goes meaning state disk (a || b) (ks ++ ls) old new
    joined ls second = record {
      model_is = second.model_is ∙ first.model_is;
      end_is = second.end_is ∙ first.end_is;
      made = λ consistent.
          let one = first.made consistent in
          let more = second.made one.consistent in
          record {
            moves_are = moves_made_join (meaning old.model) old.end ks ls (system_of (running meaning state old))
                ∙ rw (one.moves_are)
                (carry (λ (x : M) (e : ℕ). moves_made (meaning x) e ls (system_of (running meaning state mid)) ≡ Some (system_of (running meaning state new))) old.model mid.model old.end mid.end first.model_is first.end_is more.moves_are);
            consistent = more.consistent;
          };
      written = then_written second.written;
      crashes = crashed second.crashes;
      durable = λ was. second.durable (first.durable was);
      leaves = leaves_on disk old mid new first.durable first.leaves second.leaves;
    }

  -- a move that was made, and then a call that keeps the disk recovering
  pub crashed-after : (k : Move) (old mid new : Session M P D) (answer : Answer) → IsStepped k (running meaning state old) (running meaning state mid) mid.spent (Ok answer) → StaysWritten meaning (Unit {0}) old mid → SurvivesCrashes meaning disk (Unit {0}) old mid
      → (added : List Entry) → AppendsOnly disk added old mid → (mid.model ≡ old.model) × (mid.end ≡ old.end) → SurvivesCrashes meaning disk (Unit {0}) mid new → SurvivesCrashes meaning disk (Unit {0}) old new
  crashed-after k old mid new answer stepped written crashes added appends same second =
      let goes : Goes meaning state disk false (k ∷ []) old mid = record {
        model_is = same.0;
        end_is = same.1;
        made = λ consistent. one-move k (running meaning state old) (running meaning state mid) answer (stepped.made consistent);
        written = written;
        crashes = crashes;
        durable = appends.durable stepped.usable;
        leaves = leaves_old disk old mid added appends;
      } in
      crashed false false (k ∷ []) old mid new goes second

  pub goes_keeps : (trusted : Bool) (ks : List Move) (old new : Session M P D) → Goes meaning state disk trusted ks old new → KeepsRepresentation meaning disk (IsTrusted trusted (running meaning state old)) old new
  goes_keeps trusted ks old new goes = record { written = λ unspent. goes.written; crashes = goes.crashes; durable = λ unspent. goes.durable; leaves = goes.leaves }

  -- a step that is made
  pub one_made : (step : Step) (answer : Answer) (old new : Session M P D) → IsStep meaning state disk step old new (Ok answer) → Goes meaning state disk (trusts step) (move_of step ∷ []) old new
  one_made step answer old new is = record {
    model_is = is.same.0;
    end_is = is.same.1;
    made = λ consistent. one-move (move_of step) (running meaning state old) (running meaning state new) answer (is.made consistent);
    written = is.keeps.written is.usable;
    crashes = is.keeps.crashes;
    durable = is.keeps.durable is.usable;
    leaves = is.keeps.leaves;
  }

  -- steps that are made
  pub all_made : (steps : List Step) (old new : Session M P D) → AreSteps meaning state disk steps old new → Goes meaning state disk (any_trusts steps) (map move_of steps) old new
  all_made [] old new is = subst (Goes meaning state disk false [] old) (sym is) (none_made old)
  all_made (x ∷ xs) old new is = joined (trusts x) (any_trusts xs) (move_of x ∷ []) old is.0 new (one_made x is.1 old is.0 is.2) (map move_of xs) (all_made xs is.0 new is.3)

  -- one more step
  pub steps-more : (xs : List Step) (x : Step) (answer : Answer) (old mid new : Session M P D) → AreSteps meaning state disk xs old mid → IsStep meaning state disk x mid new (Ok answer)
      → AreSteps meaning state disk (xs ++ x ∷ []) old new
  steps-more [] x answer old mid new first is = (new, answer, subst (λ (s : Session M P D). IsStep meaning state disk x s new (Ok answer)) first is, refl)
  steps-more (y ∷ ys) x answer old mid new first is = (first.0, first.1, first.2, steps-more ys x answer first.0 mid new first.3 is)

  -- after a step that is made, or refused without spending the session, the records represent the
  -- front
  still_written : (Q : Type 0) (old new : Session M P D) (result : Result Answer SessionFault) → OnOk result (StaysWritten meaning Q old new) → IfErr result (λ fault. leaves_all fault ≡ true → new ≡ old)
      → IfErr result (λ fault. leaves_all fault ≡ false → (new.front ≡ old.front) × (new.spent ≡ true)) → new.spent ≡ false → StaysWritten meaning Q old new
  still_written Q old new (Ok answer) written unchanged spends unspent = written
  still_written Q old new (Err fault) written unchanged spends unspent = λ premise is. elim (cases_Bool (leaves_all fault)) [
    | inl leaves ↦ subst (λ (s : Session M P D). IsWritten (meaning old.model) old.end s.front s.log) (sym (unchanged leaves)) is
    | inr ends ↦ (let spent = (spends ends).1 in absurd (cc))
  ]

  not_spent : (k : Move) (old : Running) (result : Result Answer SessionFault) → IfErr result (λ fault. HasCause k old fault) → IsErrOf result Spent → ⊥
  not_spent k old (Ok answer) cause e = absurd (cc)
  not_spent k old (Err fault) cause e = subst (λ (f : SessionFault). HasCause k old f) (same_fault fault Spent e) cause

  -- what holds of a step that is a take
  abbrev pub Takes : Step → Session M P D → Session M P D → Result Answer SessionFault → Type 0
  Takes step old new result = (node : ℕ) → move_of step ≡ TakeMove node → IfOk result (λ answer. IsReplyTaken node (running meaning state old) (running meaning state new) answer)

  pub taken_by : (node : ℕ) (old new : Session M P D) (result : Result Answer SessionFault) → IfOk result (λ answer. IsReplyTaken node (running meaning state old) (running meaning state new) answer)
      → (k : ℕ) → TakeMove node ≡ TakeMove k → IfOk result (λ answer. IsReplyTaken k (running meaning state old) (running meaning state new) answer)
  taken_by node old new result taken k is = subst (λ (n : ℕ). IfOk result (λ answer. IsReplyTaken n (running meaning state old) (running meaning state new) answer)) (same_node node k is) taken

  -- what holds of a step of a session that is not spent
  pub is_step : (step : Step) (old new : Session M P D) (result : Result Answer SessionFault) → old.spent ≡ false
      → IsStepped (move_of step) (running meaning state old) (running meaning state new) new.spent result
      → IfErr result (λ fault. leaves_all fault ≡ true → new ≡ old)
      → (move_of step ≡ CommitMove → next_time old.end (system_of (running meaning state old)) ≤ old.front.time → (result ≡ Ok (AlreadyAt old.front.time)) × (new ≡ old))
      → (step ≡ JudgedCommit → MayCommit (running meaning state old) → OnOk result (AreNextReports (running meaning state old)))
      → IsLogged meaning state disk (move_of step) (seals step) old new result → AppendsOnly disk (appended_by (move_of step) (seals step) old.log.records (running meaning state old)) old new
      → OnOk result (StaysWritten meaning (IsTrusted (trusts step) (running meaning state old)) old new) → SurvivesCrashes meaning disk (IsTrusted (trusts step) (running meaning state old)) old new
      → (new.model ≡ old.model) × (new.end ≡ old.end) → HasSameNodes old new → Takes step old new result → IsStep meaning state disk step old new result
  is_step step old new result unspent stepped unchanged already judged logged appends written crashes same nodes taken = record {
    made = stepped.made;
    goes_on = goes-on (move_of step) (running meaning state old) (running meaning state new) result stepped.made;
    refused = λ fault un is. stepped.refused fault is;
    cause = λ un. step-causes step (running meaning state old) result stepped.cause;
    judged = λ un. judged;
    already = λ un. already;
    taken = taken;
    logged = logged;
    appends = appends;
    keeps = record {
      written = still_written (IsTrusted (trusts step) (running meaning state old)) old new result written unchanged stepped.spends;
      crashes = crashes;
      durable = appends.durable;
      leaves = leaves_old disk old new (appended_by (move_of step) (seals step) old.log.records (running meaning state old)) appends;
    };
    unchanged = unchanged;
    spends = stepped.spends;
    usable = stepped.usable;
    spent = (λ e. absurd (not_spent (move_of step) (running meaning state old) result stepped.cause e), λ spent. absurd (cc));
    same = same;
    nodes = nodes;
  }

  -- a step that does not touch the log meets `IsLogged`
  untouched : (k : Move) (sealed : Bool) (old new : Session M P D) (result : Result Answer SessionFault) → (Appends k → ⊥) → new.log ≡ old.log → IfErr result (λ fault. HasCause k (running meaning state old) fault)
      → IsLogged meaning state disk k sealed old new result
  untouched k sealed old new (Ok answer) other log cause = record {
    stays = λ o. log;
    appended = λ is less. absurd (other (commit_appends k is));
    kept = λ is. absurd (other (checkpoint_appends k is));
    full = λ e room. absurd (cc);
    failed = λ e. absurd (cc);
    no_failure = λ less. (let same = ap (λ l. (disk l.disk).failures) log in absurd (omega (arith, less, same)));
    failures = (let same = ap (λ l. (disk l.disk).failures) log in omega (arith, same));
  }
  untouched k sealed old new (Err fault) other log cause = record {
    stays = λ o. log;
    appended = λ is less. absurd (other (commit_appends k is));
    kept = λ is. absurd (other (checkpoint_appends k is));
    full = λ e room. absurd (other (subst (λ (f : SessionFault). HasCause k (running meaning state old) f) (same_fault fault Full e) cause).0);
    failed = λ e. absurd (other (subst (λ (f : SessionFault). HasCause k (running meaning state old) f) (same_fault fault Disk e) cause).0);
    no_failure = λ less. (let same = ap (λ l. (disk l.disk).failures) log in absurd (omega (arith, less, same)));
    failures = (let same = ap (λ l. (disk l.disk).failures) log in omega (arith, same));
  }

  stays-written : (Q : Type 0) (old new : Session M P D) (result : Result Answer SessionFault) → new.log ≡ old.log → new.front ≡ old.front → OnOk result (StaysWritten meaning Q old new)
  stays-written Q old new (Ok answer) log front = λ premise is. rw (log, front) is
  stays-written Q old new (Err fault) log front = tt

  -- a step that leaves the log and the front unchanged
  pub aside : (step : Step) (old new : Session M P D) (result : Result Answer SessionFault) → old.spent ≡ false → (Appends (move_of step) → ⊥)
      → IsStepped (move_of step) (running meaning state old) (running meaning state new) new.spent result
      → IfErr result (λ fault. leaves_all fault ≡ true → new ≡ old)
      → new.log ≡ old.log → new.front ≡ old.front → (new.model ≡ old.model) × (new.end ≡ old.end) → HasSameNodes old new → Takes step old new result → IsStep meaning state disk step old new result
  aside step old new result unspent other stepped unchanged log front same nodes taken =
      is_step step old new result unspent stepped unchanged (λ is. absurd (other (commit_appends (move_of step) is)))
      (λ is. absurd (other (subst (λ (s : Step). Appends (move_of s)) (sym is) tt)))
      (untouched (move_of step) (seals step) old new result other log stepped.cause)
      (log_stays disk old new (appended_by (move_of step) (seals step) old.log.records (running meaning state old)) log)
      (stays-written (IsTrusted (trusts step) (running meaning state old)) old new result log front)
      (λ trusted is recovers. rw (log, front) (stays (meaning old.model) old.end old.front.time (disk old.log.disk) recovers))
      same nodes taken

  -- a spent session refuses every step and stays as it is
  pub spent_step : (step : Step) (old : Session M P D) → old.spent ≡ true → IsStep meaning state disk step old old (Err Spent)
  spent_step step old spent = record {
    made = λ consistent. tt;
    goes_on = λ consistent. tt;
    refused = λ fault un is. absurd (cc);
    cause = λ un. absurd (cc);
    already = λ un is le. absurd (cc);
    judged = λ un is may. tt;
    taken = λ node is. tt;
    logged = record {
      stays = λ other. refl;
      appended = λ is less. tt;
      kept = λ is. tt;
      full = λ e room. absurd (cc);
      failed = λ e. absurd (cc);
      no_failure = λ less. absurd (omega (arith, less));
      failures = omega arith;
    };
    appends = log_stays disk old old (appended_by (move_of step) (seals step) old.log.records (running meaning state old)) refl;
    keeps = record {
      written = λ un. absurd (cc);
      crashes = λ consistent is recovers. stays (meaning old.model) old.end old.front.time (disk old.log.disk) recovers;
      durable = λ un was. was;
      leaves = none_changed disk old;
    };
    unchanged = λ leaves. refl;
    spends = λ ends. absurd (cc);
    usable = tt;
    spent = (λ e. spent, λ e. refl);
    same = (refl, refl);
    nodes = record { nodes = refl; ports = refl };
  }

pub all-go-on : (ks : List Move) (old new : Running) → (IsConsistentSession old → StepsAreMade ks old new) → IsConsistentSession old → GoesOnFrom old.end (system_of old) (system_of new)
all-go-on ks old new made consistent = (moves_made_are_sound old.meaning old.end ks (system_of old) (system_of new) consistent.system (made consistent).moves_are).goes_on

pub steps-taken : (steps : List Step) (k : ℕ) (x : Step) → k < length steps → x ≡ get_or steps k x → take (k + 1) steps ≡ take k steps ++ x ∷ []
steps-taken steps k x there is =
    let e : k + 1 ≡ suc k = omega arith in
    ap (λ (n : ℕ). take n steps) e ∙ take-suc steps k x there ∙ ap (λ (s : Step). take k steps ++ s ∷ []) (sym is)

pub trusts-taken : (steps : List Step) (k : ℕ) (x : Step) → k < length steps → x ≡ get_or steps k x → any_trusts (take (k + 1) steps) ≡ (any_trusts (take k steps) || trusts x)
trusts-taken steps k x there is = ap any_trusts (steps-taken steps k x there is) ∙ trusts-more (take k steps) x

pub moves-taken : (steps : List Step) (k : ℕ) (x : Step) → k < length steps → x ≡ get_or steps k x → map move_of (take (k + 1) steps) ≡ map move_of (take k steps) ++ move_of x ∷ []
moves-taken steps k x there is =
    let e : k + 1 ≡ suc k = omega arith in
    ap (λ (n : ℕ). map move_of (take n steps)) e
    ∙ ap (map move_of) (take-suc steps k x there)
    ∙ map-append move_of (take k steps) (get_or steps k x ∷ [])
    ∙ ap (λ (s : Step). map move_of (take k steps) ++ move_of s ∷ []) (sym is)
