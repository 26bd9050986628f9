-- A session that is driven again and again.
use Rattle.std.proofs.Common.{Bool, Err, List, Ok, Result, [], inl, inr, refl, subst, sym, take, true, ℕ, ◌∙◌, ◌∷◌, ◌≡◌, ◌≤◌}
use Rattle.std.specs.List.{AllByRecursion as Every}
use Rattle.std.specs.Prelude.{false}
use Rattle.std.proofs.lemmas.Bool.{cases_Bool}
use Rattle.commitlog.specs.Log.{Opened}
use Rattle.disk.specs.Disk.{DiskState}
use Rattle.model.specs.Meaning.{Meaning}
use Rattle.model.specs.Runner.{Simulation}
use Rattle.model.specs.World.{IsUpto, World}
use Rattle.recovery.specs.Replay.{in_force}
use Rattle.wire.specs.Port.{PortState}
use Rattle.coordinator.proofs.Appending.{leaves_on, none_changed}
use Rattle.recovery.proofs.OldRecords.{session_keeps_old}
use Rattle.coordinator.proofs.Committing.{stays}
use Rattle.coordinator.proofs.Driving.{all-trusted, all_made, carry, trusted-on, trusted-take}
use Rattle.recovery.proofs.Crashes.{followed_by, goes-under}
use Rattle.coordinator.proofs.Resuming.{stopped-front}
use Rattle.recovery.specs.Crashes.{IsWritten, KeepsRecovery, RecoversUnderItsEnd}
use Rattle.recovery.specs.Represents.{Recovers}
use Rattle.coordinator.specs.Appending.{LeavesOldRecords, StaysDurable}
use Rattle.coordinator.specs.Crashes.{IsTrusted}
use Rattle.coordinator.specs.Drives.{AreDrives, IsDrive, any_trusts}
use Rattle.coordinator.specs.Headline.{IsBegun, IsOneCall, JudgedSessionsGoOn, RecordsStay, SessionsGoOn}
use Rattle.coordinator.specs.Session.{Running, Session, running}
use Rattle.coordinator.specs.Steps.{leaves_all}
use Rattle.coordinator.specs.declared.DriveFault.{DriveFault}
use Rattle.coordinator.specs.declared.Step.{Step}

-- a front that records represent is the sequential simulation up to its time
pub written-front : {D : Type 0} (m : Meaning) (end : ℕ) (w : World) (log : Opened D) → IsWritten m end w log → IsUpto m end w.time w × (w.time ≤ end)
written-front m end w log is =
    let whole = is.represent.whole in
    (subst (λ (t : ℕ). IsUpto m end t w) (sym whole.upto.time) whole.upto, subst (λ (t : ℕ). t ≤ end) (sym whole.upto.time) whole.within)

module _ {M P D : Type 0} (meaning : M → Meaning) (state : P → PortState) (disk : D → DiskState) where
  -- the drives are over nodes that are trusted, or none of them has to trust the nodes
  module _ (trusted : Bool) (first : Session M P D) where
    -- each image represents a world under its own end as the call begins
    abbrev Stood : Type 0
    Stood = Recovers (meaning first.model) first.end first.front.time (disk first.log.disk)

    -- these steps trust no more
    abbrev Serves : List Step → Type 0
    Serves steps = (r : Running) → IsTrusted trusted r → IsTrusted (any_trusts steps) r

    -- what holds of the session after any number of lists of steps
    record HasGoneOn (now : Session M P D) : Type 0 where
      model_is : now.model ≡ first.model
      end_is : now.end ≡ first.end
      usable : now.spent ≡ false → IsTrusted trusted (running meaning state now) × IsWritten (meaning now.model) now.end now.front now.log
      front : IsUpto (meaning first.model) first.end now.front.time now.front × (now.front.time ≤ first.end)
      crashes : Stood → KeepsRecovery (meaning first.model) first.end first.front.time now.front.time (disk first.log.disk) (disk now.log.disk)

    reported_front : (s : Session M P D) → s.model ≡ first.model → s.end ≡ first.end → IsWritten (meaning s.model) s.end s.front s.log →
        IsUpto (meaning first.model) first.end s.front.time s.front × (s.front.time ≤ first.end)
    reported_front s model_is end_is written =
        carry meaning state disk (λ (x : M) (e : ℕ). IsUpto (meaning x) e s.front.time s.front × (s.front.time ≤ e)) first.model s.model first.end s.end model_is end_is
        (written-front (meaning s.model) s.end s.front s.log written)

    module _ (steps : List Step) (serves : Serves steps) (mid new : Session M P D) (was : HasGoneOn mid) (unspent : mid.spent ≡ false) where
      trust : IsTrusted (any_trusts steps) (running meaning state mid)
      trust = serves (running meaning state mid) (was.usable unspent).0

      module _ (result : Result ℕ DriveFault) (is : IsDrive meaning state disk steps mid new result) where
        survives : Stood → KeepsRecovery (meaning first.model) first.end first.front.time new.front.time (disk first.log.disk) (disk new.log.disk)
        survives recovers =
            let keeps = was.crashes recovers in
            followed_by (meaning first.model) first.end first.front.time mid.front.time new.front.time (disk first.log.disk) (disk mid.log.disk) (disk new.log.disk) keeps
            (carry meaning state disk (λ (x : M) (e : ℕ). KeepsRecovery (meaning x) e mid.front.time new.front.time (disk mid.log.disk) (disk new.log.disk)) first.model mid.model first.end mid.end was.model_is was.end_is
            (is.keeps.crashes trust (was.usable unspent).1
            (carry meaning state disk (λ (x : M) (e : ℕ). Recovers (meaning x) e mid.front.time (disk mid.log.disk)) mid.model first.model mid.end first.end (sym was.model_is) (sym was.end_is) keeps.now_on)))

        still_written : new.spent ≡ false → IsWritten (meaning new.model) new.end new.front new.log
        still_written usable =
            carry meaning state disk (λ (x : M) (e : ℕ). IsWritten (meaning x) e new.front new.log) new.model mid.model new.end mid.end (sym is.same.0) (sym is.same.1)
            (is.keeps.written usable trust (was.usable unspent).1)

        model_on : new.model ≡ first.model
        model_on = is.same.0 ∙ was.model_is

        end_on : new.end ≡ first.end
        end_on = is.same.1 ∙ was.end_is

      driven : (result : Result ℕ DriveFault) → IsDrive meaning state disk steps mid new result → HasGoneOn new
      driven (Ok done) is =
          let all = still_written (Ok done) is (is.usable unspent) in
          record {
            model_is = model_on (Ok done) is;
            end_is = end_on (Ok done) is;
            usable = λ usable. (trusted-on trusted (running meaning state mid) (running meaning state new) (λ consistent. (is.made consistent).consistent) (was.usable unspent).0, all);
            front = reported_front new (model_on (Ok done) is) (end_on (Ok done) is) all;
            crashes = survives (Ok done) is;
          }
      driven (Err stop) is =
          let stopped = is.stopped in
          let made = stopped.made in
          let goes = all_made meaning state disk (take stop.done steps) mid made stopped.steps_are in
          let all = carry meaning state disk (λ (x : M) (e : ℕ). IsWritten (meaning x) e made.front made.log) made.model mid.model made.end mid.end (sym goes.model_is) (sym goes.end_is)
          (goes.written (trusted-take stop.done steps (running meaning state mid) trust) (was.usable unspent).1) in
          record {
            model_is = model_on (Err stop) is;
            end_is = end_on (Err stop) is;
            usable = λ usable. (
              elim (cases_Bool (leaves_all stop.fault)) [
                | inl leaves ↦
                    subst (λ (s : Session M P D). IsTrusted trusted (running meaning state s)) (sym (stopped.refused.unchanged leaves))
                    (trusted-on trusted (running meaning state mid) (running meaning state made) (λ consistent. (stopped.moves consistent).consistent) (was.usable unspent).0)
                | inr ends ↦ (let spent = (stopped.refused.spends ends).1 in absurd (cc))
              ],
              still_written (Err stop) is usable,
            );
            front = subst (λ (w : World). IsUpto (meaning first.model) first.end w.time w × (w.time ≤ first.end)) (sym (stopped-front meaning state disk steps mid new stop stopped))
                (reported_front made (goes.model_is ∙ was.model_is) (goes.end_is ∙ was.end_is) all);
            crashes = survives (Err stop) is;
          }

    one_more : (steps : List Step) → Serves steps → (mid new : Session M P D) (result : Result ℕ DriveFault) → HasGoneOn mid → IsDrive meaning state disk steps mid new result → HasGoneOn new
    one_more steps serves mid new result was is = elim (cases_Bool mid.spent) [
      | inl spent ↦ subst HasGoneOn (sym (is.spent spent).0) was
      | inr unspent ↦ driven steps serves mid new was unspent result is
    ]

    gone_on : (drives : List (List Step)) → Every Serves drives → (mid last : Session M P D) → HasGoneOn mid → AreDrives meaning state disk drives mid last → HasGoneOn last
    gone_on [] serve mid last was is = subst HasGoneOn (sym is) was
    gone_on (steps ∷ more) serve mid last was is = gone_on more serve.1 is.0 last (one_more steps serve.0 mid is.0 is.1 was is.2) is.3

    one_call : (v : World) (old : DiskState) (last : Session M P D) (drives : List (List Step)) → IsBegun meaning state disk v old first → Every Serves drives →
        (RecoversUnderItsEnd (meaning first.model) v.time old → IsTrusted trusted (running meaning state first)) → AreDrives meaning state disk drives first last → IsOneCall meaning state disk v old first last
    one_call v old last drives begun serve trust is =
        let m = meaning first.model in
        let all = λ (recovers : RecoversUnderItsEnd m v.time old). gone_on drives serve first last (record {
          model_is = refl;
          end_is = refl;
          usable = λ unspent. (trust recovers, begun.written recovers);
          front = reported_front first refl refl (begun.written recovers);
          crashes = λ stood. stays m first.end first.front.time (disk first.log.disk) stood;
        }) is in
        record {
          crashes = λ recovers. goes-under m first.end v.time first.front.time last.front.time old (disk first.log.disk) (disk last.log.disk) (begun.crashes recovers) ((all recovers).crashes (begun.recovers recovers));
          front = λ recovers s same. (let e : in_force first.end last.front ≡ s = cc in subst (λ (x : Simulation). IsUpto m x.end x.world.time x.world × (x.world.time ≤ x.end)) e (all recovers).front);
        }

  every_serves : (first : Session M P D) (drives : List (List Step)) → Every (Serves true first) drives
  every_serves first [] = tt
  every_serves first (steps ∷ more) = (all-trusted (any_trusts steps), every_serves first more)

  none_trusts : (first : Session M P D) (drives : List (List Step)) → Every (λ (steps : List Step). any_trusts steps ≡ false) drives → Every (Serves false first) drives
  none_trusts first [] none = tt
  none_trusts first (steps ∷ more) none = (λ r trusted. subst (λ (b : Bool). IsTrusted b r) (sym none.0) tt, none_trusts first more none.1)

  pub sessions_go_on : SessionsGoOn meaning state disk
  sessions_go_on v old first last drives begun are_faithful is = one_call true first v old last drives begun (every_serves first drives) (begun.consistent are_faithful) is

  pub judged_sessions_go_on : JudgedSessionsGoOn meaning state disk
  judged_sessions_go_on v old first last drives begun none is = one_call false first v old last drives begun (none_trusts first drives none) (λ recovers. tt) is

  -- The records on the disk

  record StillKeeps (first now : Session M P D) : Type 0 where
    durable : now.spent ≡ false → StaysDurable disk first now
    leaves : LeavesOldRecords disk first now

  one_keeps : (steps : List Step) (first mid new : Session M P D) (result : Result ℕ DriveFault) → StillKeeps first mid → IsDrive meaning state disk steps mid new result → StillKeeps first new
  one_keeps steps first mid new result was is = elim (cases_Bool mid.spent) [
    | inl spent ↦ subst (StillKeeps first) (sym (is.spent spent).0) was
    | inr unspent ↦
        record {
          durable = λ usable held. is.keeps.durable usable (was.durable unspent held);
          leaves = leaves_on disk first mid new (was.durable unspent) was.leaves is.keeps.leaves;
        }
  ]

  all_keep : (drives : List (List Step)) (first mid last : Session M P D) → StillKeeps first mid → AreDrives meaning state disk drives mid last → StillKeeps first last
  all_keep [] first mid last was is = subst (StillKeeps first) (sym is) was
  all_keep (steps ∷ more) first mid last was is = all_keep more first is.0 last (one_keeps steps first mid is.0 is.1 was is.2) is.3

  pub records_stay : RecordsStay meaning state disk
  records_stay old first last drives looks durable is =
      session_keeps_old old (disk first.log.disk) (disk last.log.disk) first.log.header first.log.records looks durable
      ((all_keep drives first first last (record { durable = λ unspent was. was; leaves = none_changed disk first }) is).leaves durable)
