-- Laws of a simulation that forgets the events that it has handled.
use Rattle.std.specs.List.{slice_get}
use Rattle.std.specs.Prelude.{◌≡◌, ◌≤◌, ◌+◌, ◌++◌, ◌∷◌, [], ℕ, zero, suc, List, None, Some}
use Rattle.std.proofs.Common.{ap, append_assoc, arith, refl, subst, sym, ◌∙◌}
use Rattle.std.proofs.lemmas.Bool.{cond-true}
use Rattle.std.proofs.lemmas.List.{append-nil}
use Rattle.eventkey.specs.Message.{Message}
use Rattle.model.proofs.Steps.{Reaches-sooner, Reaches_logged, Reaches_time}
use Rattle.model.proofs.Worlds.{Reaches-append, log_goes_on, step_is}
use Rattle.model.specs.Meaning.{Meaning}
use Rattle.model.specs.Runner.{IsRun, RunsTo, is_due}
use Rattle.model.specs.World.{IsUpto, Reaches, World, at_time, can_handle, handled, opening, step, step_from}
use Rattle.pictures.specs.Stepping.{IsPassed, comes_before, with_log}

-- 1. The first pending message

pub first_due : (bound : ℕ) (xs : List Message) → comes_before (slice_get xs 0) bound ≡ is_due bound xs
first_due bound [] = refl
first_due bound (x ∷ xs) = refl

-- 2. Steps do not look at the log

module _ (m : Meaning) (bound : ℕ) where
  step-with_log : (log : List Message) (a b : World) → step m bound a ≡ Some b → (more : List Message) × (b.log ≡ a.log ++ more) × (step m bound (with_log log a) ≡ Some (with_log (log ++ more) b))
  step-with_log log a b e =
      let s = step_is m bound a b e in
      let x : Message = s.0 in
      let goes : step m bound (with_log log a) ≡ Some (with_log (log ++ x ∷ []) (handled m a x s.1)) =
      ap (step_from m bound (with_log log a)) s.2 ∙ cond-true (can_handle m bound a x) (Some (with_log (log ++ x ∷ []) (handled m a x s.1))) None s.4 in
      (x ∷ [], ap (λ (w : World). w.log) s.3, goes ∙ ap (λ (w : World). Some (with_log (log ++ x ∷ []) w)) (sym s.3))

  reaches-with_log : (n : ℕ) (log : List Message) (a b : World) → Reaches m bound n a b → (more : List Message) × (b.log ≡ a.log ++ more) × Reaches m bound n (with_log log a) (with_log (log ++ more) b)
  reaches-with_log zero log a b f =
      let same : with_log (log ++ []) b ≡ with_log log a = rw (f, append-nil) refl in
      ([], ap (λ (w : World). w.log) f ∙ sym (append-nil a.log), same)
  reaches-with_log (suc n) log a b f =
      let s = step-with_log log a f.0 f.1 in
      let r = reaches-with_log n (log ++ s.0) f.0 b f.2 in
      let first : f.0.log ≡ a.log ++ s.0 = s.1 in
      let rest : b.log ≡ f.0.log ++ r.0 = r.1 in
      let more : List Message = s.0 ++ r.0 in
      let logged : b.log ≡ a.log ++ more = rest ∙ ap (λ (l : List Message). l ++ r.0) first ∙ append_assoc a.log s.0 r.0 in
      let there : with_log (log ++ more) b ≡ with_log ((log ++ s.0) ++ r.0) b = ap (λ (l : List Message). with_log l b) (sym (append_assoc log s.0 r.0)) in
      (more, logged, (with_log (log ++ s.0) f.0, s.2, subst (Reaches m bound n (with_log (log ++ s.0) f.0)) (sym there) r.2))

  -- 3. How a simulation passes

  pub passed_open : IsPassed m bound [] (opening m)
  passed_open = record { steps = 0; reached = refl }

  pub passed_more : (past : List Message) (a b : World) → IsPassed m bound past a → IsRun m bound a b → IsPassed m bound past b
  passed_more past a b h run =
      let r = reaches-with_log run.steps (past ++ a.log) a b run.reached in
      let log : past ++ b.log ≡ (past ++ a.log) ++ r.0 = ap (λ (l : List Message). past ++ l) r.1 ∙ sym (append_assoc past a.log r.0) in
      record {
        steps = h.steps + run.steps;
        reached = Reaches-append m bound h.steps run.steps (opening m) (with_log (past ++ a.log) a) (with_log (past ++ b.log) b) h.reached
            (subst (λ (l : List Message). Reaches m bound run.steps (with_log (past ++ a.log) a) (with_log l b)) (sym log) r.2);
      }

  -- what is forgotten is past
  pub passed_forgotten : (past forgotten log : List Message) (w : World) → forgotten ++ log ≡ w.log → IsPassed m bound past w → IsPassed m bound (past ++ forgotten) (with_log log w)
  passed_forgotten past forgotten log w e h =
      let same : past ++ w.log ≡ (past ++ forgotten) ++ log = ap (λ (l : List Message). past ++ l) (sym e) ∙ sym (append_assoc past forgotten log) in
      subst (λ (l : List Message). IsRun m bound (opening m) (with_log l w)) same h

  -- the events that a run adds
  pub run_logged : (a b : World) → IsRun m bound a b → (more : List Message) × (b.log ≡ a.log ++ more)
  run_logged a b run = log_goes_on m bound run.steps a b run.reached

  -- the opening's time stays
  passed_time : (past : List Message) (w : World) → IsPassed m bound past w → w.time ≡ 0
  passed_time past w h = Reaches_time m bound h.steps (opening m) (with_log (past ++ w.log) w) h.reached

  -- a run to the bound makes it the sequential simulation up to there
  pub passed_upto : (end : ℕ) (past : List Message) (a b : World) → bound ≤ end → IsPassed m bound past a → RunsTo m bound a b → IsUpto m end bound (with_log (past ++ b.log) b)
  passed_upto end past a b le h run =
      let zero_time = passed_time past a h in
      let last = passed_more past a (at_time a.time b) h run.run in
      let at : Reaches m bound last.steps (opening m) (at_time 0 (with_log (past ++ b.log) b)) =
      subst (λ (t : ℕ). Reaches m bound last.steps (opening m) (at_time t (with_log (past ++ b.log) b))) zero_time last.reached in
      record {
        steps = last.steps;
        reached = Reaches-sooner m bound end last.steps (opening m) (at_time 0 (with_log (past ++ b.log) b)) le at;
        time = omega (arith, run.time, zero_time);
        logged = Reaches_logged m bound bound last.steps (opening m) (at_time 0 (with_log (past ++ b.log) b)) (omega arith) tt at;
        left = run.left;
      }
