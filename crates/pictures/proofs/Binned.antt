-- The values of a word of messages, and how many are in each bin.
use Rattle.std.specs.List.{filter}
use Rattle.std.proofs.Common.{◌≡◌, ◌+◌, ◌<◌, ◌≤◌, ◌++◌, ◌∷◌, [], ℕ, Bool, List, ap, append_assoc, arith, false, get_or, length, map, min, refl, subst, suc, sym, take, true, zero, ◌∙◌}
use Rattle.std.proofs.Math.Seq.{drop-append_seam}
use Rattle.std.proofs.lemmas.List.{append-nil, length-append, map-append, take_more}
use Rattle.std.proofs.lemmas.List.Elements.{filter-append}
use Rattle.std.specs.Prelude.{drop}
use Rattle.eventkey.proofs.Lists.{drop_here}
use Rattle.eventkey.specs.Message.{Message}
use Rattle.model.specs.Meaning.{Meaning}
use Rattle.model.specs.Runner.{IsRun, RunsTo, Simulation}
use Rattle.model.specs.World.{World, opening}
use Rattle.pictures.proofs.Counts.{length-filter-le}
use Rattle.pictures.proofs.Passed.{passed_forgotten, passed_more, passed_open, passed_upto, run_logged}
use Rattle.pictures.specs.Histograms.{HasTallied, IsTallyOfRun, content_at, is_of_sort, values_of}
use Rattle.pictures.specs.Stepping.{with_log}
use Rattle.pictures.specs.Tallies.{IsTally}
use Rattle.pictures.specs.declared.histograms.Word.{Word}
use Rattle.pictures.specs.declared.tallies.Tally.{Tally}

-- 1. The values of a word

pub values_both : (w : Word) (a b : List Message) → values_of w (a ++ b) ≡ values_of w a ++ values_of w b
values_both w a b = ap (map (content_at w.place)) (filter-append (is_of_sort w.sort) a b) ∙ map-append (content_at w.place) (filter (is_of_sort w.sort) a) (filter (is_of_sort w.sort) b)

values_next : (w : Word) (events : List Message) (i : ℕ) (x : Message) → i < length events → x ≡ get_or events i x → values_of w (take (i + 1) events) ≡ values_of w (take i events) ++ values_of w (x ∷ [])
values_next w events i x l is =
    ap (values_of w) (take_more events i x l ∙ ap (λ (y : Message). take i events ++ y ∷ []) (sym is)) ∙ values_both w (take i events) (x ∷ [])

pub value_taken : (w : Word) (events : List Message) (i : ℕ) (x : Message) (v : ℕ) (values : List ℕ) → i < length events → x ≡ get_or events i x → is_of_sort w.sort x ≡ true → v ≡ content_at w.place x
    → (values ++ values_of w (take i events)) ++ v ∷ [] ≡ values ++ values_of w (take (i + 1) events)
value_taken w events i x v values l is sort at =
    let one : values_of w (x ∷ []) ≡ v ∷ [] = rw (sort, at) refl in
    append_assoc values (values_of w (take i events)) (v ∷ [])
    ∙ ap (λ (vs : List ℕ). values ++ vs) (ap (λ (vs : List ℕ). values_of w (take i events) ++ vs) (sym one) ∙ sym (values_next w events i x l is))

pub value_passed : (w : Word) (events : List Message) (i : ℕ) (x : Message) (values : List ℕ) → i < length events → x ≡ get_or events i x → is_of_sort w.sort x ≡ false
    → values ++ values_of w (take i events) ≡ values ++ values_of w (take (i + 1) events)
value_passed w events i x values l is sort =
    let none : values_of w (x ∷ []) ≡ [] = rw sort refl in
    ap (λ (vs : List ℕ). values ++ vs) (sym (append-nil (values_of w (take i events))) ∙ ap (λ (vs : List ℕ). values_of w (take i events) ++ vs) (sym none) ∙ sym (values_next w events i x l is))

-- 2. A simulation whose values are tallied

module _ (m : Meaning) (bound : ℕ) (word : Word) where
  pub tallied_open : (end : ℕ) (s : Simulation) (t : Tally) → s ≡ record { end = end; world = opening m } → IsTally [] t → HasTallied m bound word s.world t
  tallied_open end s t e is = subst (λ (s : Simulation). HasTallied m bound word s.world t) (sym e) (record { past = []; passed = passed_open m bound; tally = is })

  pub tallied_more : (a b : World) (old new : Tally) (events : List Message) → HasTallied m bound word a old → IsRun m bound a b → events ≡ drop (length a.log) b.log
      → ((values : List ℕ) → IsTally values old → IsTally (values ++ values_of word events) new) → HasTallied m bound word b new
  tallied_more a b old new events h run e add =
      let more = run_logged m bound a b run in
      let added : events ≡ more.0 = e ∙ ap (drop (length a.log)) more.1 ∙ drop-append_seam a.log more.0 in
      let log : (h.past ++ a.log) ++ events ≡ h.past ++ b.log = append_assoc h.past a.log events ∙ ap (λ (l : List Message). h.past ++ l) (ap (λ (l : List Message). a.log ++ l) added ∙ sym more.1) in
      record {
        past = h.past;
        passed = passed_more m bound h.past a b h.passed run;
        tally = subst (λ (vs : List ℕ). IsTally vs new) (sym (values_both word (h.past ++ a.log) events) ∙ ap (values_of word) log) (add (values_of word (h.past ++ a.log)) h.tally);
      }

  pub tallied_forgotten : (end : ℕ) (s t : Simulation) (tally : Tally) → HasTallied m bound word s.world tally
      → (past : List Message) × (past ++ t.world.log ≡ s.world.log) × (t ≡ record { end = end; world = with_log t.world.log s.world }) → HasTallied m bound word t.world tally
  tallied_forgotten end s t tally h f =
      let forgotten : List Message = f.0 in
      let log : List Message = t.world.log in
      let all : h.past ++ s.world.log ≡ (h.past ++ forgotten) ++ log = ap (λ (l : List Message). h.past ++ l) (sym f.1) ∙ sym (append_assoc h.past forgotten log) in
      let there : HasTallied m bound word (with_log log s.world) tally = record {
        past = h.past ++ forgotten;
        passed = passed_forgotten m bound h.past forgotten log s.world f.1 h.passed;
        tally = subst (λ (l : List Message). IsTally (values_of word l) tally) all h.tally;
      } in
      subst (λ (w : World). HasTallied m bound word w tally) (sym (ap (λ (u : Simulation). u.world) f.2)) there

  -- a run goes on with the log that it has
  pub longer : (a b : World) → IsRun m bound a b → length a.log ≤ length b.log
  longer a b run = let more = run_logged m bound a b run in omega (arith, ap length more.1, length-append a.log more.0)

pub tallied_whole : (m : Meaning) (end to : ℕ) (word : Word) (a b : World) (old new : Tally) (events : List Message) → HasTallied m (min to end) word a old → RunsTo m (min to end) a b → events ≡ drop (length a.log) b.log
    → ((values : List ℕ) → IsTally values old → IsTally (values ++ values_of word events) new) → IsTallyOfRun m end to word new
unfolding tallied_more
tallied_whole m end to word a b old new events h run e add =
    let bound = min to end in
    let there : World = record b { time = a.time } in
    let all = tallied_more m bound word a there old new events h run.run e add in
    record {
      world = with_log (h.past ++ b.log) b;
      upto = passed_upto m bound end h.past a b (omega arith) h.passed run;
      tally = all.tally;
    }

-- 3. Bins

-- a value that is counted is one of them
pub filter_fits_at : (p : ℕ → Bool) (xs : List ℕ) (i n : ℕ) → i < length xs → p (get_or xs i 0) ≡ true → n + length (filter p (drop i xs)) ≡ length (filter p xs) → n + 1 ≤ length xs
filter_fits_at p xs i n l selected so_far =
    let h = rw (drop_here xs i (get_or xs i 0) l (get_or-any xs i 0 (get_or xs i 0) l), selected) at so_far in
    omega (arith, length-filter-le p xs, h)
  where
    get_or-any : (xs : List ℕ) (i d e : ℕ) → i < length xs → get_or xs i d ≡ get_or xs i e
    get_or-any [] i d e l = absurd (omega arith)
    get_or-any (x ∷ xs) zero d e l = refl
    get_or-any (x ∷ xs) (suc i) d e l = get_or-any xs i d e (omega arith)
