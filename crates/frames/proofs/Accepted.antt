-- Reports that are accepted one after another.
use Rattle.std.proofs.Common.{◌≡◌, ◌∙◌, ℕ, ◌+◌, ◌/◌, ◌<◌, ◌≤◌, List, [], ◌++◌, ◌∷◌, Some, ap, append-nil, append_assoc, arith, set, subst, sym, inl, inr}
use Rattle.std.specs.List.{slice_get}
use Rattle.std.specs.Prelude.{IsTrue, nat_eq, true, false, ◌↔◌}
use Rattle.std.proofs.lemmas.Bool.{cases_Bool, eqb-true, eqb-false, le-leb}
use Rattle.std.proofs.lemmas.Option.{get_or_from_slice_get, slice_get_within, slice_get-get_or}
use Rattle.std.proofs.lemmas.List.{get_or-set_same, get_or-set_other, length-set}
use Rattle.model.specs.Meaning.{Meaning}
use Rattle.process.specs.Consistent.{AreConsistent}
use Rattle.process.specs.declared.Done.{Done}
use Rattle.frames.specs.Judging.{AreAccepted, AreOfModel, IsAccepted, IsFirstRefused, IsOneAccepted, Known, event_of, moved, reports_of}
use Rattle.frames.specs.declared.judging.differences.ReportDifference.{ReportDifference}

-- 1. What is known at one place

pub same_known : (ks : List Known) (i : ℕ) (k l : Known) → slice_get ks i ≡ Some k → slice_get ks i ≡ Some l → l ≡ k
same_known ks i k l a b = sym (get_or_from_slice_get ks i l k b) ∙ get_or_from_slice_get ks i k k a

pub set_here : (ks : List Known) (i : ℕ) (k l : Known) → slice_get ks i ≡ Some k → slice_get (set ks i l) i ≡ Some l
set_here ks i k l a =
    let there = slice_get_within ks i k a in
    slice_get-get_or (set ks i l) i l (subst (λ n. i < n) (sym (length-set ks i l)) there) ∙ ap Some (get_or-set_same ks i l l there)

pub set_there : (ks : List Known) (i j : ℕ) (k l : Known) → (j ≡ i → ⊥) → slice_get ks j ≡ Some k → slice_get (set ks i l) j ≡ Some k
set_there ks i j k l apart a =
    let there = slice_get_within ks j k a in
    slice_get-get_or (set ks i l) j k (subst (λ n. j < n) (sym (length-set ks i l)) there)
    ∙ ap Some (get_or-set_other ks i j l k apart ∙ get_or_from_slice_get ks j k k a)

-- 2. One report after another

module _ (m : Meaning) (every nodes : ℕ) where
  accepted_more : (ds : List Done) (d : Done) (ks now new : List Known) → AreAccepted m every nodes ks ds now → (one : IsOneAccepted m every nodes now d) →
      new ≡ set now (d.message.to / nodes) (moved every d one.0) → AreAccepted m every nodes ks (ds ++ d ∷ []) new
  accepted_more [] d ks now new so_far one is =
      subst (λ (x : List Known). AreAccepted m every nodes x (d ∷ []) new) so_far (one.0, one.1, one.2, is)
  accepted_more (x ∷ xs) d ks now new so_far one is =
      (so_far.0, so_far.1, so_far.2, accepted_more xs d (set ks (x.message.to / nodes) (moved every x so_far.0)) now new so_far.3 one is)

  -- where all are accepted, each one is by what is known after those before it
  accepted_there : (ds rest : List Done) (d : Done) (ks now ks' : List Known) → AreAccepted m every nodes ks ds now →
      AreAccepted m every nodes ks (ds ++ d ∷ rest) ks' → IsOneAccepted m every nodes now d
  accepted_there [] rest d ks now ks' so_far all =
      subst (λ (x : List Known). IsOneAccepted m every nodes x d) (sym so_far) (all.0, all.1, all.2)
  accepted_there (x ∷ xs) rest d ks now ks' so_far all =
      let same : all.0 ≡ so_far.0 = same_known ks (x.message.to / nodes) so_far.0 all.0 so_far.1 all.1 in
      accepted_there xs rest d (set ks (x.message.to / nodes) (moved every x so_far.0)) now ks' so_far.3
      (subst (λ (k : Known). AreAccepted m every nodes (set ks (x.message.to / nodes) (moved every x k)) (xs ++ d ∷ rest) ks') same all.3)

-- the reports before those left are accepted, and this is known after them
abbrev pub IsJudgedSoFar : Meaning → ℕ → ℕ → List Known → List Done → List Done → List Known → Type 0
IsJudgedSoFar m every nodes ks ds left now = (judged : List Done) × (ds ≡ judged ++ left) × AreAccepted m every nodes ks judged now

module _ (m : Meaning) (every nodes : ℕ) (ks : List Known) (ds : List Done) where
  pub judged_more : (left : List Done) (d : Done) (rest : List Done) (now new : List Known) → left ≡ d ∷ rest →
      IsOneAccepted m every nodes now d →
      ((k : Known) → slice_get now (d.message.to / nodes) ≡ Some k → new ≡ set now (d.message.to / nodes) (moved every d k)) →
      IsJudgedSoFar m every nodes ks ds left now → IsJudgedSoFar m every nodes ks ds rest new
  judged_more left d rest now new is one to h = (
    h.0 ++ d ∷ [],
    h.1 ∙ ap (λ (xs : List Done). h.0 ++ xs) is ∙ sym (append_assoc h.0 (d ∷ []) rest),
    accepted_more m every nodes h.0 d ks now new h.2 one (to one.0 one.1),
  )

  pub judged_refused : (left : List Done) (d : Done) (rest : List Done) (now : List Known) (event : ReportDifference) → left ≡ d ∷ rest →
      (IsTrue false ↔ IsOneAccepted m every nodes now d) → event ≡ event_of d →
      IsJudgedSoFar m every nodes ks ds left now → IsFirstRefused m every nodes ks ds event
  judged_refused left d rest now event is decided event_is h = record {
    before = h.0;
    report = d;
    after = rest;
    known = now;
    split = h.1 ∙ ap (λ (xs : List Done). h.0 ++ xs) is;
    accepted = h.2;
    differs = λ one. (let wrong : false ≡ true = decided.1 one in cc);
    event_is = event_is;
  }

  pub none_accepted : (event : ReportDifference) → IsFirstRefused m every nodes ks ds event → (ks' : List Known) → AreAccepted m every nodes ks ds ks' → ⊥
  none_accepted event first ks' all =
      first.differs (accepted_there m every nodes first.before first.after first.report ks first.known ks' first.accepted
      (subst (λ (xs : List Done). AreAccepted m every nodes ks xs ks') first.split all))

  pub judged_all : (left : List Done) (now : List Known) → left ≡ [] → IsJudgedSoFar m every nodes ks ds left now →
      AreAccepted m every nodes ks ds now
  judged_all left now none h =
      subst (λ (xs : List Done). AreAccepted m every nodes ks xs now) (sym (h.1 ∙ ap (λ (xs : List Done). h.0 ++ xs) none ∙ append-nil h.0)) h.2

-- 3. Where all reports are judged

module _ (m : Meaning) (nodes : ℕ) where
  -- a report of this process, which is judged, and the reports of it that follow
  joined : (k : Known) (d : Done) (ds : List Done) → IsAccepted m 1 k d →
      AreConsistent m k.lp d.after d.number_after ds → AreConsistent m k.lp k.words k.number (d ∷ ds)
  joined k d ds a rest =
      let c = (a.judged (le-leb 1 (k.passed + 1) (omega arith))).1 in
      (c.0, c.1, c.2, c.3, rest)

  pub all_of_model : (ds : List Done) (ks ks' : List Known) → AreAccepted m 1 nodes ks ds ks' → AreOfModel m nodes ks ds
  all_of_model [] ks ks' h k at = tt
  all_of_model (d ∷ ds) ks ks' h k at =
      let l = h.0 in
      let place : ℕ = d.message.to / nodes in
      let later = all_of_model ds (set ks place (moved 1 d l)) ks' h.3 in
      elim (cases_Bool (nat_eq d.message.to k.lp)) [
        | inl e ↦ (
            let own : d.message.to ≡ k.lp = eqb-true d.message.to k.lp e in
            let at_place : slice_get ks place ≡ Some k = ap (λ (n : ℕ). slice_get ks (n / nodes)) own ∙ at in
            let same : l ≡ k = same_known ks place k l at_place h.1 in
            let a : IsAccepted m 1 k d = subst (λ (x : Known). IsAccepted m 1 x d) same h.2 in
            let next : slice_get (set ks place (moved 1 d l)) (k.lp / nodes) ≡ Some (moved 1 d k) =
            ap (λ (n : ℕ). slice_get (set ks place (moved 1 d l)) (n / nodes)) (sym own)
            ∙ set_here ks place k (moved 1 d l) at_place ∙ ap (λ (x : Known). Some (moved 1 d x)) same in
            rw e (joined k d (reports_of k.lp ds) a (later (moved 1 d k) next)))
        | inr e ↦ (
            let apart : k.lp / nodes ≡ place → ⊥ = λ s. (
            let same : l ≡ k = same_known ks place k l (ap (slice_get ks) (sym s) ∙ at) h.1 in
            let own : d.message.to ≡ k.lp = h.2.own ∙ ap (λ (x : Known). x.lp) same in
            eqb-false d.message.to k.lp e own) in
            rw e (later k (set_there ks place (k.lp / nodes) k (moved 1 d l) apart at)))
      ]

  pub all_judged : (every : ℕ) (ks ks' : List Known) (ds ds' : List Done) → every ≡ 1 → ds' ≡ ds → AreAccepted m every nodes ks ds' ks' → AreOfModel m nodes ks ds
  all_judged every ks ks' ds ds' one same h =
      all_of_model ds ks ks' (subst (λ xs. AreAccepted m 1 nodes ks xs ks') same (subst (λ e. AreAccepted m e nodes ks ds' ks') one h))
