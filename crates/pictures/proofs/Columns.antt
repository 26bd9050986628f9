-- The levels of columns, set one after another.
use Rattle.std.proofs.Common.{◌≡◌, ◌≢◌, ℕ, zero, suc, inl, inr, ◌+◌, ◌<◌, ◌≤◌, List, [], ◌∷◌, get_or, length, set, arith, ap, sym, refl, ◌∙◌, subst, length-set}
use Rattle.std.proofs.lemmas.Bool.{cases_lt}
use Rattle.std.proofs.lemmas.List.{get_or-set_other, get_or-set_same}
use Rattle.model.proofs.Runs.{read_any}
use Rattle.pictures.specs.Levels.{HasSet}
use Rattle.pictures.specs.Watching.{HaveSet, number_in}
use Rattle.pictures.specs.declared.levels.Level.{Level}
use Rattle.texts.specs.declared.names.Column.{Column}

-- the levels before a place are set, and those from it on are as before
pub record AreSet (columns : List Column) (time : ℕ) (state : List ℕ) (old levels : List Level) (place : ℕ) : Type 0 where
  pub long : length levels ≡ length old
  pub changed : (k : ℕ) (c : Column) (d : Level) → k < place → k < length old → HasSet time (number_in (get_or columns k c) state) (get_or old k d) (get_or levels k d)
  pub kept : (k : ℕ) (d : Level) → place ≤ k → get_or levels k d ≡ get_or old k d

same_read : {X : Type 0} (xs : List X) (i : ℕ) (d e : X) → i < length xs → get_or xs i d ≡ get_or xs i e
same_read [] i d e l = absurd (omega arith)
same_read (x ∷ xs) zero d e l = refl
same_read (x ∷ xs) (suc i) d e l = same_read xs i d e (omega arith)

pub set_more : (columns : List Column) (time : ℕ) (state : List ℕ) (old levels after : List Level) (place : ℕ) (column : Column) (l e new : Level) (n : ℕ) → AreSet columns time state old levels place → place < length columns
    → place < length levels → column ≡ get_or columns place column → l ≡ get_or levels place e → n ≡ number_in column state → HasSet time n l new → after ≡ set levels place new → AreSet columns time state old after (place + 1)
set_more columns time state old levels after place column l e new n is there inside column_is l_is n_is one after_is = record {
  long = ap length after_is ∙ length-set levels place new ∙ is.long;
  changed = λ k c d below within. elim (cases_lt k place) [
    | inl earlier ↦
        let apart : k ≢ place = λ e. absurd (omega (arith, e)) in
        let now : get_or after k d ≡ get_or levels k d = ap (λ ls. get_or ls k d) after_is ∙ get_or-set_other levels place k new d apart in
        subst (λ x. HasSet time (number_in (get_or columns k c) state) (get_or old k d) x) (sym now) (is.changed k c d earlier within)
    | inr later ↦
        let same : k ≡ place = omega arith in
        let now : get_or after k d ≡ new = ap (λ ls. get_or ls k d) after_is ∙ ap (λ j. get_or (set levels place new) j d) same ∙ get_or-set_same levels place new d inside in
        let was : get_or old k d ≡ l = sym (is.kept k d later) ∙ ap (λ j. get_or levels j d) same ∙ same_read levels place d e inside ∙ sym l_is in
        let of : get_or columns k c ≡ column = ap (λ j. get_or columns j c) same ∙ sym (read_any columns place column c there column_is) in
        subst (λ x. HasSet time (number_in (get_or columns k c) state) (get_or old k d) x) (sym now)
        (subst (λ x. HasSet time (number_in (get_or columns k c) state) x new) (sym was)
        (subst (λ x. HasSet time x l new) (n_is ∙ ap (λ x. number_in x state) (sym of)) one))
  ];
  kept = λ k d above.
      let apart : k ≢ place = λ e. absurd (omega (arith, e)) in
      ap (λ ls. get_or ls k d) after_is ∙ get_or-set_other levels place k new d apart ∙ is.kept k d (omega arith);
}

pub all_set : (columns : List Column) (time : ℕ) (state : List ℕ) (old levels : List Level) (place : ℕ) → AreSet columns time state old levels place → ((k : ℕ) → k < length columns → k < length old → k < place) → HaveSet columns time state old levels
all_set columns time state old levels place is all = record {
  long = is.long;
  each = λ k c d there inside. is.changed k c d (all k there inside) inside;
}
