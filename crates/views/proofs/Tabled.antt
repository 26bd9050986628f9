-- What is written of a table, part by part.
use Rattle.std.specs.Io.KnownBytes.{Appends, Keeps}
use Rattle.std.specs.Prelude.{◌≡◌, ◌⊎◌, ◌++◌, ◌&&◌, [], ◌∷◌, ℕ, Bool, true, false, List, None, Option, Result, Some, Ok, Err, OnOk, OnErr, flat_map, map}
use Rattle.std.proofs.Common.{ap, append_assoc, inl, inr, refl, subst, sym, ◌∙◌}
use Rattle.std.proofs.lemmas.List.{append-nil}
use Rattle.std.proofs.lemmas.List.Concat.{flat_map-append}
use Rattle.cli.specs.declared.command.Format.{Format}
use Rattle.eventkey.specs.Writing.{TakesBeginning, Writes}
use Rattle.recovery.proofs.Bodies.{and_false}
use Rattle.views.specs.Tables.{AddsRows, AreUnder, Field, HasRows, IsAfter, IsBoth, IsRows, IsTable, divider, head_text, is_empty, row_table, row_text, rows_text, table_text, tail_text}
use Rattle.views.specs.Views.{Begins, Prints}
use Rattle.views.proofs.Printed.{appended_both, begun_after, taken_whole}

appends_nothing : (old : Option (List ℕ)) → Appends old old []
appends_nothing None = tt
appends_nothing (Some xs) = sym (append-nil xs)

and_true : (b : Bool) → (b && true) ≡ b
and_true true = refl
and_true false = refl

-- a beginning of a text is one of a longer text
begun_more : {old new : Option (List ℕ)} {a : List ℕ} (b : List ℕ) → TakesBeginning old new a → TakesBeginning old new (a ++ b)
begun_more b h = record {
  taken = h.taken;
  left = h.left ++ b;
  whole = ap (λ s. s ++ b) h.whole ∙ append_assoc h.taken h.left b;
  appended = h.appended;
}

-- what is printed or begun, where the writer keeps what it has
keeps_appended : (old mid new : Option (List ℕ)) (text : List ℕ) → Appends old mid text → Keeps mid new → Appends old new text
keeps_appended None mid new text h k = tt
keeps_appended (Some xs) None new text h k = absurd h
keeps_appended (Some xs) (Some ys) None text h k = absurd k
keeps_appended (Some xs) (Some ys) (Some zs) text h k = k ∙ h

pub printed_kept : (is : List ℕ → Type 0) (old mid new : Option (List ℕ)) → Prints is old mid → Keeps mid new → Prints is old new
printed_kept is old mid new h k = (h.0, h.1, keeps_appended old mid new h.0 h.2 k)

pub printed_begun : (is : List ℕ → Type 0) (old mid new : Option (List ℕ)) → Prints is old mid → Keeps mid new → Begins is old new
printed_begun is old mid new h k = (h.0, h.1, taken_whole (keeps_appended old mid new h.0 h.2 k))

pub on_ok : {T E A B : Type 0} (r : Result T E) → (A → B) → OnOk r A → OnOk r B
on_ok (Ok x) f h = f h
on_ok (Err e) f h = tt

-- one text after another
module _ (is more : List ℕ → Type 0) (old mid new : Option (List ℕ)) where
  pub both_printed : Prints is old mid → Prints more mid new → Prints (IsBoth is more) old new
  both_printed h k = (h.0 ++ k.0, (h.0, h.1, (k.0, k.1, refl)), appended_both old mid new h.0 k.0 h.2 k.2)

  pub both_begun : Prints is old mid → Begins more mid new → Begins (IsBoth is more) old new
  both_begun h k = (h.0 ++ k.0, (h.0, h.1, (k.0, k.1, refl)), begun_after old mid new h.0 k.0 h.2 k.2)

-- a beginning of the first one, where there is some second one
pub first_begun : (is more : List ℕ → Type 0) (old new : Option (List ℕ)) (later : List ℕ) → more later → Begins is old new → Begins (IsBoth is more) old new
first_begun is more old new later some h = (h.0 ++ later, (h.0, h.1, (later, some, refl)), begun_more later h.2)

-- the first one is refused before or after some of it is written
pub first_refused : {A : Type 0} (is more : List ℕ → Type 0) (old new : Option (List ℕ)) (later : List ℕ) → more later → A ⊎ Begins is old new → A ⊎ Begins (IsBoth is more) old new
first_refused is more old new later some (inl a) = inl a
first_refused is more old new later some (inr k) = inr (first_begun is more old new later some k)

-- the second one is refused before or after some of it is written
pub second_refused : {A : Type 0} (is more : List ℕ → Type 0) (old mid new : Option (List ℕ)) (later : List ℕ) → more later → Prints is old mid → (A → new ≡ mid) → A ⊎ Begins more mid new → Begins (IsBoth is more) old new
second_refused is more old mid new later some h same (inl a) = first_begun is more old new later some (h.0, h.1, taken_whole (subst (λ (o : Option (List ℕ)). Appends old o h.0) (sym (same a)) h.2))
second_refused is more old mid new later some h same (inr k) = both_begun is more old mid new h k

pub after_printed : (before : List ℕ) (is : List ℕ → Type 0) (old mid new : Option (List ℕ)) → Appends old mid before → Prints is mid new → Prints (IsAfter before is) old new
after_printed before is old mid new h k = (before ++ k.0, (k.0, k.1, refl), appended_both old mid new before k.0 h k.2)

pub after_begun : (before : List ℕ) (is : List ℕ → Type 0) (old mid new : Option (List ℕ)) → Appends old mid before → Begins is mid new → Begins (IsAfter before is) old new
after_begun before is old mid new h k = (before ++ k.0, (k.0, k.1, refl), begun_after old mid new before k.0 h k.2)

pub before_begun : (before : List ℕ) (is : List ℕ → Type 0) (old new : Option (List ℕ)) (later : List ℕ) → is later → TakesBeginning old new before → Begins (IsAfter before is) old new
before_begun before is old new later some h = (before ++ later, (later, some, refl), begun_more later h)

pub after_refused : {A : Type 0} (before : List ℕ) (is : List ℕ → Type 0) (old mid new : Option (List ℕ)) (later : List ℕ) → is later → Appends old mid before → (A → new ≡ mid) → A ⊎ Begins is mid new → Begins (IsAfter before is) old new
after_refused before is old mid new later some h same (inl a) = before_begun before is old new later some (taken_whole (subst (λ (o : Option (List ℕ)). Appends old o before) (sym (same a)) h))
after_refused before is old mid new later some h same (inr k) = after_begun before is old mid new h k

-- some table
pub no_table : (f : Format) → IsTable f (table_text f [] [])
no_table f = record { columns = []; rows = []; under = tt; is = refl }

module _ (f : Format) where
  rows_after : (rows more : List (List Field)) → rows_text f false (rows ++ more) ≡ rows_text f false rows ++ rows_text f false more
  unfolding rows_text
  rows_after rows more = flat_map-append (λ row. divider f ++ row_text f row) rows more

  rows_first : (rows more : List (List Field)) → rows_text f true (rows ++ more) ≡ rows_text f true rows ++ rows_text f (is_empty rows) more
  unfolding rows_text
  rows_first [] more = refl
  rows_first (row ∷ rows) more = ap (λ s. row_text f row ++ s) (flat_map-append (λ r. divider f ++ row_text f r) rows more) ∙ sym (append_assoc (row_text f row) (flat_map (λ r. divider f ++ row_text f r) rows) (flat_map (λ r. divider f ++ row_text f r) more))

  rows_both : (starts : Bool) (rows more : List (List Field)) → rows_text f starts (rows ++ more) ≡ rows_text f starts rows ++ rows_text f (starts && is_empty rows) more
  rows_both true rows more = rows_first rows more
  rows_both false rows more = rows_after rows more

  no_rows : (starts : Bool) → rows_text f starts [] ≡ []
  unfolding rows_text
  no_rows true = refl
  no_rows false = refl

  empty_both : (starts : Bool) (rows more : List (List Field)) → (starts && is_empty (rows ++ more)) ≡ ((starts && is_empty rows) && is_empty more)
  empty_both true [] more = refl
  empty_both true (row ∷ rows) more = refl
  empty_both false rows more = refl

  module _ (columns : List (List ℕ)) where
    under_both : (rows more : List (List Field)) → AreUnder columns rows → AreUnder columns more → AreUnder columns (rows ++ more)
    under_both [] more h k = k
    under_both (row ∷ rows) more h k = (h.0, under_both rows more h.1 k)

    -- no rows yet
    pub none_added : (starts : Bool) (old : Option (List ℕ)) → AddsRows f columns starts old old starts
    none_added starts old = record {
      rows = [];
      under = tt;
      appended = subst (λ (s : List ℕ). Appends old old s) (sym (no_rows starts)) (appends_nothing old);
      next_is = sym (and_true starts);
    }

    -- one row
    pub row_added : (starts : Bool) (old new : Option (List ℕ)) (row : List Field) → map (λ x. x.column) row ≡ columns → Appends old new (rows_text f starts (row ∷ [])) → AddsRows f columns starts old new false
    row_added starts old new row under h = record { rows = row ∷ []; under = (under, tt); appended = h; next_is = sym (and_false starts) }

    pub row_begun : (starts : Bool) (old new : Option (List ℕ)) (row : List Field) → map (λ x. x.column) row ≡ columns → TakesBeginning old new (rows_text f starts (row ∷ [])) → Begins (IsRows f columns starts) old new
    row_begun starts old new row under h = (rows_text f starts (row ∷ []), (row ∷ [], (under, tt), refl), h)

    -- rows after others
    pub rows_then : (starts : Bool) (old mid new : Option (List ℕ)) (next last : Bool) → AddsRows f columns starts old mid next → AddsRows f columns next mid new last → AddsRows f columns starts old new last
    rows_then starts old mid new next last h k =
        let e : rows_text f starts (h.rows ++ k.rows) ≡ rows_text f starts h.rows ++ rows_text f next k.rows = rows_both starts h.rows k.rows ∙ ap (λ b. rows_text f starts h.rows ++ rows_text f b k.rows) (sym h.next_is) in
        record {
          rows = h.rows ++ k.rows;
          under = under_both h.rows k.rows h.under k.under;
          appended = subst (λ (s : List ℕ). Appends old new s) (sym e) (appended_both old mid new (rows_text f starts h.rows) (rows_text f next k.rows) h.appended k.appended);
          next_is = k.next_is ∙ ap (λ b. b && is_empty k.rows) h.next_is ∙ sym (empty_both starts h.rows k.rows);
        }

    pub begun_then : (starts : Bool) (old mid new : Option (List ℕ)) (next : Bool) → AddsRows f columns starts old mid next → Begins (IsRows f columns next) mid new → Begins (IsRows f columns starts) old new
    begun_then starts old mid new next h k =
        let e : rows_text f starts (h.rows ++ k.1.0) ≡ rows_text f starts h.rows ++ k.0 = rows_both starts h.rows k.1.0 ∙ ap (λ b. rows_text f starts h.rows ++ rows_text f b k.1.0) (sym h.next_is) ∙ ap (λ s. rows_text f starts h.rows ++ s) (sym k.1.2) in
        (rows_text f starts h.rows ++ k.0, (h.rows ++ k.1.0, under_both h.rows k.1.0 h.under k.1.1, sym e), begun_after old mid new (rows_text f starts h.rows) k.0 h.appended k.2)

    pub rows_kept : (starts : Bool) (old new : Option (List ℕ)) (next : Bool) → AddsRows f columns starts old new next → Begins (IsRows f columns starts) old new
    rows_kept starts old new next h = (rows_text f starts h.rows, (h.rows, h.under, refl), taken_whole h.appended)

    pub added_kept : (starts : Bool) (old mid new : Option (List ℕ)) (next : Bool) → AddsRows f columns starts old mid next → Keeps mid new → AddsRows f columns starts old new next
    added_kept starts old mid new next h k = record { rows = h.rows; under = h.under; appended = keeps_appended old mid new (rows_text f starts h.rows) h.appended k; next_is = h.next_is }

    -- the rows so far, after what comes before them

    pub whole_is : (rows : List (List Field)) → table_text f columns rows ≡ (head_text f columns ++ rows_text f true rows) ++ tail_text f
    unfolding table_text
    whole_is rows = sym (append_assoc (head_text f columns) (rows_text f true rows) (tail_text f))

    table_is : (rows : List (List Field)) → AreUnder columns rows → IsTable f ((head_text f columns ++ rows_text f true rows) ++ tail_text f)
    table_is rows under = record { columns = columns; rows = rows; under = under; is = sym (whole_is rows) }

    pub has_none : (old new : Option (List ℕ)) → Appends old new (head_text f columns) → HasRows f columns old new true
    has_none old new h = record {
      rows = [];
      under = tt;
      appended = subst (λ (s : List ℕ). Appends old new s) (sym (ap (λ s. head_text f columns ++ s) (no_rows true) ∙ append-nil (head_text f columns))) h;
      next_is = refl;
    }

    pub has_more : (old mid new : Option (List ℕ)) (next last : Bool) → HasRows f columns old mid next → AddsRows f columns next mid new last → HasRows f columns old new last
    has_more old mid new next last h k =
        let head = head_text f columns in
        let e : head ++ rows_text f true (h.rows ++ k.rows) ≡ (head ++ rows_text f true h.rows) ++ rows_text f next k.rows = ap (λ s. head ++ s) (rows_first h.rows k.rows ∙ ap (λ b. rows_text f true h.rows ++ rows_text f b k.rows) (sym h.next_is)) ∙ sym (append_assoc head (rows_text f true h.rows) (rows_text f next k.rows)) in
        record {
          rows = h.rows ++ k.rows;
          under = under_both h.rows k.rows h.under k.under;
          appended = subst (λ (s : List ℕ). Appends old new s) (sym e) (appended_both old mid new (head ++ rows_text f true h.rows) (rows_text f next k.rows) h.appended k.appended);
          next_is = k.next_is ∙ ap (λ b. b && is_empty k.rows) h.next_is ∙ sym (empty_both true h.rows k.rows);
        }

    pub has_kept : (old new : Option (List ℕ)) (next : Bool) → HasRows f columns old new next → Begins (IsTable f) old new
    has_kept old new next h = ((head_text f columns ++ rows_text f true h.rows) ++ tail_text f, table_is h.rows h.under, begun_more (tail_text f) (taken_whole h.appended))

    pub has_begun : (old mid new : Option (List ℕ)) (next : Bool) → HasRows f columns old mid next → Begins (IsRows f columns next) mid new → Begins (IsTable f) old new
    has_begun old mid new next h k =
        let head = head_text f columns in
        let e : head ++ rows_text f true (h.rows ++ k.1.0) ≡ (head ++ rows_text f true h.rows) ++ k.0 = ap (λ s. head ++ s) (rows_first h.rows k.1.0 ∙ ap (λ b. rows_text f true h.rows ++ rows_text f b k.1.0) (sym h.next_is) ∙ ap (λ s. rows_text f true h.rows ++ s) (sym k.1.2)) ∙ sym (append_assoc head (rows_text f true h.rows) k.0) in
        (((head ++ rows_text f true h.rows) ++ k.0) ++ tail_text f, subst (λ (s : List ℕ). IsTable f (s ++ tail_text f)) e (table_is (h.rows ++ k.1.0) (under_both h.rows k.1.0 h.under k.1.1)), begun_more (tail_text f) (begun_after old mid new (head ++ rows_text f true h.rows) k.0 h.appended k.2))

    pub has_whole : {T E : Type 0} (r : Result T E) (old mid new : Option (List ℕ)) (next : Bool) → HasRows f columns old mid next → Writes mid new r (tail_text f) → OnOk r (Prints (IsTable f) old new)
    has_whole (Ok x) old mid new next h k =
        let before = head_text f columns ++ rows_text f true h.rows in
        (before ++ tail_text f, table_is h.rows h.under, appended_both old mid new before (tail_text f) h.appended k.all)
    has_whole (Err e) old mid new next h k = tt

    pub has_tail : {T E : Type 0} (r : Result T E) (old mid new : Option (List ℕ)) (next : Bool) → HasRows f columns old mid next → Writes mid new r (tail_text f) → OnErr r (Begins (IsTable f) old new)
    has_tail (Ok x) old mid new next h k = tt
    has_tail (Err e) old mid new next h k =
        let before = head_text f columns ++ rows_text f true h.rows in
        (before ++ tail_text f, table_is h.rows h.under, begun_after old mid new before (tail_text f) h.appended k.part)

    pub head_begun : (old new : Option (List ℕ)) → TakesBeginning old new (head_text f columns) → Begins (IsTable f) old new
    head_begun old new h = ((head_text f columns ++ rows_text f true []) ++ tail_text f, table_is [] tt, begun_more (tail_text f) (begun_more (rows_text f true []) h))

-- a table with one row
pub one_row : (f : Format) (row : List Field) (names : List (List ℕ)) (head mid text : List ℕ) → names ≡ map (λ x. x.column) row → head ≡ head_text f names → mid ≡ head ++ rows_text f true (row ∷ []) → text ≡ mid ++ tail_text f → text ≡ row_table f row
one_row f row names head mid text under begun with_row whole =
    whole
    ∙ ap (λ s. s ++ tail_text f) (with_row ∙ ap (λ s. s ++ rows_text f true (row ∷ [])) (begun ∙ ap (λ ns. head_text f ns) under))
    ∙ sym (whole_is f (map (λ x. x.column) row) (row ∷ []))

pub same_rows : {x y : Field} {xs ys : List Field} → x ≡ y → xs ≡ ys → (x ∷ xs) ≡ (y ∷ ys)
same_rows {y = y} {xs} e h = ap (λ z. z ∷ xs) e ∙ ap (λ zs. y ∷ zs) h
