-- The rows of a tree as the lists that the code sees.
use Rattle.std.proofs.Common.{◌≡◌, ℕ, List, Vec, Global, refl, ap, sym, ◌∙◌, ◌++◌, codes}
use mathlib.Core.Former.{Count}
use Rattle.rule_files.specs.Printed.{deeper, named, named_all, named_row, next, opening, otherwise_layout, otherwise_of, otherwise_row, passed}
use Rattle.rule_files.specs.Printed.{name_at, with_block, with_closing, with_indent, with_local, with_margin, with_row, with_statement, with_value}
use Rattle.rule_files.specs.declared.file_model.FileNames.{FileNames}
use Rattle.rule_files.specs.declared.printed.Layout.{Layout}
use Rattle.rule_files.specs.declared.printed.Otherwise.{Otherwise}
use Rattle.std.specs.Prelude.{decimal}
use Rattle.rules.specs.declared.tree.Expression.{Expression}
use Rattle.rules.specs.declared.tree.Statement.{Statement, If, Repeat, RepeatUntil, If', Repeat', RepeatUntil', Row_of-Statement, end_of-Statement, more_of-Statement, items-the_row-Statement, items_hidden-the_row-Statement-0}

row-named : (n : _) (row : Row_of-Statement n) (k : ℕ) → named_row row k ≡ named_all (items-the_row-Statement n row) k
row-named n end_of-Statement k = refl
row-named n (more_of-Statement x rest) k = row-named _ rest (named x k)

row-otherwise : (n : _) (row : Row_of-Statement n) → otherwise_row row ≡ otherwise_of (items-the_row-Statement n row)
row-otherwise n end_of-Statement = refl
row-otherwise n (more_of-Statement x end_of-Statement) = refl
row-otherwise n (more_of-Statement x (more_of-Statement y rest)) = refl

abbrev first_row : Statement → (n : Count) × Row_of-Statement n
first_row (If' e s met t unmet) = (_, met)
first_row (Repeat' i n s body) = (_, body)
first_row (RepeatUntil' i n e s body) = (_, body)
first_row _ = (_, end_of-Statement)

abbrev second_row : Statement → (n : Count) × Row_of-Statement n
second_row (If' e s met t unmet) = (_, unmet)
second_row _ = (_, end_of-Statement)

named-If : (e : Expression) (met unmet : Vec Statement Global) (k : ℕ) →
    named (If e met unmet) k ≡ named_all unmet.items (named_all met.items k)
named-If e met unmet k =
    let one = first_row (If e met unmet) in
    let two = second_row (If e met unmet) in
    ap (λ j. named_row two.1 j) (row-named one.0 one.1 k ∙ ap (λ xs. named_all xs k) (items_hidden-the_row-Statement-0 met))
    ∙ row-named two.0 two.1 (named_all met.items k)
    ∙ ap (λ xs. named_all xs (named_all met.items k)) (items_hidden-the_row-Statement-0 unmet)

named-Repeat : (place n : ℕ) (body : Vec Statement Global) (k : ℕ) →
    named (Repeat place n body) k ≡ named_all body.items (next k)
named-Repeat place n body k =
    let one = first_row (Repeat place n body) in
    row-named one.0 one.1 (next k) ∙ ap (λ xs. named_all xs (next k)) (items_hidden-the_row-Statement-0 body)

named-RepeatUntil : (place n : ℕ) (e : Expression) (body : Vec Statement Global) (k : ℕ) →
    named (RepeatUntil place n e body) k ≡ named_all body.items (next k)
named-RepeatUntil place n e body k =
    let one = first_row (RepeatUntil place n e body) in
    row-named one.0 one.1 (next k) ∙ ap (λ xs. named_all xs (next k)) (items_hidden-the_row-Statement-0 body)

module _ (names : FileNames) (given : List (List ℕ)) where
  row-with : (n : _) (row : Row_of-Statement n) (at : Layout) (k : ℕ) (text : List ℕ) →
      with_row names given at k text row ≡ with_block names given at k text (items-the_row-Statement n row)
  row-with n end_of-Statement at k text = refl
  row-with n (more_of-Statement x rest) at k text =
      row-with _ rest (passed x k at) (named x k) (with_statement names given at k text x)

  module _ (at : Layout) (k : ℕ) (text : List ℕ) where
    -- the text after the first block of a choice
    abbrev pub before_met : Expression → List ℕ
    before_met e = with_value names given at 9 (with_margin at text ++ codes "if ") e ++ codes " {\n"

    abbrev pub before_turns : ℕ → List ℕ
    before_turns n =
        ((((with_margin at text ++ codes "repeat ") ++ name_at given k) ++ codes " ") ++ decimal n) ++ codes " {\n"

    abbrev pub chosen : Expression → List Statement → List Statement → List ℕ
    chosen e met unmet =
        with_closing (otherwise_of unmet) at
        (with_block names given (otherwise_layout (otherwise_of unmet) at) (named_all met k)
        (with_indent at.depth (with_block names given (deeper at) k (before_met e) met)
        ++ opening (otherwise_of unmet)) unmet)

    abbrev pub repeated : ℕ → ℕ → List Statement → List ℕ
    repeated place n body =
        with_indent at.depth (with_block names given (deeper (with_local place k at)) (next k) (before_turns n) body)
        ++ codes "}\n"

    abbrev pub before_tests : ℕ → ℕ → Expression → List ℕ
    before_tests place n e =
        with_value names given (with_local place k at) 9
        (((((with_margin at text ++ codes "repeat ") ++ name_at given k) ++ codes " ") ++ decimal n) ++ codes " until ") e
        ++ codes " {\n"

    abbrev pub tested : ℕ → ℕ → Expression → List Statement → List ℕ
    tested place n e body =
        with_indent at.depth (with_block names given (deeper (with_local place k at)) (next k) (before_tests place n e) body)
        ++ codes "}\n"

    with-RepeatUntil : (place n : ℕ) (e : Expression) (body : Vec Statement Global) →
        with_statement names given at k text (RepeatUntil place n e body) ≡ tested place n e body.items
    with-RepeatUntil place n e body =
        let one = first_row (RepeatUntil place n e body) in
        ap (λ s. with_indent at.depth s ++ codes "}\n")
        (row-with one.0 one.1 (deeper (with_local place k at)) (next k) (before_tests place n e)
        ∙ ap (with_block names given (deeper (with_local place k at)) (next k) (before_tests place n e)) (items_hidden-the_row-Statement-0 body))

    with-If : (e : Expression) (met unmet : Vec Statement Global) →
        with_statement names given at k text (If e met unmet) ≡ chosen e met.items unmet.items
    with-If e met unmet =
        let one = first_row (If e met unmet) in
        let two = second_row (If e met unmet) in
        let kind : otherwise_row two.1 ≡ otherwise_of unmet.items =
        row-otherwise two.0 two.1 ∙ ap otherwise_of (items_hidden-the_row-Statement-0 unmet) in
        let count : named_row one.1 k ≡ named_all met.items k =
        row-named one.0 one.1 k ∙ ap (λ xs. named_all xs k) (items_hidden-the_row-Statement-0 met) in
        let inner : with_row names given (deeper at) k (before_met e) one.1 ≡ with_block names given (deeper at) k (before_met e) met.items =
        row-with one.0 one.1 (deeper at) k (before_met e)
        ∙ ap (with_block names given (deeper at) k (before_met e)) (items_hidden-the_row-Statement-0 met) in
        let whole : Otherwise → ℕ → List ℕ → List ℕ = λ u j s.
        with_closing u at (with_row names given (otherwise_layout u at) j (with_indent at.depth s ++ opening u) two.1) in
        let u = otherwise_of unmet.items in
        let s = with_indent at.depth (with_block names given (deeper at) k (before_met e) met.items) ++ opening u in
        ap (λ v. whole v (named_row one.1 k) (with_row names given (deeper at) k (before_met e) one.1)) kind
        ∙ ap (λ j. whole u j (with_row names given (deeper at) k (before_met e) one.1)) count
        ∙ ap (λ r. whole u (named_all met.items k) r) inner
        ∙ ap (with_closing u at) (row-with two.0 two.1 (otherwise_layout u at) (named_all met.items k) s
        ∙ ap (with_block names given (otherwise_layout u at) (named_all met.items k) s) (items_hidden-the_row-Statement-0 unmet))

    with-Repeat : (place n : ℕ) (body : Vec Statement Global) →
        with_statement names given at k text (Repeat place n body) ≡ repeated place n body.items
    with-Repeat place n body =
        let one = first_row (Repeat place n body) in
        ap (λ s. with_indent at.depth s ++ codes "}\n")
        (row-with one.0 one.1 (deeper (with_local place k at)) (next k) (before_turns n)
        ∙ ap (with_block names given (deeper (with_local place k at)) (next k) (before_turns n)) (items_hidden-the_row-Statement-0 body))

-- for a statement that is known to be a choice, and its blocks as lists
module _ (s : Statement) (e : Expression) (met unmet : Vec Statement Global) (choice : s ≡ If e met unmet) (xs ys : List Statement) (one : xs ≡ met.items) (two : ys ≡ unmet.items) where
  pub choice-named : (k : ℕ) → named s k ≡ named_all ys (named_all xs k)
  choice-named k =
      ap (λ t. named t k) choice ∙ named-If e met unmet k
      ∙ ap (λ zs. named_all zs (named_all met.items k)) (sym two)
      ∙ ap (λ zs. named_all ys (named_all zs k)) (sym one)

  pub choice-with : (names : FileNames) (given : List (List ℕ)) (at : Layout) (k : ℕ) (text : List ℕ) →
      with_statement names given at k text s ≡ chosen names given at k text e xs ys
  choice-with names given at k text =
      ap (with_statement names given at k text) choice ∙ with-If names given at k text e met unmet
      ∙ ap (λ zs. chosen names given at k text e met.items zs) (sym two)
      ∙ ap (λ zs. chosen names given at k text e zs ys) (sym one)

  -- the texts after each part that is printed
  module _ (names : FileNames) (given : List (List ℕ)) (at inside behind : Layout) (k n : ℕ) (zs : List Statement) (three : zs ≡ unmet.items) (u : Otherwise) (kind : u ≡ otherwise_of zs) (mark t0 t1 t2 t3 t4 t5 t6 t7 t8 t9 : List ℕ) where
    pub choice-text : inside ≡ deeper at → n ≡ named_all xs k → mark ≡ opening u → behind ≡ otherwise_layout u at →
        t1 ≡ with_margin at t0 → t2 ≡ t1 ++ codes "if " → t3 ≡ with_value names given at 9 t2 e → t4 ≡ t3 ++ codes " {\n" →
        t5 ≡ with_block names given inside k t4 xs → t6 ≡ with_indent at.depth t5 → t7 ≡ t6 ++ mark →
        t8 ≡ with_block names given behind n t7 ys → t9 ≡ with_closing u at t8 →
        t9 ≡ with_statement names given at k t0 s
    choice-text a b d f e1 e2 e3 e4 e5 e6 e7 e8 e9 =
        let whole : Otherwise → List ℕ = λ v.
        with_closing v at (with_block names given (otherwise_layout v at) (named_all xs k)
        (with_indent at.depth (with_block names given (deeper at) k (before_met names given at k t0 e) xs) ++ opening v) ys) in
        let four : t4 ≡ before_met names given at k t0 e =
        e4 ∙ ap (λ t. t ++ codes " {\n") (e3 ∙ ap (λ t. with_value names given at 9 t e) (e2 ∙ ap (λ t. t ++ codes "if ") e1)) in
        let five : t5 ≡ with_block names given (deeper at) k (before_met names given at k t0 e) xs =
        e5 ∙ ap (λ l. with_block names given l k t4 xs) a ∙ ap (λ t. with_block names given (deeper at) k t xs) four in
        let seven : t7 ≡ with_indent at.depth (with_block names given (deeper at) k (before_met names given at k t0 e) xs) ++ opening u =
        e7 ∙ ap (λ m. t6 ++ m) d ∙ ap (λ t. t ++ opening u) (e6 ∙ ap (with_indent at.depth) five) in
        let nine : t9 ≡ whole u =
        e9 ∙ ap (with_closing u at) (e8 ∙ ap (λ l. with_block names given l n t7 ys) f
        ∙ ap (λ j. with_block names given (otherwise_layout u at) j t7 ys) b
        ∙ ap (λ t. with_block names given (otherwise_layout u at) (named_all xs k) t ys) seven) in
        nine ∙ ap whole (kind ∙ ap otherwise_of (three ∙ sym two)) ∙ sym (choice-with names given at k t0)

-- and for one that is known to be a repetition
module _ (s : Statement) (place n : ℕ) (body : Vec Statement Global) (repetition : s ≡ Repeat place n body) (xs : List Statement) (one : xs ≡ body.items) where
  pub repetition-named : (k : ℕ) → named s k ≡ named_all xs (next k)
  repetition-named k =
      ap (λ t. named t k) repetition ∙ named-Repeat place n body k ∙ ap (λ zs. named_all zs (next k)) (sym one)

  pub repetition-with : (names : FileNames) (given : List (List ℕ)) (at : Layout) (k : ℕ) (text : List ℕ) →
      with_statement names given at k text s ≡ repeated names given at k text place n xs
  repetition-with names given at k text =
      ap (with_statement names given at k text) repetition ∙ with-Repeat names given at k text place n body
      ∙ ap (repeated names given at k text place n) (sym one)

  module _ (names : FileNames) (given : List (List ℕ)) (at here inside : Layout) (k j m : ℕ) (name t0 t1 t2 t3 t4 t5 t6 t7 t8 t9 : List ℕ) where
    pub repetition-text : here ≡ with_local place k at → inside ≡ deeper here → j ≡ next k → m ≡ n → name ≡ name_at given k →
        t1 ≡ with_margin at t0 → t2 ≡ t1 ++ codes "repeat " → t3 ≡ t2 ++ name → t4 ≡ t3 ++ codes " " → t5 ≡ t4 ++ decimal m →
        t6 ≡ t5 ++ codes " {\n" → t7 ≡ with_block names given inside j t6 xs → t8 ≡ with_indent at.depth t7 → t9 ≡ t8 ++ codes "}\n" →
        t9 ≡ with_statement names given at k t0 s
    repetition-text a b d f g e1 e2 e3 e4 e5 e6 e7 e8 e9 =
        let three : t3 ≡ (with_margin at t0 ++ codes "repeat ") ++ name_at given k =
        e3 ∙ ap (λ w. t2 ++ w) g ∙ ap (λ t. t ++ name_at given k) (e2 ∙ ap (λ t. t ++ codes "repeat ") e1) in
        let six : t6 ≡ before_turns names given at k t0 n =
        e6 ∙ ap (λ t. t ++ codes " {\n") (e5 ∙ ap (λ i. t4 ++ decimal i) f
        ∙ ap (λ t. t ++ decimal n) (e4 ∙ ap (λ t. t ++ codes " ") three)) in
        let seven : t7 ≡ with_block names given (deeper (with_local place k at)) (next k) (before_turns names given at k t0 n) xs =
        e7 ∙ ap (λ l. with_block names given l j t6 xs) (b ∙ ap deeper a)
        ∙ ap (λ i. with_block names given (deeper (with_local place k at)) i t6 xs) d
        ∙ ap (λ t. with_block names given (deeper (with_local place k at)) (next k) t xs) six in
        e9 ∙ ap (λ t. t ++ codes "}\n") (e8 ∙ ap (with_indent at.depth) seven) ∙ sym (repetition-with names given at k t0)

-- and for one that is known to be a repetition with a test
module _ (s : Statement) (place n : ℕ) (e : Expression) (body : Vec Statement Global) (repetition : s ≡ RepeatUntil place n e body) (xs : List Statement) (one : xs ≡ body.items) where
  pub test-named : (k : ℕ) → named s k ≡ named_all xs (next k)
  test-named k =
      ap (λ t. named t k) repetition ∙ named-RepeatUntil place n e body k ∙ ap (λ zs. named_all zs (next k)) (sym one)

  pub test-with : (names : FileNames) (given : List (List ℕ)) (at : Layout) (k : ℕ) (text : List ℕ) →
      with_statement names given at k text s ≡ tested names given at k text place n e xs
  test-with names given at k text =
      ap (with_statement names given at k text) repetition ∙ with-RepeatUntil names given at k text place n e body
      ∙ ap (tested names given at k text place n e) (sym one)

  module _ (names : FileNames) (given : List (List ℕ)) (at here inside : Layout) (k j m : ℕ) (name t0 t1 t2 t3 t4 t5 t6 t7 t8 t9 t10 t11 : List ℕ) where
    pub test-text : here ≡ with_local place k at → inside ≡ deeper here → j ≡ next k → m ≡ n → name ≡ name_at given k →
        t1 ≡ with_margin at t0 → t2 ≡ t1 ++ codes "repeat " → t3 ≡ t2 ++ name → t4 ≡ t3 ++ codes " " → t5 ≡ t4 ++ decimal m →
        t6 ≡ t5 ++ codes " until " → t7 ≡ with_value names given here 9 t6 e → t8 ≡ t7 ++ codes " {\n" →
        t9 ≡ with_block names given inside j t8 xs → t10 ≡ with_indent at.depth t9 → t11 ≡ t10 ++ codes "}\n" →
        t11 ≡ with_statement names given at k t0 s
    test-text a b d f g e1 e2 e3 e4 e5 e6 e7 e8 e9 e10 e11 =
        let three : t3 ≡ (with_margin at t0 ++ codes "repeat ") ++ name_at given k =
        e3 ∙ ap (λ w. t2 ++ w) g ∙ ap (λ t. t ++ name_at given k) (e2 ∙ ap (λ t. t ++ codes "repeat ") e1) in
        let eight : t8 ≡ before_tests names given at k t0 place n e =
        e8 ∙ ap (λ t. t ++ codes " {\n") (e7 ∙ ap (λ l. with_value names given l 9 t6 e) a
        ∙ ap (λ t. with_value names given (with_local place k at) 9 t e) (e6 ∙ ap (λ t. t ++ codes " until ") (e5 ∙ ap (λ i. t4 ++ decimal i) f
        ∙ ap (λ t. t ++ decimal n) (e4 ∙ ap (λ t. t ++ codes " ") three)))) in
        let nine : t9 ≡ with_block names given (deeper (with_local place k at)) (next k) (before_tests names given at k t0 place n e) xs =
        e9 ∙ ap (λ l. with_block names given l j t8 xs) (b ∙ ap deeper a)
        ∙ ap (λ i. with_block names given (deeper (with_local place k at)) i t8 xs) d
        ∙ ap (λ t. with_block names given (deeper (with_local place k at)) (next k) t xs) eight in
        e11 ∙ ap (λ t. t ++ codes "}\n") (e10 ∙ ap (with_indent at.depth) nine) ∙ sym (test-with names given at k t0)
