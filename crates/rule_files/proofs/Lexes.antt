-- A text is split just as the lexical grammar says.
use Rattle.std.specs.Str.{bytes_eq}
use Rattle.std.proofs.Common.{codes, ◌&&◌, ◌≡◌, ◌≤◌, ℕ, zero, suc, ◌+◌, ◌-◌, List, [], ◌∷◌, ◌++◌, Option, Some, None, Bool, true, false, eqb, length, take, drop, refl, sym, ap, ◌∙◌, subst, arith, length-append, if◌then◌else◌, inl, inr}
use Rattle.std.proofs.lemmas.Bool.{cases_Bool}
use Rattle.std.proofs.lemmas.List.{take_at, drop_at}
use Rattle.std.proofs.lemmas.Slice.Eq.{bytes_eq-Decides}
use Rattle.eventkey.proofs.Fields.{bind_some}
use Rattle.rule_files.specs.declared.grammar.lexemes.Lexeme.{Lexeme}
use Rattle.rule_files.specs.declared.grammar.lexemes.Lexeme.TheVariants.{Mark}
use Rattle.rule_files.specs.declared.grammar.lexemes.Placed.{Placed}
use Rattle.rule_files.specs.declared.grammar.lexemes.Run.{Run}
use Rattle.rule_files.specs.declared.grammar.lexemes.Run.TheVariants.{Word, Line}
use Rattle.rule_files.specs.declared.grammar.token.Mark.TheVariants as m
use Rattle.rule_files.specs.Lexical.{belongs, double_at, is_counting, is_white, lex, lexemes_at, longest, or_count, piece, placed, run, sign_piece, single, word_of, Each, Stops, IsOfWord, IsPiece, white_space, a_comment, a_word, a_double, a_single, a_count, Splits, nothing_left, a_piece}
use Rattle.rule_files.specs.ReadingValues.{◌>>=◌}
use Rattle.rule_files.proofs.Marks.{equal_number, some_is}

-- what comes first, by the kinds of bytes
abbrev word_piece : List ℕ → Option (Option Lexeme × ℕ)
word_piece bs = word_of (take (run Word bs) bs) >>= λ x. Some (Some x, run Word bs)

abbrev sign_found : Option (Lexeme × ℕ) → Option (Option Lexeme × ℕ)
sign_found found = found >>= λ p. Some (Some p.0, p.1)

abbrev not_comment : ℕ → List ℕ → Option (Option Lexeme × ℕ)
not_comment b rest = if belongs Word b then word_piece (b ∷ rest) else sign_found (sign_piece b rest)

abbrev not_white : ℕ → List ℕ → Option (Option Lexeme × ℕ)
not_white b rest = if eqb b 35 then Some (None, 1 + run Line rest) else not_comment b rest

run_is : (kind : Run) (front rest : List ℕ) → Each kind front → Stops kind rest → run kind (front ++ rest) ≡ length front
run_is kind [] [] each stops = refl
run_is kind [] (b ∷ rest) each stops = ap (λ c. if c then run kind rest + 1 else 0) stops
run_is kind (b ∷ front) rest each stops =
    let more = run_is kind front rest each.1 stops in
    let one : run kind (front ++ rest) + 1 ≡ suc (length front) = omega (arith, more) in
    ap (λ c. if c then run kind (front ++ rest) + 1 else 0) each.0 ∙ one

other_piece : (word : Bool) (b : ℕ) (rest : List ℕ) → IsOfWord word b → piece (b ∷ rest) ≡ (if word then word_piece (b ∷ rest) else sign_found (sign_piece b rest))
other_piece word b rest kind =
    ap (λ c. if c then Some (None, 1) else not_white b rest) kind.0
    ∙ ap (λ c. if c then Some (None, 1 + run Line rest) else not_comment b rest) kind.1
    ∙ ap (λ c. if c then word_piece (b ∷ rest) else sign_found (sign_piece b rest)) kind.2

piece_is : (found : Option Lexeme) (front rest : List ℕ) → IsPiece found front rest → piece (front ++ rest) ≡ Some (found, length front)
piece_is _ _ _ (white_space b rest white) = ap (λ c. if c then Some (None, 1) else not_white b rest) white
piece_is _ _ _ (a_comment line rest each stops) =
    let size : 1 + run Line (line ++ rest) ≡ suc (length line) = omega (arith, run_is Line line rest each stops) in
    ap (λ n. Some (None, n)) size
piece_is _ _ _ (a_word b bs rest x kind each stops is) =
    let size = run_is Word (b ∷ bs) rest (kind.2, each) stops in
    other_piece true b (bs ++ rest) kind
    ∙ ap (λ n. word_of (take n (b ∷ (bs ++ rest))) >>= λ y. Some (Some y, n)) size
    ∙ ap (λ us. word_of us >>= λ y. Some (Some y, length (b ∷ bs))) (take_at (b ∷ bs) rest (length (b ∷ bs)) refl)
    ∙ ap (λ o. o >>= λ y. Some (Some y, length (b ∷ bs))) is
piece_is _ _ _ (a_double a b rest x kind is) =
    other_piece false a (b ∷ rest) kind ∙ ap (λ o. sign_found (or_count (longest o (single a)) a (b ∷ rest))) is
piece_is _ _ _ (a_single a rest x kind none is) =
    other_piece false a rest kind
    ∙ ap (λ o. sign_found (or_count (longest o (single a)) a rest)) none
    ∙ ap (λ o. sign_found (or_count (longest None o) a rest)) is
piece_is _ _ _ (a_count rest stops) =
    let letters = codes "count" in
    let size = run_is Word letters rest (refl, (refl, (refl, (refl, (refl, tt))))) stops in
    ap (λ n. sign_found (if eqb n 5 && bytes_eq (take 5 (letters ++ rest)) letters then Some (Mark m.Count, 6) else None)) size

piece_long : (found : Option Lexeme) (front rest : List ℕ) → IsPiece found front rest → 1 ≤ length front
piece_long _ _ _ (white_space b rest white) = omega arith
piece_long _ _ _ (a_comment line rest each stops) = omega arith
piece_long _ _ _ (a_word b bs rest x kind each stops is) = omega arith
piece_long _ _ _ (a_double a b rest x kind is) = omega arith
piece_long _ _ _ (a_single a rest x kind none is) = omega arith
piece_long _ _ _ (a_count rest stops) = omega arith

-- ---- what is split is found

one_piece : (n at k : ℕ) (bytes : List ℕ) (found : Option Lexeme) (ts : List Placed) → 1 ≤ n → piece bytes ≡ Some (found, k) → lex (n - 1) (at + k) (drop k bytes) ≡ Some ts →
    lex n at bytes ≡ Some (placed found at (at + k) ++ ts)
one_piece zero at k bytes found ts some e more = absurd (omega arith)
one_piece (suc n) at k [] found ts some e more = absurd cc
one_piece (suc n) at k (b ∷ rest) found ts some e more =
    let less : n ≡ suc n - 1 = omega arith in
    ap (λ r. r >>= λ p. lex n (at + p.1) (drop p.1 (b ∷ rest)) >>= λ us. Some (placed p.0 at (at + p.1) ++ us)) e
    ∙ ap (λ r. r >>= λ us. Some (placed found at (at + k) ++ us)) (ap (λ m. lex m (at + k) (drop k (b ∷ rest))) less ∙ more)

lexes_is : (at : ℕ) (bytes : List ℕ) (ts : List Placed) → Splits at bytes ts → (n : ℕ) → length bytes ≤ n → lex n at bytes ≡ Some ts
lexes_is _ _ _ (nothing_left at) zero fits = refl
lexes_is _ _ _ (nothing_left at) (suc n) fits = refl
lexes_is _ _ _ (a_piece at found front rest ts is more) n fits =
    let long = piece_long found front rest is in
    let all = length-append front rest in
    one_piece n at (length front) (front ++ rest) found ts (omega arith) (piece_is found front rest is)
    (ap (lex (n - 1) (at + length front)) (drop_at front rest (length front) refl) ∙ lexes_is (at + length front) rest ts more (n - 1) (omega arith))

-- ---- what is found is split

record Runs (kind : Run) (bytes : List ℕ) : Type 0 where
  front : List ℕ
  behind : List ℕ
  parts : bytes ≡ front ++ behind
  size : length front ≡ run kind bytes
  each : Each kind front
  stops : Stops kind behind

runs : (kind : Run) (bytes : List ℕ) → Runs kind bytes
runs kind [] = record { front = []; behind = []; parts = refl; size = refl; each = tt; stops = tt }
runs kind (b ∷ bytes) = elim (cases_Bool (belongs kind b)) [
  | inl here ↦
      let more = runs kind bytes in
      let size : suc (length more.front) ≡ run kind bytes + 1 = omega (arith, more.size) in
      record {
        front = b ∷ more.front;
        behind = more.behind;
        parts = ap (λ us. b ∷ us) more.parts;
        size = size ∙ sym (ap (λ c. if c then run kind bytes + 1 else 0) here);
        each = (here, more.each);
        stops = more.stops;
      }
  | inr stop ↦ record {
    front = [];
    behind = b ∷ bytes;
    parts = refl;
    size = sym (ap (λ c. if c then run kind bytes + 1 else 0) stop);
    each = tt;
    stops = stop;
  }
]

record Found (bytes : List ℕ) (p : Option Lexeme × ℕ) : Type 0 where
  front : List ℕ
  behind : List ℕ
  parts : bytes ≡ front ++ behind
  size : length front ≡ p.1
  is : IsPiece p.0 front behind

word_only : (b : ℕ) (rest : List ℕ) (p : Option Lexeme × ℕ) → IsOfWord true b → word_piece (b ∷ rest) ≡ Some p → Found (b ∷ rest) p
word_only b rest p kind e =
    let one = bind_some (word_of (take (run Word (b ∷ rest)) (b ∷ rest))) (λ x. Some (Some x, run Word (b ∷ rest))) p e in
    let same = some_is (Some one.0, run Word (b ∷ rest)) p one.2 in
    let more = runs Word rest in
    let size : length (b ∷ more.front) ≡ run Word (b ∷ rest) =
    (let one_longer : suc (length more.front) ≡ run Word rest + 1 = omega (arith, more.size) in
    one_longer ∙ sym (ap (λ c. if c then run Word rest + 1 else 0) kind.2)) in
    let front : take (run Word (b ∷ rest)) (b ∷ rest) ≡ b ∷ more.front =
    ap (λ us. take (run Word (b ∷ rest)) (b ∷ us)) more.parts ∙ take_at (b ∷ more.front) more.behind (run Word (b ∷ rest)) size in
    subst (Found (b ∷ rest)) same (record {
      front = b ∷ more.front;
      behind = more.behind;
      parts = ap (λ us. b ∷ us) more.parts;
      size = size;
      is = a_word b more.front more.behind one.0 kind more.each more.stops (sym (ap word_of front) ∙ one.1);
    })

double_only : (b : ℕ) (rest : List ℕ) (x : Lexeme) → IsOfWord false b → double_at b rest ≡ Some x → Found (b ∷ rest) (Some x, 2)
double_only b [] x kind e = absurd cc
double_only b (c ∷ rest) x kind e = record { front = b ∷ c ∷ []; behind = rest; parts = refl; size = refl; is = a_double b c rest x kind e }

both_true : (a b : Bool) → (a && b) ≡ true → (a ≡ true) × (b ≡ true)
both_true true b e = (refl, e)
both_true false b e = absurd cc

count_only : (b : ℕ) (rest : List ℕ) (p : Option Lexeme × ℕ) → sign_found (if eqb b 46 && is_counting rest then Some (Mark m.Count, 6) else None) ≡ Some p →
    Found (b ∷ rest) p
count_only b rest p e = elim (cases_Bool (eqb b 46 && is_counting rest)) [
  | inl here ↦
      let found : ◌≡◌ {A = Option (Option Lexeme × ℕ)} (Some (Some (Mark m.Count), 6)) (Some p) =
      ap (λ c. sign_found (if c then Some (Mark m.Count, 6) else None)) (sym here) ∙ e in
      let point = both_true (eqb b 46) (is_counting rest) here in
      let parts = both_true (eqb (run Word rest) 5) (bytes_eq (take 5 rest) (codes "count")) point.1 in
      let five = equal_number 5 (run Word rest) parts.0 in
      let letters : take 5 rest ≡ codes "count" = (bytes_eq-Decides (take 5 rest) (codes "count")).0 parts.1 in
      let more = runs Word rest in
      let front : more.front ≡ codes "count" =
      sym (take_at more.front more.behind 5 (more.size ∙ five)) ∙ ap (take 5) (sym more.parts) ∙ letters in
      subst (Found (b ∷ rest)) (some_is (Some (Mark m.Count), 6) p found) (record {
        front = 46 ∷ codes "count";
        behind = more.behind;
        parts = ap (λ c. c ∷ rest) (equal_number 46 b point.0) ∙ ap (λ us. 46 ∷ us) (more.parts ∙ ap (λ us. us ++ more.behind) front);
        size = refl;
        is = a_count more.behind more.stops;
      })
  | inr other ↦
      let found : ◌≡◌ {A = Option (Option Lexeme × ℕ)} None (Some p) = ap (λ c. sign_found (if c then Some (Mark m.Count, 6) else None)) (sym other) ∙ e in
      absurd cc
]

sign_only : (b : ℕ) (rest : List ℕ) (p : Option Lexeme × ℕ) → IsOfWord false b → sign_found (sign_piece b rest) ≡ Some p → Found (b ∷ rest) p
sign_only b rest p kind e = at (double_at b rest) (single b) refl refl e
  where
    at : (o i : Option Lexeme) → double_at b rest ≡ o → single b ≡ i → sign_found (or_count (longest o i) b rest) ≡ Some p → Found (b ∷ rest) p
    at (Some x) i is one e = subst (Found (b ∷ rest)) (some_is (Some x, 2) p e) (double_only b rest x kind is)
    at None (Some x) is one e =
        subst (Found (b ∷ rest)) (some_is (Some x, 1) p e) (record { front = b ∷ []; behind = rest; parts = refl; size = refl; is = a_single b rest x kind is one })
    at None None is one e = count_only b rest p e

piece_only : (b : ℕ) (rest : List ℕ) (p : Option Lexeme × ℕ) → piece (b ∷ rest) ≡ Some p → Found (b ∷ rest) p
piece_only b rest p e = elim (cases_Bool (is_white b)) [
  | inl white ↦
      let here : ◌≡◌ {A = Option (Option Lexeme × ℕ)} (Some (None, 1)) (Some p) = ap (λ c. if c then Some (None, 1) else not_white b rest) (sym white) ∙ e in
      subst (Found (b ∷ rest)) (some_is (None, 1) p here) (record { front = b ∷ []; behind = rest; parts = refl; size = refl; is = white_space b rest white })
  | inr dark ↦
      let here : not_white b rest ≡ Some p = ap (λ c. if c then Some (None, 1) else not_white b rest) (sym dark) ∙ e in
      elim (cases_Bool (eqb b 35)) [
        | inl hash ↦
            let found : ◌≡◌ {A = Option (Option Lexeme × ℕ)} (Some (None, 1 + run Line rest)) (Some p) =
            ap (λ c. if c then Some (None, 1 + run Line rest) else not_comment b rest) (sym hash) ∙ here in
            let more = runs Line rest in
            let size : suc (length more.front) ≡ 1 + run Line rest = omega (arith, more.size) in
            subst (Found (b ∷ rest)) (some_is (None, 1 + run Line rest) p found) (record {
              front = 35 ∷ more.front;
              behind = more.behind;
              parts = ap (λ c. c ∷ rest) (equal_number 35 b hash) ∙ ap (λ us. 35 ∷ us) more.parts;
              size = size;
              is = a_comment more.front more.behind more.each more.stops;
            })
        | inr other ↦
            let found : not_comment b rest ≡ Some p = ap (λ c. if c then Some (None, 1 + run Line rest) else not_comment b rest) (sym other) ∙ here in
            elim (cases_Bool (belongs Word b)) [
              | inl word ↦
                  word_only b rest p (dark, other, word)
                  (ap (λ c. if c then word_piece (b ∷ rest) else sign_found (sign_piece b rest)) (sym word) ∙ found)
              | inr sign ↦
                  sign_only b rest p (dark, other, sign)
                  (ap (λ c. if c then word_piece (b ∷ rest) else sign_found (sign_piece b rest)) (sym sign) ∙ found)
            ]
      ]
]

placed_there : (at k : ℕ) (found : Option Lexeme) (front behind : List ℕ) (ts : List Placed) → length front ≡ k → IsPiece found front behind → Splits (at + k) behind ts →
    Splits at (front ++ behind) (placed found at (at + k) ++ ts)
placed_there at k found front behind ts size is =
    subst (λ j. Splits (at + j) behind ts → Splits at (front ++ behind) (placed found at (at + j) ++ ts)) size (λ more. a_piece at found front behind ts is more)

nothing_found : (at : ℕ) (ts : List Placed) → ◌≡◌ {A = Option (List Placed)} (Some []) (Some ts) → Splits at [] ts
nothing_found at ts e = subst (Splits at []) (some_is [] ts e) (nothing_left at)

lexes_only : (n at : ℕ) (bytes : List ℕ) (ts : List Placed) → length bytes ≤ n → lex n at bytes ≡ Some ts → Splits at bytes ts
lexes_only zero at [] ts fits e = nothing_found at ts e
lexes_only zero at (b ∷ rest) ts fits e = absurd (omega arith)
lexes_only (suc n) at [] ts fits e = nothing_found at ts e
lexes_only (suc n) at (b ∷ rest) ts fits e =
    let a = bind_some (piece (b ∷ rest)) (λ p. lex n (at + p.1) (drop p.1 (b ∷ rest)) >>= λ us. Some (placed p.0 at (at + p.1) ++ us)) ts e in
    let c = bind_some (lex n (at + a.0.1) (drop a.0.1 (b ∷ rest))) (λ us. Some (placed a.0.0 at (at + a.0.1) ++ us)) ts a.2 in
    let found = piece_only b rest a.0 a.1 in
    let left : drop a.0.1 (b ∷ rest) ≡ found.behind = ap (drop a.0.1) found.parts ∙ drop_at found.front found.behind a.0.1 found.size in
    let long = piece_long a.0.0 found.front found.behind found.is in
    let all : length (b ∷ rest) ≡ length found.front + length found.behind = ap length found.parts ∙ length-append found.front found.behind in
    let more = lexes_only n (at + a.0.1) found.behind c.0 (omega arith) (sym (ap (lex n (at + a.0.1)) left) ∙ c.1) in
    subst (Splits at (b ∷ rest)) (some_is (placed a.0.0 at (at + a.0.1) ++ c.0) ts c.2)
    (subst (λ bs. Splits at bs (placed a.0.0 at (at + a.0.1) ++ c.0)) (sym found.parts)
    (placed_there at a.0.1 a.0.0 found.front found.behind c.0 found.size found.is more))

pub split_is : (bytes : List ℕ) (ts : List Placed) → Splits 0 bytes ts → lexemes_at bytes ≡ Some ts
unfolding lexemes_at
split_is bytes ts splits = lexes_is 0 bytes ts splits (length bytes) (omega arith)

pub split_only : (bytes : List ℕ) (ts : List Placed) → lexemes_at bytes ≡ Some ts → Splits 0 bytes ts
unfolding lexemes_at
split_only bytes ts e = lexes_only (length bytes) 0 bytes ts (omega arith) e
