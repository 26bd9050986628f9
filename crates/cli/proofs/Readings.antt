-- Values that clap takes as any text.
use Rattle.std.specs.Prelude.{◌≡◌, ◌==◌, ◌&&◌, ◌≤◌, ◌<◌, ℕ, nat_le, true, false, [], ◌∷◌, Option, Some, None, Ok, Err, is_some}
use Rattle.std.specs.Str.{bytes_eq}
use Rattle.std.specs.Str.Parse.{ParsesUnsigned, digits_value, without_leading_plus}
use Rattle.std.proofs.Common.{refl, ap, inl, inr, arith, subst, sym, ◌∙◌}
use Rattle.std.proofs.lemmas.Slice.Eq.{bytes_eq-Decides}
use Rattle.std.proofs.lemmas.Bool.{cases_Bool, eqb-true, le-leb, leb-true}
use Rattle.clap.proofs.OnLiterals.{clap_on_literals}
use Rattle.clap.proofs.ValueTestLemmas.{Accepts-accepts, accepts-Accepts}
use Rattle.clap.proofs.WalkLemmas.{both}
use Rattle.clap.specs.Kinds.{HasKind, Kinds, or_else}
use Rattle.clap.specs.Values.{refused_kind}
use Rattle.clap.specs.ValueTests.{accepts}
use Rattle.clap.specs.Words.{Text, fault_of, is_simple_and_free}
use Rattle.clap.specs.declared.error.Error.{Error}
use Rattle.clap.specs.declared.builder.value_parser.ValueParser.{ValueParser}
use Rattle.clap.specs.declared.builder.value_parser.ValueParser.TheVariants.{Unsigned}
use Rattle.cli.specs.Command.{is_number, written_number, range_between, refusing, table_named}
use Rattle.cli.specs.declared.command.StatsTable.{StatsTable}

-- the command with this option alone is simple, and the text is refused
pub refusing_is_free : (option : Text) (parser : ValueParser) (text : Text) → is_simple_and_free (refusing option parser text) ≡ true
unfolding clap_on_literals
refusing_is_free option parser text = refl

pub refusing_refuses : (option : Text) (parser : ValueParser) (text : Text) → accepts false parser text ≡ false → fault_of (refusing option parser text) [] ≡ refused_kind parser ∷ []
unfolding clap_on_literals
refusing_refuses option parser text e = rw e refl

-- the number that is parsed from a text is the one in the text, and no other text is parsed
pub number_written : (E : Type 0) (text : Text) (n : ℕ) → ParsesUnsigned {E = E} 32 10 text (Ok n) → Some n ≡ written_number text
number_written E text n p =
    let small = p.0.1 in
    let yes = Accepts-accepts true (Unsigned 0 4294967295) text (p.0.0, omega (arith, small), omega (arith), omega (arith, small)) in
    rw yes (ap Some p.1)

pub none_written : (E : Type 0) (text : Text) (e : E) → ParsesUnsigned {E = E} 32 10 text (Err e) → None ≡ written_number text
none_written E text e p = elim (cases_Bool (accepts true (Unsigned 0 4294967295) text)) [
  | inl f ↦
      let acc = accepts-Accepts true (Unsigned 0 4294967295) text f in
      absurd (p (acc.0, omega (arith, acc.3)))
  | inr f ↦ rw f refl
]

-- the number that is parsed from a text is in the range if the text is a number in it
number_tested : (E : Type 0) (least most : ℕ) (text : Text) (n : ℕ) → ParsesUnsigned {E = E} 64 10 text (Ok n) → (nat_le least n && nat_le n most) ≡ is_number least most text
number_tested E least most text n p =
    let is : n ≡ digits_value 10 (without_leading_plus text) = p.1 in
    elim (cases_Bool (nat_le least n && nat_le n most)) [
      | inl f ↦
          let b = both _ _ f in
          let low : least ≤ n = leb-true _ _ b.0 in
          let high : n ≤ most = leb-true _ _ b.1 in
          let yes = Accepts-accepts true (Unsigned least most) text (p.0.0, omega (arith, p.0.1), rw (← is) low, rw (← is) high) in
          f ∙ sym yes
      | inr f ↦ elim (cases_Bool (is_number least most text)) [
        | inl e ↦
            let acc = accepts-Accepts true (Unsigned least most) text e in
            let low : nat_le least n ≡ true = rw is (le-leb _ _ acc.2) in
            let high : nat_le n most ≡ true = rw is (le-leb _ _ acc.3) in
            let yes : (nat_le least n && nat_le n most) ≡ true = rw (low, high) refl in
            cc
        | inr e ↦ f ∙ sym e
      ]
    ]

pub number_above : (E : Type 0) (least most : ℕ) (text : Text) (n : ℕ) → ParsesUnsigned {E = E} 64 10 text (Ok n) → least ≤ n → nat_le n most ≡ is_number least most text
number_above E least most text n p low = rw (le-leb _ _ low) at (number_tested E least most text n p)

pub number_below : (E : Type 0) (least most : ℕ) (text : Text) (n : ℕ) → ParsesUnsigned {E = E} 64 10 text (Ok n) → n < least → nat_le least n ≡ is_number least most text
number_below E least most text n p low = elim (cases_Bool (nat_le least n)) [
  | inl f ↦ let bad : least ≤ n = leb-true _ _ f in absurd (omega (arith))
  | inr f ↦ f ∙ (rw f at (number_tested E least most text n p))
]

pub none_tested : (E : Type 0) (least most : ℕ) (text : Text) (e : E) → ParsesUnsigned {E = E} 64 10 text (Err e) → false ≡ is_number least most text
none_tested E least most text e p = elim (cases_Bool (is_number least most text)) [
  | inl f ↦
      let acc = accepts-Accepts true (Unsigned least most) text f in
      absurd (p (acc.0, omega (arith, acc.1)))
  | inr f ↦ rw f refl
]

-- a text that does not go on with a second point is not a range
pub no_range : (first rest : Text) → ((last : Text) → rest ≡ 46 ∷ last → ⊥) → None ≡ range_between first rest
no_range first [] h = refl
no_range first (next ∷ last) h = elim (cases_Bool (next == 46)) [
  | inl e ↦ absurd (h last (ap (λ (n : ℕ). n ∷ last) (eqb-true next 46 e)))
  | inr e ↦ rw e refl
]

-- an error of the first errors is one of them all
pub first_kind : (a b : Kinds) (e : Error) → HasKind a e → HasKind (or_else a b) e
first_kind [] b e h = elim h [ inl none ↦ inl none | inr never ↦ absurd never ]
first_kind (k ∷ ks) b e h = h

-- a text that names no table has the name of none
pub not_named : (text name : Text) (found : StatsTable) → table_named name ≡ Some found → table_named text ≡ None → bytes_eq name text ≡ false
not_named text name found known none = elim (cases_Bool (bytes_eq name text)) [
  | inl e ↦
      let same : name ≡ text = (bytes_eq-Decides name text).0 e in
      let named : table_named text ≡ Some found = subst (λ (t : Text). table_named t ≡ Some found) same known in
      cc
  | inr e ↦ e
]

pub none_there : {X : Type 0} (o : Option X) → is_some o ≡ false → o ≡ None
none_there None h = refl
none_there (Some x) h = cc
