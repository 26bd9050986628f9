-- What clap finds in a command line of the program.
use Rattle.std.specs.Borrow.{Bor}
use Rattle.std.specs.Prelude.{◌≡◌, ◌⊎◌, ◌≤◌, ◌<◌, ◌^◌, ◌&&◌, ◌||◌, ℕ, Bool, true, false, List, [], ◌∷◌, Option, Some, None, Result, Ok, Err}
use Rattle.std.specs.Prelude.{IfOk, IsErrAnd, option_map, unwrap_or, find, map, nat_le, if◌then◌else◌}
use Rattle.std.specs.Str.Parse.{ParsesUnsigned, digits_value, without_leading_plus}
use Rattle.std.proofs.Common.{◌∙◌, refl, ap, ap₂, subst, inl, inr, arith}
use Rattle.std.proofs.lemmas.Bool.{cases_Bool, le-leb, leb-true}
use Rattle.std.specs.Box.{box_value}
use Rattle.clap.proofs.OnLiterals.{clap_on_literals}
use Rattle.clap.proofs.ValueTestLemmas.{Accepts-accepts, accepts-Accepts}
use Rattle.clap.proofs.WalkLemmas.{both}
use Rattle.clap.specs.Faults.{is_simple_and_free}
use Rattle.clap.specs.Kinds.{FailsBy, HasKind, Kinds, or_else}
use Rattle.clap.specs.Matches.{ReadsOne}
use Rattle.clap.specs.Simple.{argument_words, built, entered, is_simple, label_of, names_of, rows_at}
use Rattle.clap.specs.ValueTests.{accepts}
use Rattle.clap.specs.Words.{App, Row, Rule, Text, app_of, fault_of, found_of, rows_of, rule_of, subcommand_name_of, subcommand_of, subcommand_rows_of, with_rule, with_subcommand}
use Rattle.clap.specs.Walk.{answers_to, stop_after}
use Rattle.clap.specs.declared.builder.command.Command.{Command as ClapCommand}
use Rattle.clap.specs.declared.builder.command.Command.TheViews.{out-Command}
use Rattle.clap.specs.declared.builder.arg.Arg.{Arg}
use Rattle.clap.specs.declared.error.Error.{Error}
use Rattle.clap.specs.declared.builder.value_parser.ValueParser.TheVariants.{Unsigned}
use Rattle.clap.specs.declared.parser.matches.ArgMatches.{ArgMatches}
use Rattle.clap.specs.declared.parser.matches.ArgMatches.TheViews.{out-ArgMatches, out-SubCommand}
use Rattle.cli.specs.Command.{AddsArgument, AddsCommand, AddsRule, IsApp, IsNamed, number_of, program_of, refusal_of, unread_fault, value_fault}

pub program_is_simple : (called : Text) → is_simple (program_of called) ≡ true
unfolding program_of clap_on_literals
program_is_simple called = refl

pub program_is_free : (called : Text) → is_simple_and_free (program_of called) ≡ true
unfolding program_of clap_on_literals
program_is_free called = refl

module _ {X N R : Type 0} (f : X → N) (g : X → R) where
  -- a name and rows that are found separately are found together
  both_found : (o : Option X) (n : N) (r : R) → Some n ≡ option_map f o → Some r ≡ option_map {T = N × R} (λ p. p.1) (option_map {U = N × R} (λ x. (f x, g x)) o)
      → option_map {U = N × R} (λ x. (f x, g x)) o ≡ Some (n, r)
  both_found None n r h k = cc
  both_found (Some x) n r h k =
      let a : n ≡ f x = cc in
      let b : r ≡ g x = cc in
      rw (a, b) refl

pub subcommand_found : (m : ArgMatches) (name : Text) (rows : List Row) → Some name ≡ subcommand_name_of m → Some rows ≡ option_map {T = Text × List Row} (λ p. p.1) (subcommand_rows_of m)
    → subcommand_rows_of m ≡ Some (name, rows)
subcommand_found m name rows h k =
    both_found (λ b. (out-SubCommand (box_value b)).name.now) (λ b. rows_of (found_of (out-SubCommand (box_value b)).matches)) (out-ArgMatches m).subcommand name rows h k

-- the predicate holds for some element of a list
abbrev OneOf : {X : Type 0} → (X → Type 0) → List X → Type 0
OneOf P [] = ⊥
OneOf P (x ∷ []) = P x
OneOf P (x ∷ y ∷ xs) = P x ⊎ OneOf P (y ∷ xs)

first_of_them : {X : Type 0} (P : X → Type 0) (x : X) (xs : List X) → P x → OneOf P (x ∷ xs)
first_of_them P x [] h = h
first_of_them P x (y ∷ xs) h = inl h

one_behind : {X : Type 0} (P : X → Type 0) (x : X) (xs : List X) → OneOf P xs → OneOf P (x ∷ xs)
one_behind P x [] h = absurd h
one_behind P x (y ∷ xs) h = inr h

-- what is found has one of the names that there are
found_named : {X Y : Type 0} (test : X → Bool) (f : X → Y) (name : Y → Text) (xs : List X) (y : Y) → option_map f (find test xs) ≡ Some y
    → OneOf (λ n. name y ≡ n) (map (λ x. name (f x)) xs)
found_named test f name [] y h = cc
found_named test f name (x ∷ xs) y h = elim (cases_Bool (test x)) [
  | inl e ↦
      let found : Some (f x) ≡ Some y = rw e at h in
      let is : y ≡ f x = cc in
      first_of_them (λ n. name y ≡ n) (name (f x)) (map (λ z. name (f z)) xs) (ap name is)
  | inr e ↦
      let rest : option_map f (find test xs) ≡ Some y = rw e at h in
      one_behind (λ n. name y ≡ n) (name (f x)) (map (λ z. name (f z)) xs) (found_named test f name xs y rest)
]

-- there are no other commands
entered_named : (called : Text) (stop : Option (Text × List Text)) (found : Text × List Row) → entered (built (program_of called)) stop ≡ Some found → IsNamed found.0
unfolding program_of
entered_named called None found h = cc
entered_named called (Some p) found h =
    found_named (λ s. answers_to p.0 (label_of s)) (λ s. rows_at s p.1) (λ r. r.0) (built (program_of called)).subs found h

pub only_named : (called : Text) (words : List Text) (name : Text) (rows : List Row) → subcommand_of (program_of called) words ≡ Some (name, rows) → IsNamed name
only_named called words name rows h =
    entered_named called (stop_after (built (program_of called)).top.rules (names_of (built (program_of called))) (argument_words (program_of called) words)) (name, rows) h

pub now_or : (o : Option (Bor (List ℕ))) (d : Bor (List ℕ)) → (unwrap_or o d).now ≡ unwrap_or (option_map (λ s. s.now) o) d.now
now_or None d = refl
now_or (Some s) d = refl

or_false : (b : Bool) → (b || false) ≡ b
or_false false = refl
or_false true = refl

module _ {E : Type 0} where
  -- a command with one more argument, which is not global
  pub argument_added : (command result : Result ClapCommand E) (argument : Arg) (app : App) (rule : Rule) → IfOk result (AddsArgument command argument) → IfOk command (IsApp app)
      → rule_of argument ≡ rule → argument.global ≡ false → IfOk result (IsApp (with_rule app rule))
  argument_added command (Err e) argument app rule adds is says local = tt
  argument_added (Err e) (Ok new) argument app rule adds is says local = absurd adds
  argument_added (Ok old) (Ok new) argument app rule adds is says local =
      (adds.shape local ∙ ap₂ with_rule is.0 says, adds.globals ∙ ap₂ (λ (x : Bool) (y : Bool). x || y) is.1 local)

  -- what an argument that is not global adds
  pub rule_added : (command result : Result ClapCommand E) (argument : Arg) (rule : Rule) → IfOk result (AddsArgument command argument) → rule_of argument ≡ rule → argument.global ≡ false
      → IfOk result (AddsRule command rule)
  rule_added command (Err e) argument rule adds says local = tt
  rule_added (Err e) (Ok new) argument rule adds says local = absurd adds
  rule_added (Ok old) (Ok new) argument rule adds says local =
      (adds.shape local ∙ ap (with_rule (app_of old)) says, adds.globals ∙ ap (λ (y : Bool). (out-Command old).has_globals || y) local ∙ or_false ((out-Command old).has_globals))

  -- a command with one more option
  pub option_added : (command result : Result ClapCommand E) (app : App) (given rule : Rule) → IfOk result (AddsRule command given) → IfOk command (IsApp app) → given ≡ rule → IfOk result (IsApp (with_rule app rule))
  option_added command (Err e) app given rule adds is says = tt
  option_added (Err e) (Ok new) app given rule adds is says = absurd adds
  option_added (Ok old) (Ok new) app given rule adds is says = (adds.0 ∙ ap₂ with_rule is.0 says, adds.1 ∙ is.1)

  -- a program with one more command
  pub command_added : (above command result : Result ClapCommand E) (app added : App) → IfOk result (AddsCommand above command) → IfOk above (IsApp app) → IfOk command (IsApp added)
      → IfOk result (IsApp (with_subcommand app added.top))
  command_added above command (Err e) app added adds is has = tt
  command_added (Err e) command (Ok new) app added adds is has = absurd adds
  command_added (Ok old) (Err e) (Ok new) app added adds is has = absurd adds
  command_added (Ok old) (Ok sub) (Ok new) app added adds is has =
      (adds.shape has.1 ∙ ap₂ (λ (a : App) (b : App). with_subcommand a b.top) is.0 has.0, adds.globals ∙ ap₂ (λ (x : Bool) (y : Bool). x || y) is.1 has.1)

-- the number that is chosen, by the one that was parsed
abbrev pub chosen : ℕ → ℕ → Option ℕ → ℕ
chosen least most None = least
chosen least most (Some v) = if nat_le least v && nat_le v most then v else least

-- the number that is parsed from a text is the one in the text
pub number_read : {E : Type 0} (G : Text → Result ℕ E → Type 0) → ((u : Text) (x : Result ℕ E) → G u x → ParsesUnsigned 64 10 u x) → (least most : ℕ) → most < 2 ^ 64
    → (o : Option Text) (r : Option ℕ) → (o ≡ None → r ≡ None) → ((t : Text) → o ≡ Some t → ReadsOne G t r) → chosen least most r ≡ number_of least most o
number_read G only least most small None r none some = rw (none refl) refl
number_read G only least most small (Some t) (Some v) none some =
    let p = only t (Ok v) (some t refl) in
    let is : v ≡ digits_value 10 (without_leading_plus t) = p.1 in
    elim (cases_Bool (accepts true (Unsigned least most) t)) [
      | inl e ↦
          let acc = accepts-Accepts true (Unsigned least most) t e in
          let low : nat_le least v ≡ true = rw is (le-leb _ _ acc.2) in
          let high : nat_le v most ≡ true = rw is (le-leb _ _ acc.3) in
          rw (e, low, high) is
      | inr e ↦ elim (cases_Bool (nat_le least v && nat_le v most)) [
        | inl f ↦
            let b = both _ _ f in
            let low : least ≤ v = leb-true _ _ b.0 in
            let high : v ≤ most = leb-true _ _ b.1 in
            let yes = Accepts-accepts true (Unsigned least most) t (p.0.0, omega (arith), rw (← is) low, rw (← is) high) in
            cc
        | inr f ↦ rw (e, f) refl
      ]
    ]
number_read G only least most small (Some t) None none some =
    let h = some t refl in
    elim (cases_Bool (accepts true (Unsigned least most) t)) [
      | inl e ↦
          let acc = accepts-Accepts true (Unsigned least most) t e in
          absurd (only t (Err h.0) h.1 (acc.0, omega (arith)))
      | inr e ↦ rw e refl
    ]

-- a number in the range is chosen, and otherwise the least
pub chosen_in : (least most v : ℕ) (r : Option ℕ) → r ≡ Some v → least ≤ v → v ≤ most → v ≡ chosen least most r
chosen_in least most v r e low high = rw (e, le-leb _ _ low, le-leb _ _ high) refl

pub chosen_low : (least most v : ℕ) (r : Option ℕ) → r ≡ Some v → v < least → least ≡ chosen least most r
chosen_low least most v r e low = elim (cases_Bool (nat_le least v)) [
  | inl f ↦ let bad : least ≤ v = leb-true _ _ f in absurd (omega (arith))
  | inr f ↦ rw (e, f) refl
]

pub chosen_high : (least most v : ℕ) (r : Option ℕ) → r ≡ Some v → most < v → least ≡ chosen least most r
chosen_high least most v r e high = elim (cases_Bool (nat_le v most)) [
  | inl f ↦ let bad : v ≤ most = leb-true _ _ f in absurd (omega (arith))
  | inr f ↦ elim (cases_Bool (nat_le least v)) [
    | inl k ↦ rw (e, f, k) refl
    | inr k ↦ rw (e, f, k) refl
  ]
]

pub chosen_none : (least most : ℕ) (r : Option ℕ) → r ≡ None → least ≡ chosen least most r
chosen_none least most r e = rw e refl

-- an option has a number if it has a text
pub number_if_some : {X Y : Type 0} (f : X → Y) (m n : ℕ) (o : Option X) (x : X) (texts : Option Y) → option_map f o ≡ texts → o ≡ Some x → n ≡ m → Some n ≡ option_map (λ _. m) texts
number_if_some f m n o x texts h e is = rw (← h, e) (ap Some is)

pub number_if_none : {X Y : Type 0} (f : X → Y) (m : ℕ) (o : Option X) (texts : Option Y) → option_map f o ≡ texts → o ≡ None → None ≡ option_map (λ _. m) texts
number_if_none f m o texts h e = rw (← h, e) refl

-- an error that is passed on
pub refused_as : {T U : Type 0} (kinds : Kinds) (r : Result T Error) (s : Result U Error) (e : Error) → s ≡ Err e → FailsBy kinds s → IsErrAnd r (λ f. f ≡ e) → FailsBy kinds r
refused_as kinds (Ok x) s e is fails same = absurd same
refused_as kinds (Err f) (Ok x) e is fails same = cc
refused_as kinds (Err f) (Err g) e is fails same =
    let one : g ≡ f = cc in
    subst (HasKind kinds) one fails

-- if clap refuses the words, that is the error
pub refused_first : {T : Type 0} (kinds next : Kinds) (r : Result T Error) (e : Error) → IsErrAnd r (λ f. f ≡ e) → FailsBy kinds r → FailsBy (or_else kinds next) r
refused_first (k ∷ ks) next r e same fails = fails
refused_first [] next (Ok x) e same fails = absurd same
refused_first [] next (Err f) e same fails = elim fails [
  | inl memory ↦ inl memory
  | inr none ↦ absurd none
]

-- if clap does not refuse the words, the values that it found decide
pub refused_then : (called : Text) (words : List Text) (name : Text) (rows : List Row) → fault_of (program_of called) words ≡ [] → subcommand_of (program_of called) words ≡ Some (name, rows)
    → refusal_of called words ≡ unread_fault rows
refused_then called words name rows passes found = ap₂ (λ (ks : Kinds) (s : Option (Text × List Row)). or_else ks (value_fault s)) passes found
