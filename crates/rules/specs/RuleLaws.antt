-- Every model that is described by rules obeys the laws of a model.
use Rattle.std.specs.List.{AllByRecursion as Every}
use Rattle.std.specs.Prelude.{◌≡◌, ℕ, zero, suc, ◌+◌, ◌*◌, ◌/◌, ◌%◌, ◌^◌, ◌<◌, ◌≤◌, List, [], ◌∷◌}
use Rattle.std.specs.Prelude.{◌-◌, Bool, true, false, Option, Some, None}
use Rattle.std.specs.Prelude.{drop, length, replicate, slice_get, slice_index, if◌then◌else◌, eqb}
use Rattle.std.specs.Prelude.{nat_lt, refl}
use Rattle.std.specs.Int.Bits.{and_lt}
use Rattle.std.proofs.Common.{arith, lit<, subst, sym, length-append}
use Rattle.std.proofs.lemmas.List.Elements.{recursion_from_All}
use Rattle.std.proofs.Math.Nat.{mod-lt, mod-le, mul-le-mul_left, div-le_self}
use Rattle.std.proofs.lemmas.Nat.{xor_lt, or_lt}
use Rattle.eventkey.specs.Message.{IsRanged, Message}
use Rattle.model.proofs.ForLaws.{Every-append, Every-drop, Every-get_or-default, Every-set}
use Rattle.model.proofs.ForLaws.{Every-take, length-take-le}
use Rattle.model.specs.Meaning.{IsLawful, IsSend, IsWords}
use Rattle.models.specs.WordLaws.{key_lt, word_lt}
use Rattle.models.specs.Words.{next_key}
use Rattle.rules.specs.Costs.{cost, cost_of, cost_of_all, cost_of_row, draws}
use Rattle.rules.specs.Effects.{Progress, after, after_all, after_row, at_turn, progress, sent}
use Rattle.rules.specs.Effects.{asked, is_ended, turns, turns_until, with_array, with_local}
use Rattle.rules.specs.Effects.{with_word}
use Rattle.rules.specs.ElementLaws.{element_fits, written_fits}
use Rattle.rules.specs.declared.arrays.Array.{Array}
use Rattle.rules.specs.Rules.{Description, GoodRules, IsDescription, ended, handled, opening}
use Rattle.rules.specs.Rules.{padded, rules_meaning, started, with_key}
use Rattle.rules.specs.Distributions.{choice, choice_of, exponential, geometric, normal, saturated}
use Rattle.rules.specs.Distributions.{standard_normal, triangular}
use Rattle.rules.specs.Values.{drawn_below, drawn_by, entry, is_true, known_of, operate, truth}
use Rattle.rules.specs.Values.{value_of}
use Rattle.rules.specs.declared.evaluate.Context.{Context}
use Rattle.rules.specs.declared.limits.Limit.TheVariants.{Sends}
use Rattle.rules.specs.declared.limits.TheConstants.{MAX_LPS}
use Rattle.rules.specs.declared.tree.Expression.{Expression}
use Rattle.rules.specs.declared.tree.Expression.TheVariants.{Number, Word, Content, Local, Read}
use Rattle.rules.specs.declared.tree.Expression.TheVariants.{Not', Two', Entry', Draw', Normal'}
use Rattle.rules.specs.declared.tree.Expression.TheVariants.{Triangular', Choose, Element'}
use Rattle.rules.specs.declared.tree.Known.{Known}
use Rattle.rules.specs.declared.tree.Known.TheVariants.{Process, Sender, Now, Processes}
use Rattle.rules.specs.declared.tree.Law.{Law}
use Rattle.rules.specs.declared.tree.Law.TheVariants.{Uniform, Exponential, Geometric}
use Rattle.rules.specs.declared.tree.Operator.{Operator}
use Rattle.rules.specs.declared.tree.Operator.TheVariants.{Plus, Minus, Times, Over, Modulo}
use Rattle.rules.specs.declared.tree.Operator.TheVariants.{ShiftLeft, ShiftRight, BitAnd, BitXor}
use Rattle.rules.specs.declared.tree.Operator.TheVariants.{BitOr, Same, Different, Below, AtMost}
use Rattle.rules.specs.declared.tree.Operator.TheVariants.{Above, AtLeast, Both, Either, Least}
use Rattle.rules.specs.declared.tree.Operator.TheVariants.{Greatest}
use Rattle.rules.specs.declared.tree.Sending.{Sending}
use Rattle.rules.specs.declared.tree.Statement.{Statement, Row_of-Statement, end_of-Statement}
use Rattle.rules.specs.declared.tree.Statement.{more_of-Statement}
use Rattle.rules.specs.declared.tree.Statement.TheVariants.{Let, Set, Send, If', Repeat', Put}
use Rattle.rules.specs.declared.tree.Statement.TheVariants.{RepeatUntil'}

-- a number of 64 bits
abbrev IsWord : ℕ → Type 0
IsWord n = n < 2 ^ 64

either_fits : (b : Bool) (m n : ℕ) → IsWord m → IsWord n → IsWord (if b then m else n)
either_fits true m n p q = p
either_fits false m n p q = q

truth_fits : (b : Bool) → IsWord (truth b)
truth_fits b = either_fits b 1 0 (lit< tt) (lit< tt)

operate_fits : (o : Operator) (x y : ℕ) → IsWord x → IsWord y → IsWord (operate o x y)
operate_fits Plus x y p q = omega arith
operate_fits Minus x y p q = omega arith
operate_fits Times x y p q = omega arith
operate_fits Over x y p q =
    either_fits (eqb y 0) 0 (x / y) (lit< tt) (omega (arith, div-le_self x y))
operate_fits Modulo x y p q = either_fits (eqb y 0) 0 (x % y) (lit< tt) (omega (arith, mod-le x y))
operate_fits ShiftLeft x y p q =
    either_fits (nat_lt y 64) ((x * 2 ^ y) % 2 ^ 64) 0 (mod-lt (x * 2 ^ y) (lit< tt)) (lit< tt)
operate_fits ShiftRight x y p q =
    either_fits (nat_lt y 64) (x / 2 ^ y) 0 (omega (arith, div-le_self x (2 ^ y))) (lit< tt)
operate_fits BitAnd x y p q = and_lt 64 x y p q
operate_fits BitXor x y p q = xor_lt 64 x y p q
operate_fits BitOr x y p q = or_lt 64 x y p q
operate_fits Same x y p q = truth_fits _
operate_fits Different x y p q = truth_fits _
operate_fits Below x y p q = truth_fits _
operate_fits AtMost x y p q = truth_fits _
operate_fits Above x y p q = truth_fits _
operate_fits AtLeast x y p q = truth_fits _
operate_fits Both x y p q = truth_fits _
operate_fits Either x y p q = truth_fits _
operate_fits Least x y p q = omega arith
operate_fits Greatest x y p q = omega arith

-- all numbers are in their ranges
record IsContext (lps : ℕ) (s : Context) : Type 0 where
  processes : s.processes ≡ lps
  process : s.process < 2 ^ 64
  sender : s.sender < 2 ^ 64
  time : s.time < 2 ^ 64
  content : Every IsWord s.content
  words : Every IsWord s.words
  locals : Every IsWord s.locals

index_fits : (xs : List ℕ) (i : ℕ) → Every IsWord xs → IsWord (slice_index xs i)
index_fits xs i all = Every-get_or-default IsWord xs i 0 all (lit< tt)

entry_fits : (table : Option (List ℕ)) (i : ℕ) → IsWord (entry table i)
entry_fits None i = lit< tt
entry_fits (Some table) i = omega arith

drawn_fits : (w n : ℕ) → w < 2 ^ 32 → IsWord (drawn_below w n)
drawn_fits w n small = either_fits (eqb n 0) 0 (w % n) (lit< tt) (omega (arith, mod-le w n))

saturated_fits : (n : ℕ) → IsWord (saturated n)
saturated_fits n = omega arith

exponential_fits : (mean w : ℕ) → IsWord (exponential mean w)
unfolding exponential
exponential_fits mean w = saturated_fits _

geometric_fits : (mean w : ℕ) → IsWord (geometric mean w)
unfolding geometric
geometric_fits mean w = either_fits (eqb mean 0) 0 _ (lit< tt) (saturated_fits _)

drawn_by_fits : (law : Law) (w n : ℕ) → w < 2 ^ 32 → IsWord (drawn_by law w n)
drawn_by_fits Uniform w n small = drawn_fits w n small
drawn_by_fits Exponential w n small = exponential_fits n w
drawn_by_fits Geometric w n small = geometric_fits n w

normal_fits : (mean deviation w : ℕ) → IsWord mean → IsWord (normal mean deviation w)
unfolding normal
normal_fits mean deviation w fits =
    either_fits (nat_lt w (2 ^ 31)) (mean - (deviation * standard_normal w + 2 ^ 27) / 2 ^ 28) _
    (omega arith) (saturated_fits _)

triangular_fits : (least mode most v w : ℕ) → IsWord (triangular least mode most v w)
unfolding triangular
triangular_fits least mode most v w = saturated_fits _

choice_of_fits : (table : List ℕ) (w : ℕ) → IsWord (choice_of table w)
unfolding choice_of
choice_of_fits table w = saturated_fits _

choice_fits : (table : Option (List ℕ)) (w : ℕ) → IsWord (choice table w)
choice_fits None w = lit< tt
choice_fits (Some table) w = choice_of_fits table w

module _ (lps : ℕ) (some : 1 ≤ lps) (few : lps ≤ MAX_LPS) (tables : List (List ℕ)) where
  known_fits : (s : Context) → IsContext lps s → (k : Known) → IsWord (known_of s k)
  known_fits s context Process = context.process
  known_fits s context Sender = context.sender
  known_fits s context Now = context.time
  known_fits s context Processes = omega (arith, context.processes)

  value_fits : (s : Context) → IsContext lps s → (e : Expression) (k : ℕ) →
      IsWord (value_of tables s e k)
  value_fits s context (Number n) k = omega arith
  value_fits s context (Word i) k = index_fits s.words i context.words
  value_fits s context (Content i) k = index_fits s.content i context.content
  value_fits s context (Local i) k = index_fits s.locals i context.locals
  value_fits s context (Read known) k = known_fits s context known
  value_fits s context (Not' p x) k = truth_fits _
  value_fits s context (Two' o p x q y) k =
      operate_fits o _ _ (value_fits s context x k) (value_fits s context y (k + draws x))
  value_fits s context (Entry' t p x) k = entry_fits (slice_get tables t) _
  value_fits s context (Draw' law p x) k =
      drawn_by_fits law _ _ (word_lt s.key (16 * s.process + (k + draws x)))
  value_fits s context (Normal' p x q y) k =
      normal_fits _ _ _ (value_fits s context x k)
  value_fits s context (Triangular' p x q y r z) k = triangular_fits _ _ _ _ _
  value_fits s context (Choose t) k = choice_fits (slice_get tables t) _
  value_fits s context (Element' a p x) k =
      element_fits a s.words _ (index_fits s.words _ context.words)

  sent_lawful : (s : Context) → IsContext lps s → (x : Sending) (k : ℕ) →
      IsSend lps (sent tables s x k)
  sent_lawful s context x k = record {
    delay = omega arith;
    delay_fits = omega arith;
    to = subst (λ n. value_of tables s x.to k % n < lps) (sym context.processes)
        (mod-lt (value_of tables s x.to k) some);
    a = value_fits s context x.a _;
    b = value_fits s context x.b _;
    c = value_fits s context x.c _;
    d = value_fits s context x.d _;
  }

  -- what holds all through a handling
  record IsProgress (p : Progress) : Type 0 where
    context : IsContext lps p.context
    sends : Every (IsSend lps) p.sends

  local_context : (place n : ℕ) → IsWord n → (s : Context) → IsContext lps s →
      IsContext lps (with_local place n s)
  local_context place n fits s context = record {
    processes = context.processes;
    process = context.process;
    sender = context.sender;
    time = context.time;
    content = context.content;
    words = context.words;
    locals = Every-set IsWord s.locals place n fits context.locals;
  }

  word_context : (place n : ℕ) → IsWord n → (s : Context) → IsContext lps s →
      IsContext lps (with_word place n s)
  word_context place n fits s context = record {
    processes = context.processes;
    process = context.process;
    sender = context.sender;
    time = context.time;
    content = context.content;
    words = Every-set IsWord s.words place n fits context.words;
    locals = context.locals;
  }

  array_context : (a : Array) (i n : ℕ) (s : Context) → IsContext lps s →
      IsContext lps (with_array a i n s)
  array_context a i n s context = record {
    processes = context.processes;
    process = context.process;
    sender = context.sender;
    time = context.time;
    content = context.content;
    words = written_fits a s.words i n context.words;
    locals = context.locals;
  }

  turns_lawful : (turn : ℕ → Progress → Progress) →
      ((k : ℕ) (p : Progress) → IsProgress p → IsProgress (turn k p)) →
      (n : ℕ) (p : Progress) → IsProgress p → IsProgress (turns n turn p)
  turns_lawful turn each zero p h = h
  turns_lawful turn each (suc n) p h = each n (turns n turn p) (turns_lawful turn each n p h)

  either_progress : (b : Bool) (p q : Progress) → IsProgress p → IsProgress q →
      IsProgress (if b then p else q)
  either_progress true p q one two = one
  either_progress false p q one two = two

  at_turn_lawful : (place k : ℕ) (p : Progress) → IsProgress p → IsProgress (at_turn place k p)
  at_turn_lawful place k p h = record {
    context = local_context place (saturated k) (omega arith) p.context h.context;
    sends = h.sends;
  }

  until_lawful : (ended : ℕ → Progress → Bool) (before : ℕ → Progress → Progress) →
      (turn : Progress → Progress) →
      ((k : ℕ) (p : Progress) → IsProgress p → IsProgress (before k p)) →
      ((p : Progress) → IsProgress p → IsProgress (turn p)) →
      (n k : ℕ) (p : Progress) → IsProgress p → IsProgress (turns_until ended before turn n k p)
  until_lawful ended before turn first each zero k p h = h
  until_lawful ended before turn first each (suc n) k p h =
      let here = first k p h in
      either_progress (ended k p) (before k p) _ here
      (until_lawful ended before turn first each n (suc k) (turn (before k p))
      (each (before k p) here))

  asked_lawful : (e : Expression) (place k : ℕ) (p : Progress) → IsProgress p →
      IsProgress (asked e place k p)
  asked_lawful e place k p h =
      let here = at_turn_lawful place k p h in
      record { context = here.context; sends = here.sends }

  mutual
    after_lawful : (s : Statement) (p : Progress) → IsProgress p → IsProgress (after tables s p)
    after_lawful (Let i e) p h = record {
      context =
          local_context i _ (value_fits p.context h.context e p.drawn) p.context h.context;
      sends = h.sends;
    }
    after_lawful (Set i e) p h = record {
      context =
          word_context i _ (value_fits p.context h.context e p.drawn) p.context h.context;
      sends = h.sends;
    }
    after_lawful (Send x) p h = record {
      context = h.context;
      sends = Every-append (IsSend lps) p.sends (sent tables p.context x p.drawn ∷ []) h.sends
          (sent_lawful p.context h.context x p.drawn, tt);
    }
    after_lawful (If' e s met t unmet) p h =
        let q : Progress = progress p.context (p.drawn + draws e) p.sends in
        let here : IsProgress q = record { context = h.context; sends = h.sends } in
        either_progress (is_true (value_of tables p.context e p.drawn)) _ _
        (row_lawful met q here) (row_lawful unmet q here)
    after_lawful (Repeat' i n s body) p h =
        turns_lawful (λ k q. after_row tables body (at_turn i k q))
        (λ k q here. row_lawful body (at_turn i k q) (at_turn_lawful i k q here)) n p h
    after_lawful (RepeatUntil' i n e s body) p h =
        until_lawful (is_ended tables e i) (asked e i) (λ q. after_row tables body q)
        (asked_lawful e i) (λ q here. row_lawful body q here) n 0 p h
    after_lawful (Put a i e) p h = record {
      context = array_context a _ _ p.context h.context;
      sends = h.sends;
    }

    row_lawful : {m : _} (row : Row_of-Statement m) (p : Progress) → IsProgress p →
        IsProgress (after_row tables row p)
    row_lawful end_of-Statement p h = h
    row_lawful (more_of-Statement x rest) p h =
        row_lawful rest (after tables x p) (after_lawful x p h)

  all_lawful : (xs : List Statement) (p : Progress) → IsProgress p →
      IsProgress (after_all tables xs p)
  all_lawful [] p h = h
  all_lawful (x ∷ xs) p h = all_lawful xs (after tables x p) (after_lawful x p h)

-- no more sends than are limit
module _ (tables : List (List ℕ)) where
  abbrev sends_in : Progress → ℕ
  sends_in p = length p.sends

  turns_few : (turn : ℕ → Progress → Progress) (m : ℕ) →
      ((k : ℕ) (p : Progress) → sends_in (turn k p) ≤ sends_in p + m) →
      (n : ℕ) (p : Progress) → sends_in (turns n turn p) ≤ sends_in p + n * m
  turns_few turn m each zero p = omega arith
  turns_few turn m each (suc n) p =
      omega (arith, each n (turns n turn p), turns_few turn m each n p)

  either_few : (b : Bool) (p q : Progress) (n : ℕ) → sends_in p ≤ n → sends_in q ≤ n →
      sends_in (if b then p else q) ≤ n
  either_few true p q n one two = one
  either_few false p q n one two = two

  until_few : (ended : ℕ → Progress → Bool) (before : ℕ → Progress → Progress) →
      (turn : Progress → Progress) (m : ℕ) →
      ((k : ℕ) (p : Progress) → sends_in (before k p) ≤ sends_in p) →
      ((p : Progress) → sends_in (turn p) ≤ sends_in p + m) →
      (n k : ℕ) (p : Progress) →
      sends_in (turns_until ended before turn n k p) ≤ sends_in p + n * m
  until_few ended before turn m same each zero k p = omega arith
  until_few ended before turn m same each (suc n) k p =
      let q : Progress = before k p in
      either_few (ended k p) q _ _ (omega (arith, same k p))
      (omega (
        arith,
        same k p,
        each q,
        until_few ended before turn m same each n (suc k) (turn q),
      ))

  mutual
    after_few : (s : Statement) (p : Progress) →
        sends_in (after tables s p) ≤ sends_in p + cost_of Sends s
    after_few (Let i e) p = omega arith
    after_few (Set i e) p = omega arith
    after_few (Send x) p =
        omega (arith, length-append p.sends (sent tables p.context x p.drawn ∷ []))
    after_few (If' e s met t unmet) p =
        let q : Progress = progress p.context (p.drawn + draws e) p.sends in
        either_few (is_true (value_of tables p.context e p.drawn)) _ _ _
        (omega (arith, row_few met q)) (omega (arith, row_few unmet q))
    after_few (Repeat' i n s body) p =
        let turn : ℕ → Progress → Progress = λ k q. after_row tables body (at_turn i k q) in
        let few =
        turns_few turn (cost_of_row Sends body) (λ k q. row_few body (at_turn i k q)) n p in
        omega arith
    after_few (RepeatUntil' i n e s body) p =
        let few =
        until_few (is_ended tables e i) (asked e i) (λ q. after_row tables body q)
        (cost_of_row Sends body) (λ k q. omega arith) (λ q. row_few body q) n 0 p in
        let most : n * cost_of_row Sends body ≤ n * (0 + cost Sends e + cost_of_row Sends body) =
        mul-le-mul_left n (omega arith) in
        omega (arith, few, most)
    after_few (Put a i e) p = omega arith

    row_few : {m : _} (row : Row_of-Statement m) (p : Progress) →
        sends_in (after_row tables row p) ≤ sends_in p + cost_of_row Sends row
    row_few end_of-Statement p = omega arith
    row_few (more_of-Statement x rest) p =
        omega (arith, after_few x p, row_few rest (after tables x p))

  all_few : (xs : List Statement) (p : Progress) →
      sends_in (after_all tables xs p) ≤ sends_in p + cost_of_all Sends xs
  all_few [] p = omega arith
  all_few (x ∷ xs) p = omega (arith, after_few x p, all_few xs (after tables x p))

-- a whole start, a whole handling
zeros_fit : (n : ℕ) → Every IsWord (replicate n 0)
zeros_fit zero = tt
zeros_fit (suc n) = (lit< tt, zeros_fit n)

padded_fits : (state : List ℕ) → IsWords state → Every IsWord (padded state)
padded_fits state words =
    Every-append IsWord state (drop (length state) (replicate 16 0)) words.1
    (Every-drop IsWord (length state) (replicate 16 0) (zeros_fit 16))

with_key_fits : (place : Option ℕ) (key : ℕ) (words : List ℕ) → IsWord key → Every IsWord words →
    Every IsWord (with_key place key words)
with_key_fits None key words fits all = all
with_key_fits (Some place) key words fits all = Every-set IsWord words place key fits all

module _ (d : Description) (good : IsDescription d) where
  -- the progress of a handling, with the numbers of this description
  abbrev IsOwn : Progress → Type 0
  IsOwn = IsProgress d.lps good.some good.few d.tables

  -- before the rule for the start, and before the rule for a message

  abbrev before_start : ℕ → Progress
  before_start lp =
      opening d lp lp 0 (0 ∷ 0 ∷ 0 ∷ 0 ∷ []) (with_key d.key d.seed (replicate 16 0))

  abbrev before_handle : ℕ → List ℕ → Message → Progress
  before_handle lp state x =
      opening d lp x.from x.time (x.a ∷ x.b ∷ x.c ∷ x.d ∷ []) (padded state)

  opening_lawful : (lp sender time : ℕ) (content words : List ℕ) → lp < 2 ^ 64 →
      sender < 2 ^ 64 → time < 2 ^ 64 → Every IsWord content → Every IsWord words →
      IsOwn (opening d lp sender time content words)
  opening_lawful lp sender time content words l s t c w = record {
    context = record {
      processes = refl;
      process = l;
      sender = s;
      time = t;
      content = c;
      words = w;
      locals = zeros_fit 16;
    };
    sends = tt;
  }

  ended_words : (p : Progress) → IsOwn p → IsWords (ended d p)
  ended_words p h =
      let key = next_key p.context.key p.context.process p.drawn in
      let fits = key_lt p.context.key p.context.process p.drawn in
      let words = with_key d.key key p.context.words in (
        omega (arith, length-take-le d.width words, good.width_fits),
        Every-take IsWord d.width words
            (with_key_fits d.key key p.context.words fits h.context.words),
      )

  started_lawful : (lp : ℕ) → lp < d.lps → IsOwn (started d lp)
  started_lawful lp l =
      let fits : lp < 2 ^ 64 = omega (arith, good.few) in
      all_lawful d.lps good.some good.few d.tables d.start (before_start lp)
      (opening_lawful lp lp 0 _ _ fits fits (lit< tt) (zeros_fit 4)
      (with_key_fits d.key d.seed (replicate 16 0) (omega (arith, good.seed_fits)) (zeros_fit 16)))

  handled_lawful : (lp : ℕ) (state : List ℕ) (x : Message) → lp < d.lps → IsWords state →
      IsRanged x → IsOwn (handled d lp state x)
  handled_lawful lp state x l words ranged =
      all_lawful d.lps good.some good.few d.tables d.handle (before_handle lp state x)
      (opening_lawful lp x.from x.time _ _ (omega (arith, good.few)) (omega (arith, ranged.from))
      (omega (arith, ranged.time)) (ranged.a, (ranged.b, (ranged.c, (ranged.d, tt))))
      (padded_fits state words))

  lawful : IsLawful (rules_meaning d)
  lawful = record {
    some = good.some;
    few_lps = good.few;
    identity_few = omega (arith, good.digest_four);
    identity_words = (lit< tt, recursion_from_All _ _ good.digest_fits);
    begins = tt;
    start_words = λ lp l. ended_words _ (started_lawful lp l);
    start_few = λ lp l.
        omega (arith, all_few d.tables d.start (before_start lp), good.start.sends);
    start = λ lp l. (started_lawful lp l).sends;
    words = λ lp state x l words ranged. ended_words _ (handled_lawful lp state x l words ranged);
    few = λ lp state x l words ranged.
        omega (arith, all_few d.tables d.handle (before_handle lp state x), good.handle.sends);
    each = λ lp state x l words ranged. (handled_lawful lp state x l words ranged).sends;
  }

pub rules_lawful : (r : GoodRules) → IsLawful (rules_meaning r.description)
rules_lawful r = lawful r.description r.good
