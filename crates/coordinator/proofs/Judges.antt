-- A judged commit compares the gathered reports with the model and the front.
use Rattle.std.proofs.Common.{Bool, Bor, Err, IfOk, IsTrue, List, Ok, Result, None, Option, Some, [], ap, ap₂, arith, drop, false, get_or, inl, inr, length, nat_lt, refl, replicate, set, subst, sym, true, ℕ, ◌+◌, ◌==◌, ◌&&◌, ◌++◌, ◌<◌, ◌↔◌, ◌∙◌, ◌∷◌, ◌≡◌, ◌≤◌}
use Rattle.std.specs.List.{AllByRecursion as Every}
use Rattle.std.specs.Bool.{Decides}
use Rattle.std.specs.declared.alloc.AllocError.{AllocError}
use Rattle.std.proofs.lemmas.Bool.{cases_Bool, cases_eq, cond-false, cond-true, eq-eqb, ne_eqb}
use Rattle.std.proofs.lemmas.List.{drop_all, get_or-replicate, get_or-set_other, get_or-set_same, length-replicate, length-set}
use Rattle.eventkey.proofs.Lists.{Every-weaker, IsAscending-filter, copies-filter}
use Rattle.eventkey.specs.Bag.{IsAscending, add_all}
use Rattle.coordinator.proofs.Batches.{copies-filter_out}
use Rattle.eventkey.proofs.Bags.{IsAscending-add_all, at_most_trans, copies-add_all, copies-append, same_ascending, is_same_iff, same_from_is_same}
use Rattle.eventkey.specs.Message.{IsAtMost, IsRanged, Message}
use Rattle.eventkey.specs.Order.{messages_are_tied}
use Rattle.model.proofs.Worlds.{length-stamp, words_at}
use Rattle.model.specs.Meaning.{IsLawful, IsWords, Meaning, stamp}
use Rattle.model.specs.World.{World}
use Rattle.model.specs.declared.Outgoing.{Outgoing}
use Rattle.process.specs.declared.Done.{Done}
use Rattle.process.specs.Consistent.{AreConsistent}
use Rattle.gvt.specs.Judged.{AreOfFront, early}
use Rattle.gvt.specs.Moves.{merged, reported_before}
use Rattle.gvt.specs.System.{reported_by, reported_messages, reported_sends}
use Rattle.coordinator.specs.Judging.{Follow, IsAccepted, IsNext, Reports, Standing, after_report, last_of, standing}

abbrev pub all_equal : Message → Message → Bool
all_equal x y =
    (x.time == y.time) && ((x.from == y.from) && ((x.to == y.to)
    && ((x.number == y.number) && ((x.a == y.a) && ((x.b == y.b)
    && ((x.c == y.c) && (x.d == y.d)))))))

pub same_message : (x y : Message) → Decides (all_equal x y) (x ≡ y)
same_message x y = (
  λ e. same_from_is_same x y (sym (messages_are_tied x y) ∙ e),
  λ e. messages_are_tied x y ∙ (is_same_iff x y).1 e,
)

-- One report

-- a report that says what a handling does is consistent with the model
pub said : (m : Meaning) (lp : ℕ) (state : List ℕ) (number : ℕ) (d : Done) (next : List ℕ) (sends : List Outgoing) → next ≡ m.next_state lp state d.message → sends ≡ m.sends lp state d.message → d.message.to ≡ lp
    → Reports next sends number d ↔ AreConsistent m lp state number (d ∷ [])
said m lp state number d next sends next_is sends_is own =
    let sent_is : stamp d.message.to d.message.time number sends ≡ stamp lp d.message.time number (m.sends lp state d.message) = ap₂ (λ p os. stamp p d.message.time number os) own sends_is in
    let many : d.sent ≡ stamp d.message.to d.message.time number sends → length d.sent ≡ length sends = λ e. ap length e ∙ length-stamp d.message.to d.message.time number sends in (
      λ r. (r.0 ∙ sent_is, r.1 ∙ next_is, r.2 ∙ ap (λ n. number + n) (sym (many r.0)), r.3, tt),
      λ c. (let sent = c.0 ∙ sym sent_is in (sent, c.1 ∙ sym next_is, c.2 ∙ ap (λ n. number + n) (many sent), c.3)),
    )

-- a report that was compared with the handling of this state, which has at most 16 words
pub compared : (m : Meaning) (state : List ℕ) (number : ℕ) (d : Done) (lp : ℕ) (words next : List ℕ) (sends : List Outgoing) (r : Result Bool AllocError) → lp ≡ d.message.to → words ≡ state
    → next ≡ m.next_state lp words d.message → sends ≡ m.sends lp words d.message → length state ≤ 16 → IfOk r (λ ok. IsTrue ok ↔ Reports next sends number d)
    → IfOk r (λ ok. IsTrue ok ↔ ((length state ≤ 16) × AreConsistent m d.message.to state number (d ∷ [])))
compared m state number d lp words next sends (Err e) lp_is words_is next_is sends_is few are = tt
compared m state number d lp words next sends (Ok ok) lp_is words_is next_is sends_is few are =
    let says = said m d.message.to state number d next sends (next_is ∙ ap₂ (λ p ws. m.next_state p ws d.message) lp_is words_is) (sends_is ∙ ap₂ (λ p ws. m.sends p ws d.message) lp_is words_is) refl in
    (λ t. (few, says.0 (are.0 t)), λ is. are.1 (says.1 is.1))

-- Reports of one process, from its standing on

-- these reports of process lp are what the model does from this standing on, in message order
pub record GoOn (m : Meaning) (lp : ℕ) (s : Standing) (ds : List Done) : Type 0 where
  consistent : AreConsistent m lp s.state s.number ds
  ascending : IsAscending (s.last ++ reported_messages ds)

first-ascends : (o : Option (Bor Done)) (x : Message) (xs : List Message) → Every (λ (y : Message). IsAtMost y x) (last_of o) → IsAscending (x ∷ xs) → IsAscending (last_of o ++ x ∷ xs)
first-ascends None x xs most up = up
first-ascends (Some b) x xs most up = ((most.0, Every-weaker (IsAtMost x) (IsAtMost b.now.message) (λ z least. at_most_trans b.now.message x z most.0 least) xs up.0), up)

first-least : (o : Option (Bor Done)) (x : Message) (xs : List Message) → IsAscending (last_of o ++ x ∷ xs) → Every (λ (y : Message). IsAtMost y x) (last_of o) × IsAscending (x ∷ xs)
first-least None x xs up = (tt, up)
first-least (Some b) x xs up = ((up.0.0, tt), up.1)

last-ascends : (o : Option (Bor Done)) → IsAscending (last_of o ++ [])
last-ascends None = tt
last-ascends (Some b) = (tt, tt)

last-is : (w : World) (o : Option (Bor Done)) (lp : ℕ) → (standing w o lp).last ≡ last_of o
last-is w None lp = refl
last-is w (Some b) lp = refl

module _ (m : Meaning) (w : World) (b : Bor Done) (o : Option (Bor Done)) (ds : List Done) where
  abbrev lp : ℕ
  lp = b.now.message.to

  goes-on : IsNext m w.time (standing w o lp) b.now → GoOn m lp (standing w (Some b) lp) ds → GoOn m lp (standing w o lp) (b.now ∷ ds)
  goes-on next rest =
      let c = next.consistent in
      record {
        consistent = (c.0, c.1, c.2, c.3, rest.consistent);
        ascending = subst (λ (ys : List Message). IsAscending (ys ++ b.now.message ∷ reported_messages ds)) (sym (last-is w o lp))
            (first-ascends o b.now.message (reported_messages ds) (subst (Every (λ (y : Message). IsAtMost y b.now.message)) (last-is w o lp) next.ascending) rest.ascending);
      }

  went-on : w.time ≤ b.now.message.time → GoOn m lp (standing w o lp) (b.now ∷ ds) → IsNext m w.time (standing w o lp) b.now × GoOn m lp (standing w (Some b) lp) ds
  went-on from all =
      let c = all.consistent in
      let up = first-least o b.now.message (reported_messages ds) (subst (λ (ys : List Message). IsAscending (ys ++ b.now.message ∷ reported_messages ds)) (last-is w o lp) all.ascending) in (
        record { consistent = (c.0, c.1, c.2, c.3, tt); ascending = subst (Every (λ (y : Message). IsAtMost y b.now.message)) (sym (last-is w o lp)) up.0; from = from },
        record { consistent = c.4; ascending = up.1 },
      )

-- Reports of all processes

-- these reports follow what is known of each process, where `latest` has its latest report
pub record Follows (m : Meaning) (w : World) (latest : List (Option (Bor Done))) (ds : List Done) : Type 0 where
  each : (lp : ℕ) → lp < m.lps → GoOn m lp (standing w (get_or latest lp None) lp) (reported_by lp ds)
  from : Every (λ (d : Done). w.time ≤ d.message.time) ds

by-own : (d : Done) (ds : List Done) → reported_by d.message.to (d ∷ ds) ≡ d ∷ reported_by d.message.to ds
by-own d ds = cond-true (d.message.to == d.message.to) (d ∷ reported_by d.message.to ds) (reported_by d.message.to ds) (eq-eqb d.message.to d.message.to refl)

by-other : (lp : ℕ) (d : Done) (ds : List Done) → (d.message.to ≡ lp → ⊥) → reported_by lp (d ∷ ds) ≡ reported_by lp ds
by-other lp d ds ne = cond-false (d.message.to == lp) (d ∷ reported_by lp ds) (reported_by lp ds) (ne_eqb d.message.to lp ne)

-- the state of each process is a list of words
abbrev pub HasWords : Meaning → World → List (Option (Bor Done)) → Type 0
HasWords m w latest = (lp : ℕ) → lp < m.lps → IsWords (standing w (get_or latest lp None) lp).state

module _ (m : Meaning) (w : World) (latest : List (Option (Bor Done))) (b : Bor Done) (ds : List Done) (there : b.now.message.to < length latest) where
  abbrev own : ℕ
  own = b.now.message.to

  abbrev now : List (Option (Bor Done))
  now = set latest own (Some b)

  abbrev before : Standing
  before = standing w (get_or latest own None) own

  own-now : get_or now own None ≡ Some b
  own-now = get_or-set_same latest own (Some b) None there

  other-now : (lp : ℕ) → (own ≡ lp → ⊥) → get_or now lp None ≡ get_or latest lp None
  other-now lp ne = get_or-set_other latest own lp (Some b) None (λ e. ne (sym e))

  back-one : IsNext m w.time before b.now → Follows m w now ds → Follows m w latest (b.now ∷ ds)
  back-one next rest = record {
    each = λ lp l. elim (cases_eq own lp) [
      | inl e ↦
          subst (λ (k : ℕ). GoOn m k (standing w (get_or latest k None) k) (reported_by k (b.now ∷ ds))) e
          (subst (GoOn m own before) (sym (by-own b.now ds))
          (goes-on m w b (get_or latest own None) (reported_by own ds) next
          (subst (λ (o : Option (Bor Done)). GoOn m own (standing w o own) (reported_by own ds)) own-now (rest.each own (omega (arith, e, l))))))
      | inr ne ↦
          subst (GoOn m lp (standing w (get_or latest lp None) lp)) (sym (by-other lp b.now ds ne))
          (subst (λ (o : Option (Bor Done)). GoOn m lp (standing w o lp) (reported_by lp ds)) (other-now lp ne) (rest.each lp l))
    ];
    from = (next.from, rest.from);
  }

  went-own : own < m.lps → Follows m w latest (b.now ∷ ds) → IsNext m w.time before b.now × GoOn m own (standing w (Some b) own) (reported_by own ds)
  went-own l all = went-on m w b (get_or latest own None) (reported_by own ds) all.from.0 (subst (GoOn m own before) (by-own b.now ds) (all.each own l))

  forth-one : own < m.lps → Follows m w latest (b.now ∷ ds) → Follows m w now ds
  forth-one l all = record {
    each = λ lp small. elim (cases_eq own lp) [
      | inl e ↦
          subst (λ (k : ℕ). GoOn m k (standing w (get_or now k None) k) (reported_by k ds)) e
          (subst (λ (o : Option (Bor Done)). GoOn m own (standing w o own) (reported_by own ds)) (sym own-now) (went-own l all).1)
      | inr ne ↦
          subst (λ (o : Option (Bor Done)). GoOn m lp (standing w o lp) (reported_by lp ds)) (sym (other-now lp ne))
          (subst (GoOn m lp (standing w (get_or latest lp None) lp)) (by-other lp b.now ds ne) (all.each lp small))
    ];
    from = all.from.1;
  }

  -- the state of each process still has words
  words-one : IsLawful m → own < m.lps → IsRanged b.now.message → IsNext m w.time before b.now → HasWords m w latest → HasWords m w now
  words-one lawful l ranged next words lp small = elim (cases_eq own lp) [
    | inl e ↦
        subst (λ (k : ℕ). IsWords (standing w (get_or now k None) k).state) e
        (subst (λ (o : Option (Bor Done)). IsWords (standing w o own).state) (sym own-now)
        (subst IsWords (sym next.consistent.1) (lawful.words own before.state b.now.message l (words own l) ranged)))
    | inr ne ↦ subst (λ (o : Option (Bor Done)). IsWords (standing w o lp).state) (sym (other-now lp ne)) (words lp small)
  ]

-- The pass over the reports: i of them are looked at.
pub record IsFollowed (m : Meaning) (c : ℕ) (ds : List Done) (w : World) (i : ℕ) (latest : List (Option (Bor Done))) : Type 0 where
  pub many : length latest ≡ m.lps
  pub there : Every (λ (d : Done). d.message.to < m.lps) (drop i ds)
  pub forth : Follow m c ds w → Follows m w latest (reported_before c (drop i ds))
  pub back : Follows m w latest (reported_before c (drop i ds)) → Follow m c ds w
  pub words : Every IsWords w.states → HasWords m w latest
  pub ranged : Every (λ (d : Done). IsRanged d.message) (drop i ds) → Every (λ (d : Done). IsRanged d.message) ds

module _ (m : Meaning) (c : ℕ) (ds : List Done) (w : World) where
  pub followed-none : (n : ℕ) → n ≡ m.lps → Every (λ (d : Done). d.message.to < m.lps) ds → IsFollowed m c ds w 0 (replicate n None)
  followed-none n many there =
      let none : (lp : ℕ) → lp < m.lps → get_or (replicate n None) lp None ≡ None = λ lp l. get_or-replicate n lp None None (omega (arith, l, many)) in
      record {
        many = length-replicate n None ∙ many;
        there = there;
        forth = λ all. record {
          each = λ lp l. subst (λ (o : Option (Bor Done)). GoOn m lp (standing w o lp) (reported_by lp (reported_before c ds))) (sym (none lp l)) (record { consistent = all.consistent lp l; ascending = all.ascending lp l });
          from = all.from;
        };
        back = λ all.
            let at : (lp : ℕ) → lp < m.lps → GoOn m lp (standing w None lp) (reported_by lp (reported_before c ds)) = λ lp l. subst (λ (o : Option (Bor Done)). GoOn m lp (standing w o lp) (reported_by lp (reported_before c ds))) (none lp l) (all.each lp l) in
            record { consistent = λ lp l. (at lp l).consistent; ascending = λ lp l. (at lp l).ascending; from = all.from };
        words = λ words lp l. subst (λ (o : Option (Bor Done)). IsWords (standing w o lp).state) (sym (none lp l)) (words_at w lp words);
        ranged = λ all. all;
      }

  module _ (i : ℕ) (latest : List (Option (Bor Done))) (was : IsFollowed m c ds w i latest) where
    -- all are looked at
    pub followed-all : length ds ≤ i → Follow m c ds w × Every (λ (d : Done). IsRanged d.message) ds
    followed-all past =
        let none = drop_all i ds past in (
          was.back (subst (λ (es : List Done). Follows m w latest (reported_before c es)) (sym none) (record { each = λ lp l. record { consistent = tt; ascending = subst (λ (ys : List Message). IsAscending (ys ++ [])) (sym (last-is w (get_or latest lp None) lp)) (last-ascends (get_or latest lp None)) }; from = tt })),
          was.ranged (subst (Every (λ (d : Done). IsRanged d.message)) (sym none) tt),
        )

    module _ (b : Bor Done) (here : drop i ds ≡ b.now ∷ drop (i + 1) ds) (ranged : IsRanged b.now.message) where
      parts : (b.now.message.to < m.lps) × Every (λ (d : Done). d.message.to < m.lps) (drop (i + 1) ds)
      parts = subst (Every (λ (d : Done). d.message.to < m.lps)) here was.there

      pub to_there : b.now.message.to < m.lps
      to_there = parts.0

      in_latest : b.now.message.to < length latest
      in_latest = (let e = was.many in let l = to_there in omega (arith, e, l))

      still_ranged : Every (λ (d : Done). IsRanged d.message) (drop (i + 1) ds) → Every (λ (d : Done). IsRanged d.message) ds
      still_ranged rest = was.ranged (subst (Every (λ (d : Done). IsRanged d.message)) (sym here) (ranged, rest))

      -- a report that is not before the time
      pub followed-late : nat_lt b.now.message.time c ≡ false → IsFollowed m c ds w (i + 1) latest
      followed-late late =
          let same : reported_before c (drop i ds) ≡ reported_before c (drop (i + 1) ds) = ap (reported_before c) here ∙ cond-false (nat_lt b.now.message.time c) (b.now ∷ reported_before c (drop (i + 1) ds)) (reported_before c (drop (i + 1) ds)) late in
          record {
            many = was.many;
            there = parts.1;
            forth = λ all. subst (Follows m w latest) same (was.forth all);
            back = λ rest. was.back (subst (Follows m w latest) (sym same) rest);
            words = was.words;
            ranged = still_ranged;
          }

      module _ (early : nat_lt b.now.message.time c ≡ true) where
        first : reported_before c (drop i ds) ≡ b.now ∷ reported_before c (drop (i + 1) ds)
        first = ap (reported_before c) here ∙ cond-true (nat_lt b.now.message.time c) (b.now ∷ reported_before c (drop (i + 1) ds)) (reported_before c (drop (i + 1) ds)) early

        -- the next report of its process
        pub followed-next : IsLawful m → IsNext m w.time (standing w (get_or latest b.now.message.to None) b.now.message.to) b.now → IsFollowed m c ds w (i + 1) (set latest b.now.message.to (Some b))
        followed-next lawful next = record {
          many = length-set latest b.now.message.to (Some b) ∙ was.many;
          there = parts.1;
          forth = λ all. forth-one m w latest b (reported_before c (drop (i + 1) ds)) in_latest to_there (subst (Follows m w latest) first (was.forth all));
          back = λ rest. was.back (subst (Follows m w latest) (sym first) (back-one m w latest b (reported_before c (drop (i + 1) ds)) in_latest next rest));
          words = λ words. words-one m w latest b (reported_before c (drop (i + 1) ds)) in_latest lawful to_there ranged next (was.words words);
          ranged = still_ranged;
        }

      -- one more report, which is accepted
      pub followed-more : IsLawful m → IsAccepted m c w latest b.now → IsFollowed m c ds w (i + 1) (after_report c b latest)
      followed-more lawful accepted = elim (cases_Bool (nat_lt b.now.message.time c)) [
        | inl early ↦
            subst (IsFollowed m c ds w (i + 1)) (sym (cond-true (nat_lt b.now.message.time c) (set latest b.now.message.to (Some b)) latest early))
            (followed-next early lawful (accepted early).1)
        | inr late ↦
            subst (IsFollowed m c ds w (i + 1)) (sym (cond-false (nat_lt b.now.message.time c) (set latest b.now.message.to (Some b)) latest late))
            (followed-late late)
      ]

      -- one that is not
      pub followed-no_more : (IsAccepted m c w latest b.now → ⊥) → Every IsWords w.states → Follow m c ds w → ⊥
      followed-no_more refused words all = refused (λ early. (
        (was.words words b.now.message.to to_there).0,
        (went-own m w latest b (reported_before c (drop (i + 1) ds)) in_latest to_there (subst (Follows m w latest) (first early) (was.forth all))).0,
      ))

-- What was due and what was handled

-- what is early among two lists is what is early in the bag of both
pub both-early : (c : ℕ) (sends xs : List Message) → IsAscending xs → add_all (early c sends ++ early c xs) [] ≡ early c (add_all sends xs)
both-early c sends xs up =
    let test = λ (x : Message). nat_lt x.time c in
    same_ascending (add_all (early c sends ++ early c xs) []) (early c (add_all sends xs)) (IsAscending-add_all (early c sends ++ early c xs) [] tt)
    (IsAscending-filter test (add_all sends xs) (IsAscending-add_all sends xs up))
    (λ x.
    let all = copies-add_all x (early c sends ++ early c xs) [] in
    let two = copies-append x (early c sends) (early c xs) in
    elim (cases_Bool (nat_lt x.time c)) [
      | inl soon ↦ omega (arith, all, two, copies-filter x test sends soon, copies-filter x test xs soon, copies-filter x test (add_all sends xs) soon, copies-add_all x sends xs)
      | inr late ↦ omega (arith, all, two, copies-filter_out x test sends late, copies-filter_out x test xs late, copies-filter_out x test (add_all sends xs) late)
    ])

module _ (m : Meaning) (c : ℕ) (ds : List Done) (w : World) where
  pub of-front : Follow m c ds w → early c (add_all (reported_sends (reported_before c ds)) w.pending) ≡ merged c ds → AreOfFront m c ds w
  of-front follow whole = record { consistent = follow.consistent; ascending = follow.ascending; from = follow.from; whole = whole }

  pub follow-of : AreOfFront m c ds w → Follow m c ds w
  follow-of are = record { consistent = are.consistent; ascending = are.ascending; from = are.from }
