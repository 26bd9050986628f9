-- The conditions on a load: tests that scan lists, and the processes of a node as a progression.
use Rattle.std.proofs.Common.{◌≡◌, ℕ, ◌+◌, ◌*◌, ◌<◌, ◌≤◌, List, [], ◌∷◌, ◌++◌, length, get_or, map, drop, set, ◌-◌, ◌^◌, replicate, Some, None, Ok, Err, refl, sym, subst, ◌∙◌, ap, arith, inl, inr}
use Rattle.std.specs.List.{AllByRecursion as Every, list_any}
use Rattle.std.proofs.Math.Nat.{mul-le-mul_left}
use Rattle.std.specs.Prelude.{not, ◌==◌, nat_eq, nat_lt, true, false}
use Rattle.std.specs.Cmp.Lexicographic.{pointwise}
use Rattle.std.proofs.lemmas.List.Elements.{All-from_recursion}
use Rattle.std.proofs.lemmas.List.Folds.{list_any_none}
use Rattle.eventkey.specs.Message.{Message}
use Rattle.std.proofs.Math.Seq.{set-append_seam}
use Rattle.std.proofs.lemmas.Bool.{both_ways, cases_Bool, cases_lt, eq-eqb, le-ltb, ltb-false, not_from_true}
use Rattle.std.proofs.lemmas.List.{append-nil, append_assoc, get_or-map, length-append, length-map, length-replicate, map-append, ext_get_or, nil_from_length, drop_all}
use Rattle.eventkey.proofs.Lists.{Every-add_all, Every-get_or, Every-right, Every-weaker, drop_here}
use Rattle.node.proofs.Seats.{own_strided}
use Rattle.process.specs.View.{ProcessView, has_early, has_foreign, loaded}
use Rattle.node.specs.Handling.{IsLoaded, Node, is_own_load, load_answer, load_refusal, loaded_node, own_lps}
use Rattle.node.specs.declared.NodeFault.{NodeFault}
use Rattle.node.specs.declared.NodeFault.TheVariants.{BelowFloor, NoMemory, NotMine}
use Rattle.std.specs.Cmp.Lexicographic.{same_text}
use Rattle.node.specs.declared.Load.{Load}
use Rattle.process.proofs.Sound.{own_from}
use Rattle.process.specs.Process.{Process}
use Rattle.node.specs.Roster.{IsSeated, IsStaffed, Place, lps_of, processes_of}
use Rattle.node.specs.Seats.{seat_of, represented_of, standings_of}
use Rattle.node.specs.Tournament.{absent}
use Rattle.node.specs.declared.summary.Summary.{Summary}
use Rattle.node.specs.declared.Part.{Part}

-- 1. Each element passes

module _ {X : Type 0} (P : X → Type 0) where
  pub every_more : (xs : List X) (i : ℕ) (x : X) → i < length xs → x ≡ get_or xs i x → P x → (Every P (drop i xs) → Every P xs) → Every P (drop (i + 1) xs) → Every P xs
  every_more xs i x l is p so_far rest = so_far (subst (Every P) (sym (drop_here xs i x l is)) (p, rest))

  pub every_fails : (xs : List X) (i : ℕ) (x : X) → i < length xs → x ≡ get_or xs i x → (P x → ⊥) → Every P xs → ⊥
  every_fails xs i x l is not_here all = not_here (subst P (sym is) (Every-get_or P xs i x l all))

  pub every_ends : (xs : List X) (i : ℕ) → length xs ≤ i → (Every P (drop i xs) → Every P xs) → Every P xs
  every_ends xs i l so_far = so_far (subst (Every P) (sym (drop_all i xs l)) tt)

-- 2. The parts are those of the node's processes

-- the first i processes are those of the node, and next is the one that comes then
pub record IsOwnSoFar (node nodes lps : ℕ) (xs : List ℕ) (i next : ℕ) : Type 0 where
  pub next_is : next ≡ node + i * nodes
  pub small : next < lps + nodes + node + 1
  pub at : (k : ℕ) → k < i → get_or xs k 0 ≡ node + k * nodes
  pub inside : (k : ℕ) → k < i → node + k * nodes < lps

pub own_begins : (node nodes lps : ℕ) (xs : List ℕ) → IsOwnSoFar node nodes lps xs 0 node
own_begins node nodes lps xs = record { next_is = omega arith; small = omega arith; at = λ k l. absurd (omega arith); inside = λ k l. absurd (omega arith) }

pub own_more : (node nodes lps : ℕ) (xs : List ℕ) (i next : ℕ) → get_or xs i 0 ≡ next → next < lps → IsOwnSoFar node nodes lps xs i next → IsOwnSoFar node nodes lps xs (i + 1) (next + nodes)
own_more node nodes lps xs i next here l h =
    let is = h.next_is in
    record {
      next_is = omega arith;
      small = omega arith;
      at = λ k j. elim (cases_lt k i) [
        | inl e ↦ h.at k e
        | inr e ↦ (let same : k ≡ i = omega arith in subst (λ n. get_or xs n 0 ≡ node + n * nodes) (sym same) (here ∙ is))
      ];
      inside = λ k j. elim (cases_lt k i) [
        | inl e ↦ h.inside k e
        | inr e ↦ (let same : k ≡ i = omega arith in subst (λ n. node + n * nodes < lps) (sym same) (omega arith))
      ];
    }

module _ (node nodes lps : ℕ) (some : node < nodes) (xs : List ℕ) where
  pub own_all : (i next : ℕ) → length xs ≡ i → lps ≤ next → IsOwnSoFar node nodes lps xs i next → xs ≡ own_lps nodes node lps
  own_all i next len far h =
      let own = own_strided nodes node some lps in
      let is = h.next_is in
      let all = own.all in
      let n : ℕ = length (own_lps nodes node lps) in
      let same : length xs ≡ n = elim (cases_lt i n) [
        | inl e ↦ absurd (let w = own.within i e in omega arith)
        | inr e ↦ elim (cases_lt n i) [
          | inl f ↦ absurd (let w = h.inside n f in omega arith)
          | inr f ↦ omega arith
        ]
      ] in
      ext_get_or 0 xs (own_lps nodes node lps) same (λ k l. h.at k (omega arith) ∙ sym (own.at k (omega arith)))

  pub own_far : (i next : ℕ) → length xs ≡ i → IsOwnSoFar node nodes lps xs i next → xs ≡ own_lps nodes node lps → lps ≤ next
  own_far i next len h e =
      let own = own_strided nodes node some lps in
      let all = own.all in
      let is = h.next_is in
      let same = ap length e in
      let n : length (own_lps nodes node lps) ≡ i = omega arith in
      subst (λ k. lps ≤ k) (sym is) (subst (λ k. lps ≤ node + k * nodes) n all)

  pub own_here : (i next : ℕ) → i < length xs → IsOwnSoFar node nodes lps xs i next → xs ≡ own_lps nodes node lps → (get_or xs i 0 ≡ next) × (next < lps)
  own_here i next l h e =
      let own = own_strided nodes node some lps in
      let is = h.next_is in
      let inside : i < length (own_lps nodes node lps) = subst (λ ys. i < length ys) e l in
      let w = own.within i inside in
      (ap (λ ys. get_or ys i 0) e ∙ own.at i inside ∙ sym is, omega arith)

pub lp_at : (parts : List Part) (i : ℕ) (p : Part) → i < length parts → p ≡ get_or parts i p → get_or (map (λ (q : Part). q.lp) parts) i 0 ≡ p.lp
lp_at parts i p l is = get_or-map (λ (q : Part). q.lp) parts i p 0 l ∙ ap (λ (q : Part). q.lp) (sym is)

-- 3. The messages of a part

pub none_foreign : (lp : ℕ) (xs : List Message) → Every (λ (x : Message). x.to ≡ lp) xs → list_any (λ (x : Message). not (x.to == lp)) xs ≡ true → ⊥
none_foreign lp xs h e =
    both_ways (list_any (λ (x : Message). not (x.to == lp)) xs)
    (list_any_none (λ (x : Message). not (x.to == lp)) xs
    (All-from_recursion (λ (x : Message). not (x.to == lp) ≡ false) xs (Every-weaker (λ (x : Message). x.to ≡ lp) (λ (x : Message). not (x.to == lp) ≡ false) (λ x p. not_from_true (x.to == lp) (eq-eqb x.to lp p)) xs h))) e

pub none_early : (floor : ℕ) (xs : List Message) → Every (λ (x : Message). floor ≤ x.time) xs → list_any (λ (x : Message). nat_lt x.time floor) xs ≡ true → ⊥
none_early floor xs h e =
    both_ways (list_any (λ (x : Message). nat_lt x.time floor) xs)
    (list_any_none (λ (x : Message). nat_lt x.time floor) xs
    (All-from_recursion (λ (x : Message). nat_lt x.time floor ≡ false) xs (Every-weaker (λ (x : Message). floor ≤ x.time) (λ (x : Message). nat_lt x.time floor ≡ false) (λ x p. le-ltb x.time floor p) xs h))) e

-- 4. The processes of the parts

-- some of these parts are seated, and the rest are left
pub record IsSeatedSoFar (end floor : ℕ) (parts done rest : List Part) (seats : List ProcessView) (summaries : List Summary) : Type 0 where
  pub all : done ++ rest ≡ parts
  pub seats_are : seats ≡ map (seat_of floor) done
  pub standings_are : summaries ≡ standings_of end (map (seat_of floor) done) ++ replicate (length rest) absent

pub every_next : (P : Part → Type 0) (parts done rest rest' : List Part) (p : Part) → done ++ rest ≡ parts → rest ≡ p ∷ rest' → Every P parts → P p
every_next P parts done rest rest' p all step h = (Every-right P done (p ∷ rest') (subst (Every P) (sym all ∙ ap (λ (r : List Part). done ++ r) step) h)).0

pub seats_place : {end floor : ℕ} {parts done rest : List Part} {seats : List ProcessView} {summaries : List Summary} (rest' : List Part) (p : Part) → IsSeatedSoFar end floor parts done rest seats summaries → rest ≡ p ∷ rest' → length seats < length summaries
seats_place {end} {floor} {parts} {done} {rest} {seats} {summaries} rest' p h step =
    let known : List Summary = standings_of end (map (seat_of floor) done) in
    let size = size_of end floor done seats h.seats_are in
    let more = ap length h.standings_are ∙ length-append known (replicate (length rest) absent) in
    let last = length-replicate {A = Summary} (length rest) absent in
    let some = ap length step in
    omega arith
  where
    size_of : (end floor : ℕ) (done : List Part) (seats : List ProcessView) → seats ≡ map (seat_of floor) done → length seats ≡ length (standings_of end (map (seat_of floor) done))
    size_of end floor done seats is = ap length is ∙ sym (length-map (map (seat_of floor) done) (λ (q : ProcessView). represented_of end q))

pub seats_more : {end floor : ℕ} {parts done rest : List Part} {seats : List ProcessView} {summaries : List Summary} (rest' : List Part) (p : Part) (seat : ProcessView) (seats' : List ProcessView) (summary : Summary) (summaries' : List Summary) →
    IsSeatedSoFar end floor parts done rest seats summaries → rest ≡ p ∷ rest' → seat ≡ seat_of floor p → seats' ≡ seats ++ seat ∷ [] → summary ≡ represented_of end seat → summaries' ≡ set summaries (length seats) summary →
    IsSeatedSoFar end floor parts (done ++ p ∷ []) rest' seats' summaries'
seats_more {end} {floor} {parts} {done} {rest} {seats} {summaries} rest' p seat seats' summary summaries' h step seat_is more summary_is set_is =
    let known : List Summary = standings_of end (map (seat_of floor) done) in
    let left : List Summary = replicate (length rest') absent in
    let size : length seats ≡ length known = ap length h.seats_are ∙ sym (length-map (map (seat_of floor) done) (λ (q : ProcessView). represented_of end q)) in
    let open_ones : replicate (length rest) absent ≡ absent ∷ left = ap (λ (r : List Part). replicate (length r) absent) step in
    record {
      all = append_assoc done (p ∷ []) rest' ∙ ap (λ (r : List Part). done ++ r) (sym step) ∙ h.all;
      seats_are =
          more
          ∙ ap (λ (xs : List ProcessView). xs ++ seat ∷ []) h.seats_are
          ∙ ap (λ (x : ProcessView). map (seat_of floor) done ++ x ∷ []) seat_is
          ∙ sym (map-append (seat_of floor) done (p ∷ []));
      standings_are =
          set_is
          ∙ ap (λ (xs : List Summary). set xs (length seats) summary) (h.standings_are ∙ ap (λ (xs : List Summary). known ++ xs) open_ones)
          ∙ ap (λ n. set (known ++ absent ∷ left) n summary) size
          ∙ set-append_seam known absent left summary
          ∙ ap (λ (x : Summary). known ++ x ∷ left) (summary_is ∙ ap (λ (q : ProcessView). represented_of end q) seat_is)
          ∙ sym (append_assoc known (represented_of end (seat_of floor p) ∷ []) left)
          ∙ ap (λ (xs : List Summary). xs ++ left)
          (sym (map-append (λ (q : ProcessView). represented_of end q) (map (seat_of floor) done) (seat_of floor p ∷ []))
          ∙ ap (standings_of end) (sym (map-append (seat_of floor) done (p ∷ []))));
    }

pub all_seated : {end floor : ℕ} {parts done rest : List Part} {seats : List ProcessView} {summaries : List Summary} → IsSeatedSoFar end floor parts done rest seats summaries → length rest ≡ 0 →
    (seats ≡ map (seat_of floor) parts) × (summaries ≡ standings_of end (map (seat_of floor) parts))
all_seated {end} {floor} {parts} {done} {rest} {seats} {summaries} h none =
    let empty : rest ≡ [] = nil_from_length rest none in
    let every : done ≡ parts = sym (append-nil done) ∙ ap (λ (r : List Part). done ++ r) (sym empty) ∙ h.all in (
      h.seats_are ∙ ap (map (seat_of floor)) every,
      h.standings_are
          ∙ ap (λ (r : List Part). standings_of end (map (seat_of floor) done) ++ replicate (length r) absent) empty
          ∙ append-nil (standings_of end (map (seat_of floor) done))
          ∙ ap (λ (ps : List Part). standings_of end (map (seat_of floor) ps)) every,
    )

pub seats_staffed : (p : Place) (parts : List Part) → p.node < p.nodes → p.end ≤ 2 ^ 40 → map (λ (q : Part). q.lp) parts ≡ own_lps p.nodes p.node p.lps → Every (λ (q : Part). Every (λ (x : Message). x.to ≡ q.lp) q.pending) parts →
    IsStaffed p (map (seat_of p.floor) parts) (standings_of p.end (map (seat_of p.floor) parts))
seats_staffed p parts node end own pending = record {
  node = node;
  end = end;
  lps = lps-seats parts ∙ own;
  seated = seated-seats parts pending;
  known = refl;
}
  where
    lps-seats : (ps : List Part) → lps_of (map (seat_of p.floor) ps) ≡ map (λ (q : Part). q.lp) ps
    lps-seats [] = refl
    lps-seats (q ∷ ps) = ap (λ xs. q.lp ∷ xs) (lps-seats ps)

    seated-seats : (ps : List Part) → Every (λ (q : Part). Every (λ (x : Message). x.to ≡ q.lp) q.pending) ps → Every (IsSeated p.floor) (map (seat_of p.floor) ps)
    seated-seats [] h = tt
    seated-seats (q ∷ ps) h = (record { from_floor = omega arith; unspent = refl; own_done = tt; own_waiting = Every-add_all (λ (x : Message). x.to ≡ q.lp) q.pending [] h.0 tt }, seated-seats ps h.1)

-- the process of a part
abbrev loaded_part : Part → Process
loaded_part p = loaded p.words p.number p.pending

pub processes-seats : (floor : ℕ) (parts : List Part) → processes_of (map (seat_of floor) parts) ≡ map loaded_part parts
processes-seats floor [] = refl
processes-seats floor (q ∷ ps) = ap (λ xs. loaded_part q ∷ xs) (processes-seats floor ps)

pub own_few : (node nodes lps : ℕ) → node < nodes → length (own_lps nodes node lps) ≤ lps
own_few node nodes lps some =
    let own = own_strided nodes node some lps in
    let n : ℕ = length (own_lps nodes node lps) in
    elim (cases_lt 0 n) [
      | inl e ↦ (let w = own.within (n - 1) (omega arith) in omega (arith, mul-le-mul_left {m = 1} {n = nodes} (n - 1) (omega arith)))
      | inr e ↦ omega arith
    ]

-- the load, by the results of the tests

own_foreign : (lp : ℕ) (xs : List Message) → Every (λ (x : Message). x.to ≡ lp) xs → has_foreign lp xs ≡ false
own_foreign lp [] h = refl
own_foreign lp (x ∷ xs) h = rw (eq-eqb x.to lp h.0) (own_foreign lp xs h.1)

late_early : (floor : ℕ) (xs : List Message) → Every (λ (x : Message). floor ≤ x.time) xs → has_early floor xs ≡ false
late_early floor [] h = refl
late_early floor (x ∷ xs) h = rw (le-ltb x.time floor h.0) (late_early floor xs h.1)

parts_mine : (parts : List Part) → Every (λ (p : Part). Every (λ (x : Message). x.to ≡ p.lp) p.pending) parts → list_any (λ (p : Part). has_foreign p.lp p.pending) parts ≡ false
parts_mine [] h = refl
parts_mine (p ∷ ps) h = rw (own_foreign p.lp p.pending h.0) (parts_mine ps h.1)

parts_late : (floor : ℕ) (parts : List Part) → Every (λ (p : Part). Every (λ (x : Message). floor ≤ x.time) p.pending) parts → list_any (λ (p : Part). has_early floor p.pending) parts ≡ false
parts_late floor [] h = refl
parts_late floor (p ∷ ps) h = rw (late_early floor p.pending h.0) (parts_late floor ps h.1)

-- and the converse

early_late : (floor : ℕ) (xs : List Message) → has_early floor xs ≡ false → Every (λ (x : Message). floor ≤ x.time) xs
early_late floor [] e = tt
early_late floor (x ∷ xs) e = elim (cases_Bool (nat_lt x.time floor)) [
  | inl f ↦ absurd (let now = rw f at e in cc)
  | inr f ↦ (ltb-false x.time floor f, early_late floor xs (rw f at e))
]

foreign_none : (parts : List Part) → list_any (λ (p : Part). has_foreign p.lp p.pending) parts ≡ false → Every (λ (p : Part). Every (λ (x : Message). x.to ≡ p.lp) p.pending) parts
foreign_none [] e = tt
foreign_none (p ∷ ps) e = elim (cases_Bool (has_foreign p.lp p.pending)) [
  | inl f ↦ absurd (let now = rw f at e in cc)
  | inr f ↦ (own_from p.lp p.pending f, foreign_none ps (rw f at e))
]

early_none : (floor : ℕ) (parts : List Part) → list_any (λ (p : Part). has_early floor p.pending) parts ≡ false → Every (λ (p : Part). Every (λ (x : Message). floor ≤ x.time) p.pending) parts
early_none floor [] e = tt
early_none floor (p ∷ ps) e = elim (cases_Bool (has_early floor p.pending)) [
  | inl f ↦ absurd (let now = rw f at e in cc)
  | inr f ↦ (early_late floor p.pending f, early_none floor ps (rw f at e))
]

same_list : (xs : List ℕ) → pointwise nat_eq xs xs ≡ true
same_list [] = refl
same_list (x ∷ xs) = rw (eq-eqb x x refl) (same_list xs)

module _ (lps lps' : ℕ) (load : Load) (parts : List Part) (l : lps' ≡ lps) (e : parts ≡ load.parts) where
  own_test : map (λ (q : Part). q.lp) parts ≡ own_lps load.nodes load.node lps' → is_own_load lps load ≡ true
  own_test own =
      subst (λ (xs : List ℕ). pointwise nat_eq (map (λ (q : Part). q.lp) load.parts) xs ≡ true) (ap (map (λ (q : Part). q.lp)) (sym e) ∙ own ∙ ap (own_lps load.nodes load.node) l) (same_list (map (λ (q : Part). q.lp) load.parts))

  own_then : is_own_load lps load ≡ true → map (λ (q : Part). q.lp) parts ≡ own_lps load.nodes load.node lps'
  own_then t = ap (map (λ (q : Part). q.lp)) e ∙ (same_text (map (λ (q : Part). q.lp) load.parts) (own_lps load.nodes load.node lps) (sym t) ∙ ap (own_lps load.nodes load.node) (sym l))

  -- the refusals of a load
  pub not_mine : (map (λ (q : Part). q.lp) parts ≡ own_lps load.nodes load.node lps' → Every (λ (q : Part). Every (λ (x : Message). x.to ≡ q.lp) q.pending) parts → ⊥) → load_refusal lps load ≡ Some NotMine
  not_mine other = elim (cases_Bool (is_own_load lps load)) [
    | inl t ↦ elim (cases_Bool (list_any (λ (p : Part). has_foreign p.lp p.pending) load.parts)) [
      | inl f ↦ rw (t, f) refl
      | inr f ↦ absurd (other (own_then t) (subst (Every (λ (q : Part). Every (λ (x : Message). x.to ≡ q.lp) q.pending)) (sym e) (foreign_none load.parts f)))
    ]
    | inr t ↦ rw t refl
  ]

  module _ (own : map (λ (q : Part). q.lp) parts ≡ own_lps load.nodes load.node lps') (pending : Every (λ (q : Part). Every (λ (x : Message). x.to ≡ q.lp) q.pending) parts) where
    mine : list_any (λ (p : Part). has_foreign p.lp p.pending) load.parts ≡ false
    mine = parts_mine load.parts (subst (Every (λ (q : Part). Every (λ (x : Message). x.to ≡ q.lp) q.pending)) e pending)

    pub below_floor : (Every (λ (q : Part). Every (λ (x : Message). load.floor ≤ x.time) q.pending) parts → ⊥) → load_refusal lps load ≡ Some BelowFloor
    below_floor early = elim (cases_Bool (list_any (λ (p : Part). has_early load.floor p.pending) load.parts)) [
      | inl f ↦ rw (own_test own, mine, f) refl
      | inr f ↦ absurd (early (subst (Every (λ (q : Part). Every (λ (x : Message). load.floor ≤ x.time) q.pending)) (sym e) (early_none load.floor load.parts f)))
    ]

    pub not_refused : Every (λ (q : Part). Every (λ (x : Message). load.floor ≤ x.time) q.pending) parts → load_refusal lps load ≡ None
    not_refused late = rw (own_test own, mine, parts_late load.floor load.parts (subst (Every (λ (q : Part). Every (λ (x : Message). load.floor ≤ x.time) q.pending)) e late)) refl

pub load_is_refused : (lps : ℕ) (load : Load) (fault : NodeFault) → load_refusal lps load ≡ Some fault → IsLoaded lps load (Err fault)
load_is_refused lps load fault e = inl (rw (load_answer, e) refl)

pub load_is_made : (lps : ℕ) (load : Load) (n : Node) → load_refusal lps load ≡ None → n ≡ loaded_node lps load → IsLoaded lps load (Ok n)
load_is_made lps load n e k = inl (rw (load_answer, e) (ap Ok k))

pub no_memory : (lps : ℕ) (load : Load) (fault : NodeFault) → load_refusal lps load ≡ None → fault ≡ NoMemory → IsLoaded lps load (Err fault)
no_memory lps load fault e k = inr (e, ap Err k)

abbrev loaded_with : Load → ℕ → List Process → Node
loaded_with load lps qs = record { node = load.node; nodes = load.nodes; lps = lps; end = load.end; floor = load.floor; spent = false; processes = qs }

pub loaded_is : (lps lps' : ℕ) (load : Load) (parts : List Part) (seats : List ProcessView) → lps' ≡ lps → parts ≡ load.parts → seats ≡ map (seat_of load.floor) parts →
    loaded_with load lps' (processes_of seats) ≡ loaded_node lps load
loaded_is lps lps' load parts seats l e s =
    ap (λ k. loaded_with load k (processes_of seats)) l
    ∙ ap (loaded_with load lps) (ap processes_of s ∙ processes-seats load.floor parts ∙ ap (map loaded_part) e)
