-- The processes of a node are at their places, and stay there when one of them changes.
use Rattle.std.proofs.Common.{◌≡◌, ℕ, zero, suc, ◌+◌, ◌*◌, ◌/◌, ◌%◌, ◌<◌, ◌≤◌, List, [], ◌∷◌, ◌++◌, length, get_or, set, sym, subst, ◌∙◌, ap, arith, inl, inr}
use Rattle.std.proofs.Math.Nat.{mul-le-mul_right, mod-add-div', mod-eq_of_lt, add-mul-mod_self_right}
use Rattle.std.proofs.Math.Seq.{get_or-append_seam, map-set_same}
use Rattle.std.proofs.lemmas.Bool.{both_ways, cases_Bool, cases_eq, cases_lt, cond-true, cond-false, eqb-true, eq-eqb}
use Rattle.std.proofs.lemmas.List.{map-set, get_or-map, get_or_append_left, length-map, length-append, append-nil}
use Rattle.std.proofs.lemmas.List.Elements.{filter-append}
use Rattle.std.proofs.lemmas.Nat.{div-mul-add}
use Rattle.eventkey.proofs.Lists.{Every-get_or, Every-set}
use Rattle.model.specs.World.{below}
use Rattle.process.specs.Process.{nobody}
use Rattle.node.specs.Handling.{own_lps}
use Rattle.process.specs.View.{ProcessView}
use Rattle.node.specs.Node.{sits_on}
use Rattle.node.specs.Roster.{IsSeated, IsStaffed, Place, lps_of, processes_of}
use Rattle.node.specs.Seats.{represented_of, standings_of}
use Rattle.node.specs.declared.summary.Summary.{Summary}

-- 1. The processes of a node are node, node + nodes, node + 2 nodes and so on.

pub record IsStrided (nodes node n : ℕ) (lps : List ℕ) : Type 0 where
  pub at : (i : ℕ) → i < length lps → get_or lps i 0 ≡ node + i * nodes
  pub within : (i : ℕ) → i < length lps → node + i * nodes < n
  pub all : n ≤ node + length lps * nodes

-- the process number at a place
pub record IsOwnAt (nodes node n i lp : ℕ) : Type 0 where
  pub there : lp < n
  pub place : lp / nodes ≡ i
  pub sits : lp % nodes ≡ node

module _ (nodes node : ℕ) (some : node < nodes) where
  strided_next : (n : ℕ) (xs : List ℕ) → IsStrided nodes node n xs → n % nodes ≡ node → n ≡ node + length xs * nodes
  strided_next n xs h e =
      let q : ℕ = n / nodes in
      let split : node + q * nodes ≡ n = rw (← e) (mod-add-div' n nodes) in
      let all = h.all in
      elim (cases_lt q (length xs)) [
        | inl l ↦ absurd (let w = h.within q l in omega arith)
        | inr l ↦ elim (cases_lt (length xs) q) [
          | inl k ↦ absurd (omega (arith, mul-le-mul_right {m = length xs + 1} {n = q} nodes (omega arith)))
          | inr k ↦ (let same : q ≡ length xs = omega arith in sym (subst (λ j. node + j * nodes ≡ n) same split))
        ]
      ]

  strided_with : (n : ℕ) (xs : List ℕ) → IsStrided nodes node n xs → n % nodes ≡ node → IsStrided nodes node (suc n) (xs ++ n ∷ [])
  strided_with n xs h e =
      let len = length-append xs (n ∷ []) in
      let next = strided_next n xs h e in
      record {
        at = λ i l. elim (cases_lt i (length xs)) [
          | inl k ↦ get_or_append_left xs (n ∷ []) 0 i k ∙ h.at i k
          | inr k ↦ (let here : i ≡ length xs = omega arith in subst (λ j. get_or (xs ++ n ∷ []) j 0 ≡ node + j * nodes) (sym here) (get_or-append_seam xs n [] 0 ∙ next))
        ];
        within = λ i l. elim (cases_lt i (length xs)) [
          | inl k ↦ (let w = h.within i k in omega arith)
          | inr k ↦ (let here : i ≡ length xs = omega arith in subst (λ j. node + j * nodes < suc n) (sym here) (omega arith))
        ];
        all = rw len (omega arith);
      }

  strided_without : (n : ℕ) (xs : List ℕ) → IsStrided nodes node n xs → (n % nodes ≡ node → ⊥) → IsStrided nodes node (suc n) xs
  strided_without n xs h other =
      let all = h.all in
      record {
        at = h.at;
        within = λ i l. (let w = h.within i l in omega arith);
        all = elim (cases_eq n (node + length xs * nodes)) [
          | inl e ↦ absurd (other (ap (λ k. k % nodes) e ∙ add-mul-mod_self_right node (length xs) nodes ∙ mod-eq_of_lt some))
          | inr e ↦ omega arith
        ];
      }

  pub own_strided : (n : ℕ) → IsStrided nodes node n (own_lps nodes node n)
  own_strided zero = record { at = λ i l. absurd (omega arith); within = λ i l. absurd (omega arith); all = omega arith }
  own_strided (suc n) =
      let xs : List ℕ = own_lps nodes node n in
      subst (IsStrided nodes node (suc n)) (sym (filter-append (sits_on nodes node) (below n) (n ∷ []))) (elim (cases_Bool (sits_on nodes node n)) [
        | inl e ↦ subst (λ ys. IsStrided nodes node (suc n) (xs ++ ys)) (sym (cond-true (sits_on nodes node n) (n ∷ []) [] e)) (strided_with n xs (own_strided n) (eqb-true (n % nodes) node e))
        | inr e ↦ subst (λ ys. IsStrided nodes node (suc n) (xs ++ ys)) (sym (cond-false (sits_on nodes node n) (n ∷ []) [] e))
            (rw append-nil (strided_without n xs (own_strided n) (λ f. both_ways (sits_on nodes node n) e (eq-eqb (n % nodes) node f))))
      ])

  -- the place of a process
  pub own_place : (n lp : ℕ) → lp % nodes ≡ node → lp < n → (lp / nodes < length (own_lps nodes node n)) × (get_or (own_lps nodes node n) (lp / nodes) 0 ≡ lp)
  own_place n lp e l =
      let h = own_strided n in
      let all = h.all in
      let split : node + lp / nodes * nodes ≡ lp = rw (← e) (mod-add-div' lp nodes) in
      let inside : lp / nodes < length (own_lps nodes node n) = elim (cases_lt (lp / nodes) (length (own_lps nodes node n))) [
        | inl k ↦ k
        | inr k ↦ absurd (omega (arith, mul-le-mul_right {m = length (own_lps nodes node n)} {n = lp / nodes} nodes k))
      ] in
      (inside, h.at (lp / nodes) inside ∙ split)

  pub own_at : (n i : ℕ) → i < length (own_lps nodes node n) → IsOwnAt nodes node n i (get_or (own_lps nodes node n) i 0)
  own_at n i l =
      let h = own_strided n in
      subst (IsOwnAt nodes node n i) (sym (h.at i l)) (record {
        there = h.within i l;
        place = ap (λ k. k / nodes) {x = node + i * nodes} {y = i * nodes + node} (omega arith) ∙ div-mul-add i nodes node some;
        sits = add-mul-mod_self_right node i nodes ∙ mod-eq_of_lt some;
      })

-- 2. The processes of a node that is not spent

-- process lp is at its place
pub record IsAt (p : Place) (seats : List ProcessView) (lp : ℕ) (q : ProcessView) : Type 0 where
  pub place : lp / p.nodes < length seats
  pub seated : IsSeated p.floor q
  pub lp_is : q.lp ≡ lp
  pub here : get_or (processes_of seats) (lp / p.nodes) nobody ≡ q.process

pub length-lps : (p : Place) (seats : List ProcessView) → lps_of seats ≡ own_lps p.nodes p.node p.lps → length seats ≡ length (own_lps p.nodes p.node p.lps)
length-lps p seats h = sym (length-map seats (λ (q : ProcessView). q.lp)) ∙ ap length h

pub length-summaries : (p : Place) (seats : List ProcessView) (summaries : List Summary) → IsStaffed p seats summaries → length summaries ≡ length seats
length-summaries p seats summaries h = ap length h.known ∙ length-map seats (λ (q : ProcessView). represented_of p.end q)

pub place_inside : (p : Place) (seats : List ProcessView) (summaries : List Summary) (lp : ℕ) → IsStaffed p seats summaries → lp % p.nodes ≡ p.node → lp < p.lps → lp / p.nodes < length seats
place_inside p seats summaries lp h e l = let o = own_place p.nodes p.node h.node p.lps lp e l in rw (length-lps p seats h.lps) o.0

-- the process read at the place of lp is lp
pub picked : (p : Place) (seats : List ProcessView) (summaries : List Summary) (lp : ℕ) (q : ProcessView) → IsStaffed p seats summaries → lp % p.nodes ≡ p.node → lp < p.lps →
    q ≡ get_or seats (lp / p.nodes) q → IsAt p seats lp q
picked p seats summaries lp q h e l read =
    let o = own_place p.nodes p.node h.node p.lps lp e l in
    let inside = place_inside p seats summaries lp h e l in
    record {
      place = inside;
      seated = subst (IsSeated p.floor) (sym read) (Every-get_or (IsSeated p.floor) seats (lp / p.nodes) q inside h.seated);
      lp_is = ap (λ (v : ProcessView). v.lp) read ∙ sym (get_or-map (λ (v : ProcessView). v.lp) seats (lp / p.nodes) q 0 inside) ∙ ap (λ xs. get_or xs (lp / p.nodes) 0) h.lps ∙ o.1;
      here = get_or-map (λ (v : ProcessView). v.process) seats (lp / p.nodes) q nobody inside ∙ ap (λ (v : ProcessView). v.process) (sym read);
    }

-- one process has changed, and so has its summary
pub staffed_again : (p : Place) (seats : List ProcessView) (summaries : List Summary) (i : ℕ) (q r : ProcessView) (summary : Summary) → IsStaffed p seats summaries → q ≡ get_or seats i q →
    r.lp ≡ q.lp → IsSeated p.floor r → summary ≡ represented_of p.end r → IsStaffed p (set seats i r) (set summaries i summary)
staffed_again p seats summaries i q r summary h read same seated known = record {
  node = h.node;
  end = h.end;
  lps = map-set_same (λ (v : ProcessView). v.lp) seats i r q (same ∙ ap (λ (v : ProcessView). v.lp) read) ∙ h.lps;
  seated = Every-set (IsSeated p.floor) seats i r seated h.seated;
  known =
      ap (λ (xs : List Summary). set xs i summary) h.known
      ∙ ap (set (standings_of p.end seats) i) known
      ∙ sym (map-set (λ (v : ProcessView). represented_of p.end v) seats i r);
}
