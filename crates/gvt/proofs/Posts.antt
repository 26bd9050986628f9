-- Posting a parcel keeps a system state sound, and global virtual time does not fall.
use Rattle.std.proofs.Common.{◌≡◌, ℕ, ◌+◌, List, [], ◌∷◌, refl, ap, ◌<◌, false, cond, arith, zero, suc, true, inl, inr, length, get_or, ◌%◌, Option, Some, None, ◌≤◌, flat_map, sym, ◌∙◌, subst, length-set, get_or-set_same, get_or-set_other}
use Rattle.std.proofs.lemmas.Bool.{cond_both, ne_eqb, cases_Bool, eq-eqb, eqb-true, ltb-true, and_parts, not-true, cases_eq}
use Rattle.std.proofs.lemmas.Option.{same_Some, none-some}
use Rattle.std.specs.List.{AllByRecursion as Every}
use Rattle.std.specs.Prelude.{nat_eq, nat_lt, ◌&&◌, not, is_some}
use Rattle.eventkey.proofs.Lists.{Every-append, Every-get_or, Every-left, Every-right, Every-weaker, copies-append_signed, copies-cons}
use Rattle.eventkey.specs.Bag.{copies}
use Rattle.eventkey.specs.Message.{IsRanged, Message}
use Rattle.eventkey.specs.Signed.{of_sign}
use Rattle.eventkey.specs.declared.Sign.{Sign}
use Rattle.eventkey.specs.declared.Sign.TheVariants.{Minus, Plus}
use Rattle.eventkey.specs.declared.Signed.{Signed}
use Rattle.model.specs.Meaning.{Meaning}
use Rattle.node.specs.Node.{sits_on}
use Rattle.node.specs.declared.Parcel.{Parcel}
use Rattle.gvt.proofs.Sweeps.{not_picked-none}
use Rattle.gvt.specs.Ledger.{delivered_by}
use Rattle.gvt.specs.Picks.{are_distinct, can_pick, has, not_picked, nothing, picked}
use Rattle.gvt.proofs.Gvt.{Every-parcels-set, SignedFrom, copies-parcels-set, gvt-le, gvt_above, gvt_nodes, gvt_travelling}
use Rattle.gvt.specs.System.{IsSystemInRange, System, gvt, nodes_of}
use Rattle.gvt.specs.Moves.{Post, can_post, is_busy, move, system_after_post}
use Rattle.gvt.specs.Sound.{IsParcel, IsSoundSystem}

-- 1. Picks

-- a pick before place i takes nothing from there on
not_picked-past : (picks : List ℕ) (k i : ℕ) (ss : List Signed) → k < i → not_picked (k ∷ picks) i ss ≡ not_picked picks i ss
not_picked-past picks k i [] l = refl
not_picked-past picks k i (s ∷ ss) l =
    let other : nat_eq i k ≡ false = ne_eqb i k (λ e. omega arith) in
    rw other (cond_both (has i picks) (not_picked (k ∷ picks) (i + 1) ss) (s ∷ not_picked (k ∷ picks) (i + 1) ss) (λ (ts : List Signed). ts ≡ cond (has i picks) (not_picked picks (i + 1) ss) (s ∷ not_picked picks (i + 1) ss))
    (λ e. rw e (not_picked-past picks k (i + 1) ss (omega arith)))
    (λ e. rw e (ap (λ (ts : List Signed). s ∷ ts) (not_picked-past picks k (i + 1) ss (omega arith)))))

copies-one_pick : (x : Message) (sign : Sign) (picks : List ℕ) (k i j : ℕ) (ss : List Signed) → k ≡ i + j → j < length ss → has k picks ≡ false →
    copies x (of_sign sign (not_picked picks i ss)) ≡ copies x (of_sign sign (not_picked (k ∷ picks) i ss)) + copies x (of_sign sign (get_or ss j nothing ∷ []))
copies-one_pick x sign picks k i j [] e l new = absurd (omega arith)
copies-one_pick x sign picks k i zero (s ∷ ss) e l new =
    let same : i ≡ k = omega arith in
    let test : nat_eq i k ≡ true = eq-eqb i k same in
    let new' : has i picks ≡ false = rw same new in
    let past = ap (λ ts. copies x (of_sign sign ts)) (not_picked-past picks k (i + 1) ss (omega arith)) in
    rw (test, new') (omega (arith, copies-cons x sign s (not_picked picks (i + 1) ss)))
copies-one_pick x sign picks k i (suc j) (s ∷ ss) e l new =
    let other : nat_eq i k ≡ false = ne_eqb i k (λ f. omega arith) in
    let rest = copies-one_pick x sign picks k (i + 1) j ss (omega arith) (omega arith) new in
    rw other (elim (cases_Bool (has i picks)) [
      | inl f ↦ rw f rest
      | inr f ↦ rw f (omega (arith, copies-cons x sign s (not_picked picks (i + 1) ss), copies-cons x sign s (not_picked (k ∷ picks) (i + 1) ss)))
    ])

record IsPick (nodes node : ℕ) (transit : List Signed) (i : ℕ) : Type 0 where
  there : i < length transit
  own : (get_or transit i nothing).message.to % nodes ≡ node

all_picks : (nodes node : ℕ) (transit : List Signed) (picks : List ℕ) → can_pick nodes node transit picks ≡ true → Every (IsPick nodes node transit) picks
all_picks nodes node transit [] e = tt
all_picks nodes node transit (i ∷ is) e =
    let a = and_parts (nat_lt i (length transit) && sits_on nodes node (get_or transit i nothing).message.to) (can_pick nodes node transit is) e in
    let b = and_parts (nat_lt i (length transit)) (sits_on nodes node (get_or transit i nothing).message.to) a.0 in
    (record { there = ltb-true i (length transit) b.0; own = eqb-true ((get_or transit i nothing).message.to % nodes) node b.1 }, all_picks nodes node transit is a.1)

-- what is picked and what is not are all that is in transit
copies-picks : (x : Message) (sign : Sign) (nodes node : ℕ) (transit : List Signed) (picks : List ℕ) → Every (IsPick nodes node transit) picks → are_distinct picks ≡ true →
    copies x (of_sign sign (not_picked picks 0 transit)) + copies x (of_sign sign (picked transit picks)) ≡ copies x (of_sign sign transit)
copies-picks x Plus nodes node transit [] h d = let e = ap (λ ts. copies x (of_sign Plus ts)) (not_picked-none 0 transit) in omega arith
copies-picks x Minus nodes node transit [] h d = let e = ap (λ ts. copies x (of_sign Minus ts)) (not_picked-none 0 transit) in omega arith
copies-picks x sign nodes node transit (k ∷ ks) h d =
    let a = and_parts (not (has k ks)) (are_distinct ks) d in
    let one = copies-one_pick x sign ks k 0 k transit (omega arith) h.0.there (not-true (has k ks) a.0) in
    omega (arith, copies-picks x sign nodes node transit ks h.1 a.1, copies-cons x sign (get_or transit k nothing) (picked transit ks))

Every-not_picked : (P : Signed → Type 0) (picks : List ℕ) (i : ℕ) (ss : List Signed) → Every P ss → Every P (not_picked picks i ss)
Every-not_picked P picks i [] h = tt
Every-not_picked P picks i (s ∷ ss) h =
    cond_both (has i picks) (not_picked picks (i + 1) ss) (s ∷ not_picked picks (i + 1) ss) (Every P) (λ _. Every-not_picked P picks (i + 1) ss h.1) (λ _. (h.0, Every-not_picked P picks (i + 1) ss h.1))

Every-picked : (P : Signed → Type 0) (nodes node : ℕ) (transit : List Signed) (picks : List ℕ) → Every (IsPick nodes node transit) picks → Every P transit → Every P (picked transit picks)
Every-picked P nodes node transit [] h k = tt
Every-picked P nodes node transit (i ∷ is) h k = (Every-get_or P transit i nothing h.0.there k, Every-picked P nodes node transit is h.1 k)

on_node-picked : (nodes node : ℕ) (transit : List Signed) (picks : List ℕ) → Every (IsPick nodes node transit) picks → Every (λ (s : Signed). s.message.to % nodes ≡ node) (picked transit picks)
on_node-picked nodes node transit [] h = tt
on_node-picked nodes node transit (i ∷ is) h = (h.0.own, on_node-picked nodes node transit is h.1)

-- 2. The system state after a post

not_busy : (o : Option Parcel) → is_some o ≡ false → o ≡ None
not_busy None e = refl
not_busy (Some parcel) e = absurd (cc)

module _ (m : Meaning) (end node : ℕ) (picks : List ℕ) (budget : ℕ) (p : System) (h : IsSoundSystem m end p) (can : can_post p node picks ≡ true) where
  checks : (node < nodes_of p) × (get_or p.parcels node None ≡ None) × Every (IsPick (nodes_of p) node p.transit) picks × (are_distinct picks ≡ true)
  checks =
      let a = and_parts (nat_lt node (nodes_of p) && not (is_busy p node)) (can_pick (nodes_of p) node p.transit picks && are_distinct picks) can in
      let b = and_parts (nat_lt node (nodes_of p)) (not (is_busy p node)) a.0 in
      let c = and_parts (can_pick (nodes_of p) node p.transit picks) (are_distinct picks) a.1 in
      (ltb-true node (nodes_of p) b.0, not_busy (get_or p.parcels node None) (not-true (is_busy p node) b.1), all_picks (nodes_of p) node p.transit picks c.0, c.1)

  within : node < length p.parcels
  within = let a = checks.0 in let b = h.seated.parcels in omega arith

  new : System
  new = system_after_post end node picks budget p

  moving : Every (SignedFrom (gvt end p)) p.transit
  moving = Every-left (SignedFrom (gvt end p)) p.transit (flat_map delivered_by p.parcels) (gvt_travelling end p)

  gvt_kept : gvt end p ≤ gvt end new
  unfolding new
  gvt_kept = gvt_above end (gvt end p) new (gvt-le end p) (gvt_nodes end p)
      (Every-append (SignedFrom (gvt end p)) (not_picked picks 0 p.transit) (flat_map delivered_by new.parcels)
      (Every-not_picked (SignedFrom (gvt end p)) picks 0 p.transit moving)
      (Every-parcels-set (SignedFrom (gvt end p)) p.parcels node (Some (record { deliver = picked p.transit picks; budget = budget; floor = gvt end p }))
      (Every-picked (SignedFrom (gvt end p)) (nodes_of p) node p.transit picks checks.2 moving)
      (Every-right (SignedFrom (gvt end p)) p.transit (flat_map delivered_by p.parcels) (gvt_travelling end p))))

  new_in_range : IsSystemInRange new
  unfolding new
  new_in_range = (
    h.in_range.0,
    h.in_range.1,
    Every-append (λ (s : Signed). IsRanged s.message) (not_picked picks 0 p.transit) (flat_map delivered_by new.parcels)
        (Every-not_picked (λ (s : Signed). IsRanged s.message) picks 0 p.transit transit_ranged)
        (Every-parcels-set (λ (s : Signed). IsRanged s.message) p.parcels node (Some (record { deliver = picked p.transit picks; budget = budget; floor = gvt end p }))
        (Every-picked (λ (s : Signed). IsRanged s.message) (nodes_of p) node p.transit picks checks.2 transit_ranged)
        (Every-right (λ (s : Signed). IsRanged s.message) p.transit (flat_map delivered_by p.parcels) h.in_range.2)),
  )
    where
      transit_ranged : Every (λ (s : Signed). IsRanged s.message) p.transit
      transit_ranged = Every-left (λ (s : Signed). IsRanged s.message) p.transit (flat_map delivered_by p.parcels) h.in_range.2

  new_parcels : (node' : ℕ) (parcel : Parcel) → get_or new.parcels node' None ≡ Some parcel → IsParcel m (nodes_of p) node' (get_or p.floors node' 0) (gvt end new) parcel
  unfolding new
  new_parcels node' parcel e = elim (cases_eq node' node) [
    | inl same ↦
        let this : Parcel = record { deliver = picked p.transit picks; budget = budget; floor = gvt end p } in
        let was : get_or new.parcels node' None ≡ Some this = ap (λ (i : ℕ). get_or new.parcels i None) same ∙ get_or-set_same p.parcels node (Some this) None within in
        let is : this ≡ parcel = same_Some this parcel (sym was ∙ e) in
        subst (IsParcel m (nodes_of p) node' (get_or p.floors node' 0) (gvt end new)) is (record {
          from = Every-get_or (λ (f : ℕ). f ≤ gvt end p) p.floors node' 0 (let a = checks.0 in let b = h.seated.floors in omega arith) h.floors_low;
          upto = gvt_kept;
          there = Every-picked (λ (s : Signed). s.message.to < m.lps) (nodes_of p) node p.transit picks checks.2 h.there;
          on_node = rw same (on_node-picked (nodes_of p) node p.transit picks checks.2);
        })
    | inr apart ↦
        let good = h.parcels node' parcel (sym (get_or-set_other p.parcels node node' _ None apart) ∙ e) in
        let upto = good.upto in
        let more = gvt_kept in
        record { from = good.from; upto = omega arith; there = good.there; on_node = good.on_node }
  ]

  new_sound : IsSoundSystem m end new
  unfolding new
  new_sound =
      let more = gvt_kept in
      record {
        front = h.front;
        some = h.some;
        seated = record { seats = h.seated.seats; parcels = length-set p.parcels node _ ∙ h.seated.parcels; floors = h.seated.floors; reported = h.seated.reported };
        in_range = new_in_range;
        reported = h.reported;
        balanced = λ x l.
            let old = h.balanced x l in
            let this : Parcel = record { deliver = picked p.transit picks; budget = budget; floor = gvt end p } in
            let empty = checks.1 in
            let a = copies-parcels-set x Plus p.parcels node (Some this) within in
            let b = copies-parcels-set x Minus p.parcels node (Some this) within in
            let a' = ap (λ (o : Option Parcel). copies x (of_sign Plus (delivered_by o))) empty in
            let b' = ap (λ (o : Option Parcel). copies x (of_sign Minus (delivered_by o))) empty in
            let c = copies-picks x Plus (nodes_of p) node p.transit picks checks.2 checks.3 in
            let d = copies-picks x Minus (nodes_of p) node p.transit picks checks.2 checks.3 in
            omega (
              arith,
              copies-append_signed x Plus p.transit (flat_map delivered_by p.parcels),
              copies-append_signed x Minus p.transit (flat_map delivered_by p.parcels),
              copies-append_signed x Plus (not_picked picks 0 p.transit) (flat_map delivered_by new.parcels),
              copies-append_signed x Minus (not_picked picks 0 p.transit) (flat_map delivered_by new.parcels),
            );
        front_low = h.front_low;
        floors_low = Every-weaker (λ (f : ℕ). f ≤ gvt end p) (λ (f : ℕ). f ≤ gvt end new) (λ f a. omega arith) p.floors h.floors_low;
        there = Every-not_picked (λ (s : Signed). s.message.to < m.lps) picks 0 p.transit h.there;
        parcels = new_parcels;
      }

pub sound_post : (m : Meaning) (end node : ℕ) (picks : List ℕ) (budget : ℕ) (p p' : System) → IsSoundSystem m end p → move m end (Post node picks budget) p ≡ Some p' → IsSoundSystem m end p' × (gvt end p ≤ gvt end p')
unfolding new
sound_post m end node picks budget p p' h =
    cond_both (can_post p node picks) (Some (system_after_post end node picks budget p)) None (λ (r : Option System). r ≡ Some p' → IsSoundSystem m end p' × (gvt end p ≤ gvt end p'))
    (λ can e. subst (λ (q : System). IsSoundSystem m end q × (gvt end p ≤ gvt end q)) (same_Some (system_after_post end node picks budget p) p' e) (new_sound m end node picks budget p h can, gvt_kept m end node picks budget p h can))
    (λ _ e. absurd (none-some p' e))
