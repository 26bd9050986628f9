-- The handlings of the processes of a node are what the model does: after loading, and after each
-- call of a process.
use Rattle.std.proofs.Common.{ℕ, ◌<◌, ◌≡◌, ◌/◌, ◌∙◌, List, [], ◌∷◌, length, refl, ap, zero, suc, subst, Bool, None, Some, cond, inl, inr, get_or, false, map, sym, set}
use Rattle.std.proofs.lemmas.Bool.{cases_Bool, cond-true}
use Rattle.std.proofs.lemmas.List.{get_or-map, get_or_default}
use Rattle.std.specs.Prelude.{nat_lt}
use Rattle.std.specs.List.{AllByRecursion as Every}
use Rattle.eventkey.proofs.Times.{Every-from_get_or}
use Rattle.eventkey.proofs.Lists.{Every-get_or, Every-set}
use Rattle.model.specs.Meaning.{Meaning}
use Rattle.process.specs.Process.{nobody}
use Rattle.process.specs.Consistent.{IsHistory}
use Rattle.process.specs.View.{IsProcessKept, ProcessView, loaded}
use Rattle.node.proofs.Deliveries.{node_at}
use Rattle.node.proofs.Seats.{length-lps, own_at, picked, place_inside}
use Rattle.node.specs.Handling.{Node, first_fault, own_lps, refusal}
use Rattle.node.specs.Kept.{HasHistories, HistoriesBegin}
use Rattle.node.specs.Roster.{IsModelled, IsReady, IsStaffed, Place, node_of_roster, place_of, processes_of}
use Rattle.node.specs.declared.NodeFault.TheVariants.{FloorFell, Spent}
use Rattle.node.specs.declared.Parcel.{Parcel}
use Rattle.node.specs.declared.Part.{Part}
use Rattle.node.specs.declared.roster.Roster.{Roster}
use Rattle.node.specs.declared.summary.Summary.{Summary}

-- 1. The histories of a node that has just been loaded are empty.

pub histories_begin : HistoriesBegin
histories_begin m lps load lp there on = begins load.parts (lp / load.nodes)
  where
    begins : (parts : List Part) (i : ℕ) → IsHistory m lp (get_or (map (λ (p : Part). loaded p.words p.number p.pending) parts) i nobody)
    begins [] i = (refl, refl)
    begins (p ∷ parts) zero = (refl, refl)
    begins (p ∷ parts) (suc i) = begins parts i

-- 2. One process

module _ (m : Meaning) (seats : List ProcessView) (h : Every (IsModelled m) seats) where
  pub modelled_at : (i : ℕ) (q : ProcessView) → i < length seats → q ≡ get_or seats i q → IsModelled m q
  modelled_at i q inside read = subst (IsModelled m) (sym read) (Every-get_or (IsModelled m) seats i q inside h)

  -- after a call of a process that keeps its history what the model does
  pub modelled_again : (i : ℕ) (q r : ProcessView) → IsModelled m q → IsProcessKept m q r → r.spent ≡ false → Every (IsModelled m) (set seats i r)
  modelled_again i q r of_model kept unspent =
      Every-set (IsModelled m) seats i r (record { there = subst (λ (lp : ℕ). lp < m.lps) (sym kept.lp) of_model.there; history = kept.history (λ _. of_model.history) unspent }) h

-- 3. All of them

module _ (m : Meaning) (p : Place) (seats : List ProcessView) (summaries : List Summary) (h : IsStaffed p seats summaries) where
  nobody_there : ProcessView
  nobody_there = record { lp = 0; floor = 0; spent = false; process = nobody }

  pub are_modelled : m.lps ≡ p.lps → HasHistories m (node_at p (processes_of seats)) → Every (IsModelled m) seats
  are_modelled lps histories = Every-from_get_or (IsModelled m) seats nobody_there (λ i inside.
      let q : ProcessView = get_or seats i nobody_there in
      let lp : ℕ = get_or (own_lps p.nodes p.node p.lps) i 0 in
      let at = own_at p.nodes p.node h.node p.lps i (rw (← length-lps p seats h.lps) inside) in
      let lp_is : q.lp ≡ lp = sym (get_or-map (λ (v : ProcessView). v.lp) seats i nobody_there 0 inside) ∙ ap (λ (lps : List ℕ). get_or lps i 0) h.lps in
      let here : get_or (processes_of seats) (lp / p.nodes) nobody ≡ q.process =
      ap (λ (k : ℕ). get_or (processes_of seats) k nobody) at.place ∙ get_or-map (λ (v : ProcessView). v.process) seats i nobody_there nobody inside in
      record {
        there = rw (lp_is, lps) at.there;
        history = subst (λ (k : ℕ). IsHistory m k q.process) (sym lp_is) (subst (IsHistory m lp) here (histories lp at.there at.sits));
      })

  pub have_histories : Every (IsModelled m) seats → HasHistories m (node_at p (processes_of seats))
  have_histories modelled lp there on =
      let inside = place_inside p seats summaries lp h on there in
      let q : ProcessView = get_or seats (lp / p.nodes) nobody_there in
      let at = picked p seats summaries lp q h on there (get_or_default seats (lp / p.nodes) nobody_there q inside) in
      let mine = Every-get_or (IsModelled m) seats (lp / p.nodes) nobody_there inside modelled in
      subst (IsHistory m lp) (sym at.here) (subst (λ (k : ℕ). IsHistory m k q.process) at.lp_is mine.history)

-- 4. A parcel that is not refused

refusal_unspent : (n : Node) (parcel : Parcel) → refusal n parcel ≡ None → n.spent ≡ false
refusal_unspent n parcel e = elim (cases_Bool n.spent) [
  | inl spent ↦ absurd (let f = sym (cond-true n.spent (Some Spent) (cond (nat_lt parcel.floor n.floor) (Some FloorFell) (first_fault n parcel.deliver)) spent) ∙ e in cc)
  | inr unspent ↦ unspent
]

pub modelled_where_accepted : (m : Meaning) (parcel : Parcel) (spent : Bool) (r : Roster) (old : Node) → node_of_roster spent r ≡ old → refusal old parcel ≡ None → (spent ≡ false → IsReady r) →
    (old.spent ≡ false → m.lps ≡ old.lps) → HasHistories m old → Every (IsModelled m) r.processes.items
modelled_where_accepted m parcel spent r old view fine ready lps histories =
    let unspent : spent ≡ false = refusal_unspent (node_of_roster spent r) parcel (subst (λ (n : Node). refusal n parcel ≡ None) (sym view) fine) in
    are_modelled m (place_of r) r.processes.items r.summaries (ready unspent)
    (subst (λ (n : Node). n.spent ≡ false → m.lps ≡ n.lps) (sym view) lps unspent)
    (subst (λ (b : Bool). HasHistories m (node_of_roster b r)) unspent (subst (HasHistories m) (sym view) histories))
