-- Least times: of parts, with one item more, of all that a ledger keeps.
use Rattle.std.specs.Prelude.{option_map}
use Rattle.std.proofs.Common.{ℕ, ◌≡◌, List, [], ◌∷◌, ◌++◌, map, flat_map, min, Option, Some, None, refl, ap, ◌∙◌, sym, arith, ◌<◌, ◌+◌, length, get_or, take}
use Rattle.std.proofs.lemmas.List.{map-append, take_more}
use Rattle.std.proofs.lemmas.List.Sums.{fold_more}
use Rattle.std.specs.List.{fold}
use Rattle.eventkey.specs.Bag.{least_time}
use Rattle.eventkey.specs.Message.{Message}
use Rattle.eventkey.specs.declared.Signed.{Signed}
use Rattle.gvt.specs.Accounts.{low_posted, lows_in, parcel_at, parcels_in, with_node, floors_in}
use Rattle.gvt.specs.Ledger.{delivered_by, ledger_floor, least_floor, least_low}
use Rattle.eventkey.proofs.Bags.{least_time-append, least_time-min}
use Rattle.node.proofs.Lows.{first_time-append}
use Rattle.node.specs.Node.{earliest, first_time}
use Rattle.gvt.specs.Times.{low_in}
use Rattle.gvt.specs.declared.account.Account.{Account}
use Rattle.gvt.specs.declared.account.Posted.{Posted}

abbrev messages : List Signed → List Message
messages ss = map (λ (s : Signed). s.message) ss

least_time-lesser : (t a : ℕ) (xs : List Message) → least_time (min t a) xs ≡ min (least_time t xs) a
least_time-lesser t a xs =
    let swap : min t a ≡ min a t = omega arith in
    let back : min a (least_time t xs) ≡ min (least_time t xs) a = omega arith in
    ap (λ n. least_time n xs) swap ∙ (least_time-min a t xs ∙ back)

-- the least of a time and several others is the lesser of it and of their own least
pub least_time_by_low : (t : ℕ) (ss : List Signed) → least_time t (messages ss) ≡ least_low t (low_in ss ∷ [])
least_time_by_low t [] = refl
least_time_by_low t (s ∷ ss) = least_time-min t s.message.time (messages ss)

pub low_in-append : (ss ts : List Signed) → low_in (ss ++ ts) ≡ earliest (low_in ss) (low_in ts)
low_in-append ss ts = ap first_time (map-append (λ (s : Signed). s.message) ss ts) ∙ first_time-append (messages ss) (messages ts)

low_posted_is : (t : ℕ) (account : Account) → least_low t (low_posted account.posted ∷ []) ≡ least_time t (messages (delivered_by (parcel_at account)))
low_posted_is t account = elim account.posted as (λ p. least_low t (low_posted p ∷ []) ≡ least_time t (messages (delivered_by (option_map (λ (posted : Posted). posted.parcel.value) p)))) [
  | None ↦ refl
  | Some posted ↦ ap (λ low. least_low t (low ∷ [])) posted.least_is ∙ sym (least_time_by_low t posted.parcel.value.deliver)
]

low_last : (t : ℕ) (low : Option ℕ) (lows : List (Option ℕ)) (xs ys : List Message) →
    least_low (least_time (least_time (least_low t (low ∷ [])) xs) ys) lows ≡ least_low (least_time (least_time t xs) ys) (low ∷ lows)
low_last t None lows xs ys = refl
low_last t (Some low) lows xs ys =
    ap (λ n. least_low n lows) (ap (λ n. least_time n ys) (least_time-lesser t low xs) ∙ least_time-lesser (least_time t xs) low ys)

nodes_floor : (t : ℕ) (accounts : List Account) →
    fold with_node t accounts ≡ least_low (least_time t (messages (flat_map delivered_by (parcels_in accounts)))) (lows_in accounts)
nodes_floor t [] = refl
nodes_floor t (account ∷ accounts) =
    let here = messages (delivered_by (parcel_at account)) in
    let rest = messages (flat_map delivered_by (parcels_in accounts)) in
    let lows = lows_in accounts in
    let reported = least_low t (account.low ∷ []) in
    nodes_floor (with_node t account) accounts
    ∙ (ap (λ n. least_low (least_time n rest) lows) (low_posted_is reported account)
    ∙ (low_last t account.low lows here rest
    ∙ ap (λ n. least_low n (account.low ∷ lows)) (sym (
    ap (least_time t) (map-append (λ (s : Signed). s.message) (delivered_by (parcel_at account)) (flat_map delivered_by (parcels_in accounts)))
    ∙ least_time-append t here rest))))

-- The floor computed from the accounts is the ledger's floor
pub floor_is : (end : ℕ) (transit : List Signed) (accounts : List Account) →
    fold with_node (least_low end (low_in transit ∷ [])) accounts ≡ ledger_floor end transit (parcels_in accounts) (lows_in accounts)
floor_is end transit accounts =
    let posted = flat_map delivered_by (parcels_in accounts) in
    let lows = lows_in accounts in
    ap (λ n. fold with_node n accounts) (sym (least_time_by_low end transit))
    ∙ (nodes_floor (least_time end (messages transit)) accounts
    ∙ ap (λ n. least_low n lows) (sym (ap (least_time end) (map-append (λ (s : Signed). s.message) transit posted) ∙ least_time-append end (messages transit) (messages posted))))

least_floor-push : (t : ℕ) (fs : List ℕ) (f : ℕ) → least_floor t (fs ++ f ∷ []) ≡ min (least_floor t fs) f
least_floor-push t [] f = refl
least_floor-push t (g ∷ fs) f = least_floor-push (min t g) fs f

-- With one node more: the floor, and the least floor answered
module _ (t : ℕ) (accounts : List Account) (i : ℕ) (account : Account) (before after : ℕ) (within : i < length accounts) (at : account ≡ get_or accounts i account) where
  pub floor_more : before ≡ fold with_node t (take i accounts) → after ≡ with_node before account → after ≡ fold with_node t (take (i + 1) accounts)
  floor_more so_far next =
      next ∙ (ap (λ n. with_node n account) so_far ∙ (ap (with_node (fold with_node t (take i accounts))) at ∙ sym (fold_more with_node t accounts i account within)))

  pub least_answered_more : before ≡ least_floor t (floors_in (take i accounts)) → after ≡ min before account.answered → after ≡ least_floor t (floors_in (take (i + 1) accounts))
  least_answered_more so_far next =
      let more : floors_in (take (i + 1) accounts) ≡ floors_in (take i accounts) ++ account.answered ∷ [] =
      ap floors_in (take_more accounts i account within)
      ∙ (map-append (λ (a : Account). a.answered) (take i accounts) (get_or accounts i account ∷ [])
      ∙ ap (λ (a : Account). floors_in (take i accounts) ++ a.answered ∷ []) (sym at)) in
      next ∙ (ap (λ n. min n account.answered) so_far ∙ sym (ap (least_floor t) more ∙ least_floor-push t (floors_in (take i accounts)) account.answered))
