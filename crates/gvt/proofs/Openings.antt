-- Accounts of a new ledger.
use Rattle.std.proofs.Common.{ℕ, ◌≡◌, List, [], ◌∷◌, map, Option, None, refl, ap, length, replicate}
use Rattle.gvt.specs.Accounts.{floors_in, lows_in, parcels_in}
use Rattle.gvt.specs.Ledger.{Ledger, first_ledger}
use Rattle.gvt.specs.declared.account.Account.{Account}
use Rattle.node.specs.declared.Parcel.{Parcel}

abbrev account_of : ℕ → Option ℕ → Account
account_of floor low = record { posted = None; low = low; answered = floor }

parcels_opened : (floor : ℕ) (lows : List (Option ℕ)) → parcels_in (map (account_of floor) lows) ≡ replicate (length lows) None
parcels_opened floor [] = refl
parcels_opened floor (low ∷ lows) = ap (λ (ps : List (Option Parcel)). None ∷ ps) (parcels_opened floor lows)

lows_opened : (floor : ℕ) (lows : List (Option ℕ)) → lows_in (map (account_of floor) lows) ≡ lows
lows_opened floor [] = refl
lows_opened floor (low ∷ lows) = ap (λ (ls : List (Option ℕ)). low ∷ ls) (lows_opened floor lows)

floors_opened : (floor : ℕ) (lows : List (Option ℕ)) → floors_in (map (account_of floor) lows) ≡ replicate (length lows) floor
floors_opened floor [] = refl
floors_opened floor (low ∷ lows) = ap (λ (fs : List ℕ). floor ∷ fs) (floors_opened floor lows)

-- the ledger that new accounts make up
pub opened_is : (nodes end floor : ℕ) (lows : List (Option ℕ)) (accounts : List Account) → length lows ≡ nodes → accounts ≡ map (account_of floor) lows →
    ◌≡◌ {A = Ledger} (record { end = end; transit = []; parcels = parcels_in accounts; lows = lows_in accounts; floors = floors_in accounts }) (first_ledger nodes end floor lows)
opened_is nodes end floor lows accounts count are =
    rw (are, ← count, parcels_opened floor lows, lows_opened floor lows, floors_opened floor lows) refl
