-- The least time of messages.
use Rattle.std.proofs.Common.{ℕ, ◌+◌, ◌≤◌, List, [], ◌∷◌, map, arith, min, zero, suc, ◌<◌, length, get_or}
use Rattle.std.specs.List.{AllByRecursion as Every}
use Rattle.eventkey.specs.Bag.{copies, least_time, one_if_same}
use Rattle.eventkey.specs.Message.{Message}
use Rattle.eventkey.specs.Signed.{of_sign}
use Rattle.eventkey.specs.declared.Sign.TheVariants.{Minus, Plus}
use Rattle.eventkey.specs.declared.Signed.{Signed}

pub copies-of_sign-le : (x : Message) (ss : List Signed) → (copies x (of_sign Plus ss) ≤ copies x (map (λ (s : Signed). s.message) ss)) × (copies x (of_sign Minus ss) ≤ copies x (map (λ (s : Signed). s.message) ss))
copies-of_sign-le x [] = (omega arith, omega arith)
copies-of_sign-le x (s ∷ ss) =
    let r = copies-of_sign-le x ss in
    let a = r.0 in
    let b = r.1 in
    let all : ℕ = copies x (map (λ (s : Signed). s.message) ss) in
    elim s.sign as (λ g.
    (copies x (elim g [ Plus ↦ s.message ∷ of_sign Plus ss | Minus ↦ of_sign Plus ss ]) ≤ one_if_same x s.message + all)
    × (copies x (elim g [ Plus ↦ of_sign Minus ss | Minus ↦ s.message ∷ of_sign Minus ss ]) ≤ one_if_same x s.message + all))
    [ Plus ↦ (omega arith, omega arith) | Minus ↦ (omega arith, omega arith) ]

pub least_time-le : (t : ℕ) (xs : List Message) → least_time t xs ≤ t
least_time-le t [] = omega arith
least_time-le t (x ∷ xs) = omega (arith, least_time-le (min t x.time) xs)

abbrev pub IsFrom : ℕ → Message → Type 0
IsFrom g x = g ≤ x.time

pub least_time-each : (t : ℕ) (xs : List Message) → Every (IsFrom (least_time t xs)) xs
least_time-each t [] = tt
least_time-each t (x ∷ xs) = (omega (arith, least_time-le (min t x.time) xs), least_time-each (min t x.time) xs)

pub least_time-above : (g t : ℕ) (xs : List Message) → g ≤ t → Every (IsFrom g) xs → g ≤ least_time t xs
least_time-above g t [] h k = h
least_time-above g t (x ∷ xs) h k = least_time-above g (min t x.time) xs (let a = k.0 in omega arith) k.1

pub Every-from_get_or : {X : Type 0} (P : X → Type 0) (xs : List X) (d : X) → ((i : ℕ) → i < length xs → P (get_or xs i d)) → Every P xs
Every-from_get_or P [] d h = tt
Every-from_get_or P (x ∷ xs) d h = (h zero (omega arith), Every-from_get_or P xs d (λ i l. h (suc i) (omega arith)))
