-- What is known after a call, and what is printed before a fault.
use Rattle.std.specs.Prelude.{◌≡◌, ◌++◌, ℕ, List, None, Option, Result, Some, Ok, Err, IfOk, IfSome}
use Rattle.std.proofs.Common.{ap, refl, subst}
use Rattle.eventkey.proofs.Writers.{wrote}
use Rattle.eventkey.specs.Writing.{Writes}
use Rattle.model.specs.declared.origin.Origin.{Origin}
use Rattle.views.specs.Reading.{IsBelieved, believed_line}

-- what holds of the value of a call that succeeds
pub if_ok : {T E : Type 0} (P : T → Type 0) {r : Result T E} {x : T} → r ≡ Ok x → IfOk r P → P x
if_ok P {r = Ok y} {x} e h = let same : y ≡ x = cc in subst P same h
if_ok P {r = Err y} e h = cc

-- a text that is written whole before a fault, without the one after it
pub writes_before_fault : {T E U F : Type 0} {s : Result T E} {old new : Option (List ℕ)} {a : List ℕ} {x : T} (e : F) (b : List ℕ) → Writes old new s a → s ≡ Ok x → Writes {T = U} {E = F} old new (Err e) (a ++ b)
writes_before_fault {a = a} e b h is = record { all = tt; part = record { taken = a; left = b; whole = refl; appended = wrote h is } }

-- the line of an origin that is believed
pub believed_is : (At : ℕ → Type 0) (origin : Option Origin) (time : ℕ) (line : Option ℕ) → IfSome origin (λ o. At time) → (origin ≡ None → line ≡ None) → IfSome origin (λ o. line ≡ Some time) → IsBelieved At origin (believed_line line)
believed_is At None time line at none some = ap believed_line (none refl)
believed_is At (Some o) time line at none some = (time, at, ap believed_line some)
