-- The run of a model to its end.
use Rattle.std.specs.Prelude.{◌≡◌, ◌≤◌, ◌^◌, ℕ, length, max, min}
use Rattle.std.proofs.Common.{arith, refl, subst, sym, ◌∙◌}
use Rattle.std.specs.Prelude.{Result, Ok, Err, OnOk, IsErrAnd}
use Rattle.views.specs.Views.{of_model}
use Rattle.views.specs.declared.fault.ViewFault.{ViewFault}
use Rattle.views.specs.declared.fault.ViewFault.TheVariants as fault
use Rattle.texts.specs.declared.model_file.Mistake.{Mistake}
use Rattle.texts.specs.declared.model_file.ModelFault.{ModelFault}
use Rattle.texts.specs.declared.model_file.ModelFault.TheVariants as file
use Rattle.model.proofs.Worlds.{IsUpto_IsWorld, opening_IsWorld}
use Rattle.model.specs.Meaning.{IsLawful, Meaning}
use Rattle.model.specs.Runner.{Simulation}
use Rattle.model.specs.World.{IsUpto, World, opening}

-- the opening world has a state for each process
pub opening_states : (m : Meaning) (end : ℕ) (s : Simulation) → IsLawful m → s ≡ record { end = end; world = opening m } → length s.world.states ≡ m.lps
opening_states m end s law e = subst (λ s. length s.world.states ≡ m.lps) (sym e) (opening_IsWorld m law).states

-- a run from the opening world to the end is the sequential simulation up to the end
pub upto_end : (m : Meaning) (end : ℕ) (s : Simulation) (new : World) → s ≡ record { end = end; world = opening m }
    → (IsUpto m s.end s.world.time s.world → IsUpto m s.end (max s.world.time (min end s.end)) new) → IsUpto m end 0 s.world → IsUpto m end end new
upto_end m end s new e run start =
    let last : max 0 (min end end) ≡ end = omega arith in
    subst (λ s. (IsUpto m s.end s.world.time s.world → IsUpto m s.end (max s.world.time (min end s.end)) new) → IsUpto m end 0 s.world → IsUpto m end end new) (sym e)
    (λ run start. subst (λ g. IsUpto m end g new) last (run start)) run start

-- such a world has a send number for each state
pub upto_numbers : (m : Meaning) (end : ℕ) (w : World) → IsLawful m → end ≤ 2 ^ 40 → IsUpto m end end w → length w.states ≡ length w.numbers
upto_numbers m end w law few h =
    let is = IsUpto_IsWorld m end end w law few h in
    is.states ∙ sym is.numbers

pub on_ok : {T E A B : Type 0} (r : Result T E) → (A → B) → OnOk r A → OnOk r B
on_ok (Ok x) f h = f h
on_ok (Err e) f h = tt

-- this crate's fault determines the fault that it was made from
pub bad_model : {T : Type 0} (r : Result T ViewFault) (f : ModelFault) → IsErrAnd r (λ e. e ≡ of_model f) → r ≡ Err fault.BadModel
    → (m : Mistake) × (f ≡ file.BadModel m)
bad_model r (file.BadModel m) h k = (m, refl)
bad_model (Ok x) file.NoMemory h k = absurd h
bad_model (Err e) file.NoMemory h k = cc
