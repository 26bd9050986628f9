-- Calls that stopped part of the way.
use Rattle.std.proofs.Common.{◌≡◌, ℕ, ◌<◌, ◌≤◌, min, ◌+◌, List, ◌++◌, length, Option, Result, Ok, Err, inl, inr, sym, subst, arith, length-append}
use Rattle.std.specs.Result.{IsErrAnd}
use Rattle.std.specs.Io.KnownBytes.{Consumes, IsAtEnd}
use Rattle.std.proofs.KnownBytes.{Consumes-trans}
use Rattle.frames.specs.Cutting.{Cut}
use Rattle.frames.specs.Streams.{Comes, GivesFewer, GivesUpTo, IsCutBy, IsWithin, OnBytes}
use Rattle.wire.specs.declared.port.WireFault.{WireFault}
use Rattle.wire.specs.declared.port.WireFault.TheVariants.{Io, NoMemory}

pub min_second : (a b : ℕ) → min a b ≤ b
min_second a b = omega arith

pub more_given : (a b c : Option (List ℕ)) (taken : List ℕ) (n room : ℕ) → Consumes a b taken → GivesUpTo room b c → length taken + room ≤ n → GivesUpTo n a c
more_given a b c taken n room h (more, few, k) le = (taken ++ more, omega (arith, length-append taken more), Consumes-trans a b c taken more h k)

pub fewer_given : (a b c : Option (List ℕ)) (taken more : List ℕ) (n : ℕ) → Consumes a b taken → Consumes b c more → IsAtEnd c → length taken + length more < n → GivesFewer n a c
fewer_given a b c taken more n h k e lt = (taken ++ more, omega (arith, length-append taken more), Consumes-trans a b c taken more h k, e)

module _ {X : Type 0} (seen : X → List ℕ) (n : ℕ) (old new : Option (List ℕ)) where
  pub comes_io : (result : Result (Option X) WireFault) → IsErrAnd result (λ e. e ≡ Io) → GivesUpTo n old new → Comes seen n old new result
  comes_io (Ok x) h some = absurd h
  comes_io (Err fault) h some = (inl h, some)

  pub comes_memory : (result : Result (Option X) WireFault) → IsErrAnd result (λ e. e ≡ NoMemory) → GivesUpTo n old new → Comes seen n old new result
  comes_memory (Ok x) h some = absurd h
  comes_memory (Err fault) h some = (inr h, some)

module _ {X : Type 0} (cut : List ℕ → Cut X) (old new : Option (List ℕ)) where
  pub cut_io : (result : Result (Option X) WireFault) → IsErrAnd result (λ e. e ≡ Io) → OnBytes old new IsWithin → OnBytes old new (IsCutBy cut result)
  cut_io (Ok x) h within = absurd h
  cut_io (Err fault) h within = subst (λ f. OnBytes old new (IsCutBy cut (Err f))) (sym h) within

  pub cut_memory : (result : Result (Option X) WireFault) → IsErrAnd result (λ e. e ≡ NoMemory) → OnBytes old new IsWithin → OnBytes old new (IsCutBy cut result)
  cut_memory (Ok x) h within = absurd h
  cut_memory (Err fault) h within = subst (λ f. OnBytes old new (IsCutBy cut (Err f))) (sym h) within
