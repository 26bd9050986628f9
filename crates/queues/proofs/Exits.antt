-- The facts at an exit, by the result returned there.
use Rattle.std.proofs.Common.{◌≡◌, true, false}
use Rattle.std.proofs.lemmas.Bool.{false≢true, true≢false}
use Rattle.std.specs.Prelude.{Err, Ok, OnErr, OnOk, Result}
use Rattle.std.specs.Result.{is_err}

pub on_err : {X E P : Type 0} (r : Result X E) → P → OnErr r P
on_err (Ok x) p = tt
on_err (Err e) p = p

pub at_err : {X E P : Type 0} (r : Result X E) → OnErr r P → is_err r ≡ true → P
at_err (Ok x) p e = absurd (false≢true e)
at_err (Err x) p e = p

pub at_ok : {X E P : Type 0} (r : Result X E) → OnOk r P → is_err r ≡ false → P
at_ok (Ok x) p e = p
at_ok (Err x) p e = absurd (true≢false e)
