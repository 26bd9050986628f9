-- What a call that may run out of memory read, if it succeeded.
use Rattle.std.proofs.Common.{◌≡◌, Option, Some, None, Ok, subst}
use Rattle.eventkey.specs.Reading.{Gives}

module _ {X Y : Type 0} (E : Type 0) (seen : X → Y) (read : Option Y) (found : Option X) where
  pub gives_none : Gives {E = E} seen (Ok found) read → found ≡ None → read ≡ None
  gives_none g e = subst (λ (o : Option X). Gives {E = E} seen (Ok o) read) e g

  pub gives_some : (x : X) → Gives {E = E} seen (Ok found) read → found ≡ Some x → read ≡ Some (seen x)
  gives_some x g e = subst (λ (o : Option X). Gives {E = E} seen (Ok o) read) e g
