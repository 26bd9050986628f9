-- Messages and antimessages (Jefferson 1985).
use Rattle.std.specs.Prelude.{List, [], ◌∷◌}
use Rattle.eventkey.specs.Message.{Message}
use Rattle.eventkey.specs.declared.Sign.{Sign}
use Rattle.eventkey.specs.declared.Sign.TheVariants.{Minus, Plus}
use Rattle.eventkey.specs.declared.Signed.{Signed}

abbrev pub plus : Message → Signed
plus x = record { sign = Plus; message = x }

abbrev pub minus : Message → Signed
minus x = record { sign = Minus; message = x }

-- the messages with this sign, in order
abbrev pub of_sign : Sign → List Signed → List Message
of_sign Plus [] = []
of_sign Plus (s ∷ ss) =
    elim s.sign [ Plus ↦ s.message ∷ of_sign Plus ss | Minus ↦ of_sign Plus ss ]
of_sign Minus [] = []
of_sign Minus (s ∷ ss) =
    elim s.sign [ Plus ↦ of_sign Minus ss | Minus ↦ s.message ∷ of_sign Minus ss ]
