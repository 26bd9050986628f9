-- The least time of what travels, if anything does.
use Rattle.std.specs.Prelude.{ℕ, List, map, Option}
use Rattle.eventkey.specs.declared.Signed.{Signed}
use Rattle.node.specs.Node.{first_time}

-- the least time of these messages and antimessages, if there are any
abbrev pub low_in : List Signed → Option ℕ
low_in ss = first_time (map (λ (s : Signed). s.message) ss)
