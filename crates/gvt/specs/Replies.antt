-- The processes that the reply of a node may name: processes that exist, and in its reports only
-- the node's own.
use Rattle.std.specs.List.{list_all}
use Rattle.std.specs.Prelude.{Bool, nat_lt, ℕ, ◌&&◌}
use Rattle.eventkey.specs.Message.{Message}
use Rattle.eventkey.specs.declared.Signed.{Signed}
use Rattle.node.specs.Node.{sits_on}
use Rattle.node.specs.declared.Reply.{Reply}
use Rattle.process.specs.declared.Done.{Done}

-- this handling is of a process of the node, and its sends are for processes that exist
abbrev pub is_reported_there : ℕ → ℕ → ℕ → Done → Bool
is_reported_there lps nodes node d =
    (nat_lt d.message.to lps && sits_on nodes node d.message.to)
    && list_all (λ (x : Message). nat_lt x.to lps) d.sent

-- all processes that the reply names exist, and the reported handlings are of the node's own
-- processes
abbrev pub names_there : ℕ → ℕ → ℕ → Reply → Bool
names_there lps nodes node reply =
    list_all (λ (s : Signed). nat_lt s.message.to lps) reply.out
    && list_all (is_reported_there lps nodes node) reply.fossils
