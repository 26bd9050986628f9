-- The served text: what a node's loop writes and returns, as one function
-- of the model, the limit, the bytes, and the turns at which memory is refused.
use Rattle.std.specs.Prelude.{ℕ, zero, suc, ◌+◌, Bool, if◌then◌else◌, List, [], ◌++◌}
use Rattle.std.specs.Prelude.{Option, Some, None, Result, Ok, Err}
use Rattle.model.specs.Meaning.{Meaning}
use Rattle.node.specs.Handling.{Node}
use Rattle.frames.specs.Cutting.{cut}
use Rattle.frames.specs.declared.stream.Raw.{Raw}
use Rattle.frames.specs.Reactions.{begun, reaction}
use Rattle.frames.specs.declared.reaction.Begun.{Begun}
use Rattle.frames.specs.declared.reaction.Begun.TheVariants.{Loaded, Refused}
use Rattle.frames.specs.declared.reaction.Response.{Response}
use Rattle.wire.specs.declared.port.WireFault.{WireFault}

-- 1. One turn of the loop

-- what is written; the node with which the loop goes on (none if it ends here), or the fault; and
-- the bytes after the frame
pub record Turn : Type 0 where
  pub text : List ℕ
  pub result : Result (Option Node) WireFault
  pub rest : List ℕ

abbrev pub stops : List ℕ → WireFault → Turn
stops rest fault = record { text = []; result = Err fault; rest = rest }

abbrev pub ends : List ℕ → List ℕ → Turn
ends rest text = record { text = text; result = Ok None; rest = rest }

abbrev pub goes_on : List ℕ → List ℕ → Node → Turn
goes_on rest text n = record { text = text; result = Ok (Some n); rest = rest }

abbrev pub turn_to : List ℕ → Node → Result Response WireFault → Turn
turn_to rest n (Ok r) = if r.goes_on then goes_on rest r.frame n else ends rest r.frame
turn_to rest n (Err fault) = stops rest fault

abbrev pub begun_to : List ℕ → Result Begun WireFault → Turn
begun_to rest (Ok (Loaded n)) = goes_on rest [] n
begun_to rest (Ok (Refused text)) = ends rest text
begun_to rest (Err fault) = stops rest fault

-- the loop ends if the stream has ended between frames
abbrev pub on_found : List ℕ → (Raw → Turn) → Result (Option Raw) WireFault → Turn
on_found rest next (Ok (Some raw)) = next raw
on_found rest next (Ok None) = ends rest []
on_found rest next (Err fault) = stops rest fault

abbrev pub load_turn : Bool → ℕ → List ℕ → Raw → Turn
load_turn lacks lps rest raw = begun_to rest (begun lacks lps raw)

abbrev pub parcel_turn : Bool → Meaning → Node → List ℕ → Raw → Turn
parcel_turn lacks m n rest raw =
    turn_to rest (reaction lacks m n raw).node (reaction lacks m n raw).response

unfoldable pub first_turn : Bool → ℕ → List ℕ → Turn
first_turn lacks lps bytes =
    on_found (cut bytes).rest (load_turn lacks lps (cut bytes).rest) (cut bytes).found

unfoldable pub next_turn : Bool → Meaning → Node → List ℕ → Turn
next_turn lacks m n bytes =
    on_found (cut bytes).rest (parcel_turn lacks m n (cut bytes).rest) (cut bytes).found

-- 2. All turns

-- what is written, the result (the number of replies, or a fault), and the bytes that are not read
pub record Served : Type 0 where
  pub text : List ℕ
  pub result : Result ℕ WireFault
  pub rest : List ℕ

abbrev pub plus : ℕ → Result ℕ WireFault → Result ℕ WireFault
plus k (Ok n) = Ok (k + n)
plus k (Err fault) = Err fault

-- the same, after `text` was written and `k` replies were counted
abbrev pub behind : List ℕ → ℕ → Served → Served
behind text k s = record { text = text ++ s.text; result = plus k s.result; rest = s.rest }

-- a turn, and what follows it if the loop goes on
abbrev pub then_on : (List ℕ → Node → List ℕ → Served) → List ℕ → List ℕ →
    Result (Option Node) WireFault → Served
then_on next text rest (Ok (Some n)) = next text n rest
then_on next text rest (Ok None) = record { text = text; result = Ok 0; rest = rest }
then_on next text rest (Err fault) = record { text = text; result = Err fault; rest = rest }

abbrev pub after_turn : (List ℕ → Node → List ℕ → Served) → Turn → Served
after_turn next t = then_on next t.text t.rest t.result

-- the turns at which the node is refused memory; the load's is turn 0
abbrev pub Lacks : Type 0
Lacks = ℕ → Bool

abbrev pub later : Lacks → Lacks
later lacks turn = lacks (suc turn)

-- at most `limit` parcels, starting with this node
unfoldable pub served_from : Meaning → Lacks → ℕ → Node → List ℕ → Served
served_from m lacks zero n bytes = record { text = []; result = Ok 0; rest = bytes }
served_from m lacks (suc limit) n bytes =
    after_turn (λ text v rest. behind text 1 (served_from m (later lacks) limit v rest))
    (next_turn (lacks 0) m n bytes)

-- first the load, then the parcels
unfoldable pub served : Meaning → Lacks → ℕ → List ℕ → Served
served m lacks limit bytes =
    after_turn (λ text v rest. served_from m (later lacks) limit v rest)
    (first_turn (lacks 0) m.lps bytes)
