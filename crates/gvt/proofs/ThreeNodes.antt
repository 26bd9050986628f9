-- A session of three nodes, by computation: a token ring of three processes, one on each node, hold
-- 2, two tokens, end 10. A straggler comes to node 2, which rolls back and cancels what it sent,
-- and what no rollback reaches is committed.
use Rattle.std.proofs.Common.{◌≡◌, List, [], ◌∷◌, None, Option, Some, refl, cond, nat_lt}
use Rattle.std.specs.Prelude.{unwrap_or}
use Rattle.eventkey.specs.Message.{Message, message_cmp}
use Rattle.eventkey.specs.Signed.{minus, plus}
use Rattle.eventkey.specs.declared.Signed.{Signed}
use Rattle.gvt.specs.Ledger.{ledger_floor}
use Rattle.model.specs.Meaning.{Meaning}
use Rattle.model.specs.World.{opening}
use Rattle.gvt.proofs.Examples.{msg, ring}
use Rattle.gvt.specs.declared.Answer.{Answer}
use Rattle.gvt.specs.declared.Answer.TheVariants.{Committed, Posted, Taken}
use Rattle.gvt.specs.Moves.{Commit, Move, Post, Take, answer_of, move, moves_made}
use Rattle.gvt.specs.System.{System, opened}

-- process 0 sends itself token 0, and process 1 token 1
abbrev two_tokens : Meaning
two_tokens = record ring { start_sends = λ lp. cond (nat_lt lp 2) (record { to = lp; delay = 1; a = lp; b = 0; c = 0; d = 0 } ∷ []) [] }

-- the answer of a move, and what is then in transit
record Row : Type 0 where
  answer : Answer
  transit : List Signed

abbrev row : Answer → List Signed → Option Row
row answer transit = Some (record { answer = answer; transit = transit })

abbrev row_of : Option Answer → System → Option Row
row_of None p = None
row_of (Some answer) p = Some (record { answer = answer; transit = p.transit })

abbrev next : Move → System → System
next k p = unwrap_or (move two_tokens 10 k p) p

abbrev rows : List Move → System → List (Option Row)
rows [] p = []
rows (k ∷ ks) p = row_of (answer_of two_tokens 10 k p) (next k p) ∷ rows ks (next k p)

abbrev thirteen : List Move
thirteen =
    Post 0 [] 1
    ∷ Take 0
    ∷ Post 1 [] 1
    ∷ Take 1
    ∷ Post 1 (0 ∷ []) 1
    ∷ Take 1
    ∷ Post 2 (1 ∷ []) 1
    ∷ Take 2
    ∷ Post 2 (0 ∷ []) 2
    ∷ Take 2
    ∷ Post 0 (1 ∷ 0 ∷ []) 0
    ∷ Take 0
    ∷ Commit
    ∷ []

-- the messages under way, each named by its time and its sender
abbrev three_from_zero : Signed
three_from_zero = plus (msg 3 0 1 1 0 1)

abbrev three_from_one : Signed
three_from_one = plus (msg 3 1 1 2 1 1)

abbrev five_from_one : Signed
five_from_one = plus (msg 5 1 2 2 0 2)

abbrev seven_from_two : Message
seven_from_two = msg 7 2 0 0 0 3

abbrev five_from_two : Signed
five_from_two = plus (msg 5 2 0 0 1 2)

abbrev seven_again : Signed
seven_again = plus (msg 7 2 1 0 0 3)

thirteen_rows : rows thirteen (opened 3 3 (opening two_tokens))
    ≡ row (Posted 1) []
    ∷ row (Taken 1 1 0) (three_from_zero ∷ [])
    ∷ row (Posted 1) (three_from_zero ∷ [])
    ∷ row (Taken 1 1 0) (three_from_zero ∷ three_from_one ∷ [])
    ∷ row (Posted 3) (three_from_one ∷ [])
    ∷ row (Taken 1 1 1) (three_from_one ∷ five_from_one ∷ [])
    ∷ row (Posted 3) (three_from_one ∷ [])
    ∷ row (Taken 1 1 0) (three_from_one ∷ plus seven_from_two ∷ [])
    ∷ row (Posted 3) (plus seven_from_two ∷ [])
    ∷ row (Taken 2 3 0) (plus seven_from_two ∷ minus seven_from_two ∷ five_from_two ∷ seven_again ∷ [])
    ∷ row (Posted 5) (five_from_two ∷ seven_again ∷ [])
    ∷ row (Taken 0 0 1) (five_from_two ∷ seven_again ∷ [])
    ∷ row (Committed 3 2) (five_from_two ∷ seven_again ∷ [])
    ∷ []
unfolding message_cmp
thirteen_rows = refl

-- none of them is refused, and the log has the two tokens
abbrev log_of : Option System → List Message
log_of None = []
log_of (Some p) = p.front.log

thirteen_log : log_of (moves_made two_tokens 10 thirteen (opened 3 3 (opening two_tokens))) ≡ msg 1 0 0 0 0 0 ∷ msg 1 1 0 1 1 0 ∷ []
unfolding message_cmp
thirteen_log = refl

-- The floor of a ledger counts an antimessage in transit, and the messages of a posted parcel.
floor_of_transit : ledger_floor 10 (minus (msg 3 0 0 1 0 0) ∷ []) (None ∷ None ∷ []) (Some 5 ∷ Some 5 ∷ []) ≡ 3
floor_of_transit = refl

floor_of_parcel : ledger_floor 10 [] (Some (record { deliver = plus (msg 4 0 0 1 0 0) ∷ []; budget = 1; floor = 0 }) ∷ None ∷ []) (Some 6 ∷ Some 8 ∷ []) ≡ 4
floor_of_parcel = refl
