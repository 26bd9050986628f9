-- Worked examples of the definitions, by computation: a process, a node and a whole system of a
-- token ring.
use Rattle.std.proofs.Common.{None, ◌≡◌, ℕ, ◌+◌, ◌%◌, List, [], ◌∷◌, refl, get_or, cond, eqb, Some}
use Rattle.eventkey.specs.Message.{Message, message_cmp}
use Rattle.eventkey.specs.Signed.{plus, minus}
use Rattle.model.specs.Meaning.{Meaning}
use Rattle.model.specs.World.{opening}
use Rattle.queues.specs.Record.{sent_in}
use Rattle.queues.specs.Queue.{back}
use Rattle.process.specs.Process.{Process, arrive, fossils_of, handle, queue_of, cancelled_sends}
use Rattle.gvt.specs.System.{System, gvt, opened}
use Rattle.gvt.specs.Moves.{Busy, Commit, Idle, Move, NoSuchPick, Post, Take, after_moves, refusal}

abbrev pub ring : Meaning
ring = record {
  lps = 3;
  identity = 1 ∷ 2 ∷ 1 ∷ [];
  origin = None;
  start_state = λ lp. 0 ∷ [];
  start_sends = λ lp. [];
  next_state = λ lp state x. (get_or state 0 0 + 1) ∷ [];
  sends = λ lp state x. record { to = (lp + 1) % 3; delay = 2; a = x.a; b = x.b + 1; c = x.c; d = x.d } ∷ [];
}

abbrev pub msg : ℕ → ℕ → ℕ → ℕ → ℕ → ℕ → Message
msg time from number to a b = record { time = time; from = from; number = number; to = to; a = a; b = b; c = 0; d = 0 }

abbrev a : Message
a = msg 5 0 1 1 0 1

abbrev early : Message
early = msg 4 2 0 1 7 0

abbrev twin : Message
twin = msg 5 0 1 1 9 1

abbrev idle : Process
idle = record { done = []; waiting = []; antis = []; state = 0 ∷ []; number = 0 }

-- a straggler undoes a handling
abbrev once : Process
once = handle ring 1 a (arrive (plus a) idle)

straggler-sends : sent_in once.done ≡ msg 7 1 0 2 0 2 ∷ []
unfolding message_cmp
straggler-sends = refl

straggler-out : cancelled_sends (plus early) once ≡ minus (msg 7 1 0 2 0 2) ∷ []
unfolding message_cmp
straggler-out = refl

straggler-state : arrive (plus early) once ≡ record { done = []; waiting = early ∷ a ∷ []; antis = []; state = 0 ∷ []; number = 0 }
unfolding message_cmp
straggler-state = refl

abbrev again : Process
again = handle ring 1 a (handle ring 1 early (arrive (plus early) once))

straggler-again_sends : sent_in again.done ≡ msg 6 1 0 2 7 1 ∷ msg 7 1 1 2 0 2 ∷ []
unfolding message_cmp
straggler-again_sends = refl

straggler-again_state : again.state ≡ 2 ∷ []
unfolding message_cmp
straggler-again_state = refl

straggler-again_number : again.number ≡ 2
unfolding message_cmp
straggler-again_number = refl

-- an antimessage that comes first waits, and annihilates with its message
antimessage_first : arrive (minus a) idle ≡ record { done = []; waiting = []; antis = a ∷ []; state = 0 ∷ []; number = 0 }
unfolding message_cmp
antimessage_first = refl

antimessage_first-meets : arrive (plus a) (arrive (minus a) idle) ≡ idle
unfolding message_cmp
antimessage_first-meets = refl

-- an antimessage of a handled message undoes it
antimessage_of_handled : arrive (minus a) once ≡ idle
unfolding message_cmp
antimessage_of_handled = refl

antimessage_of_handled-out : cancelled_sends (minus a) once ≡ minus (msg 7 1 0 2 0 2) ∷ []
unfolding message_cmp
antimessage_of_handled-out = refl

-- messages that differ only in content are two messages
twin-back : back (plus twin) (queue_of once) ≡ 0
unfolding message_cmp
twin-back = refl

twin-antimessage : arrive (minus a) (arrive (plus twin) once) ≡ record { done = []; waiting = twin ∷ []; antis = []; state = 0 ∷ []; number = 0 }
unfolding message_cmp
twin-antimessage = refl

twin-undone : back (minus a) (queue_of (arrive (plus twin) once)) ≡ 1
unfolding message_cmp
twin-undone = refl

-- copies are counted
copies_counted : arrive (minus a) (arrive (plus a) (arrive (plus a) idle)) ≡ arrive (plus a) idle
unfolding message_cmp
copies_counted = refl

-- of two done copies the last is undone
last_copy_undone : arrive (minus a) (handle ring 1 a (handle ring 1 a (arrive (plus a) (arrive (plus a) idle)))) ≡ once
unfolding message_cmp
last_copy_undone = refl

-- a whole run on one node: three rounds of post, take and commit
abbrev token : Meaning
token = record ring { start_sends = λ lp. cond (eqb lp 0) (record { to = lp; delay = 1; a = 0; b = 0; c = 0; d = 0 } ∷ []) [] }

abbrev rounds : List Move
rounds = Post 0 [] 16 ∷ Take 0 ∷ Commit ∷ Post 0 (0 ∷ []) 16 ∷ Take 0 ∷ Commit ∷ Post 0 (0 ∷ []) 16 ∷ Take 0 ∷ Commit ∷ []

abbrev last_system : System
last_system = after_moves token 10 rounds (opened 3 1 (opening token))

run_log : last_system.front.log ≡ msg 1 0 0 0 0 0 ∷ msg 3 0 1 1 0 1 ∷ []
unfolding message_cmp
run_log = refl

run_time : last_system.front.time ≡ 5
unfolding message_cmp
run_time = refl

run_gvt : gvt 10 last_system ≡ 7
unfolding message_cmp
run_gvt = refl

run_states : last_system.front.states ≡ (1 ∷ []) ∷ (1 ∷ []) ∷ (0 ∷ []) ∷ []
unfolding message_cmp
run_states = refl

-- a pick that is not in transit, a pick named twice, and a second post are refused
refused_pick : refusal token 10 (Post 0 (0 ∷ []) 16) (opened 3 1 (opening token)) ≡ Some NoSuchPick
refused_pick = refl

refused_twice : refusal token 10 (Post 0 (0 ∷ 0 ∷ []) 16) last_system ≡ Some NoSuchPick
unfolding message_cmp
refused_twice = refl

refused_busy : refusal token 10 (Post 0 [] 16) (after_moves token 10 (Post 0 [] 16 ∷ []) (opened 3 1 (opening token))) ≡ Some Busy
unfolding message_cmp
refused_busy = refl

refused_idle : refusal token 10 (Take 0) (opened 3 1 (opening token)) ≡ Some Idle
refused_idle = refl

-- the report of the node
reported_fossil : fossils_of 6 once ≡ record { message = a; sent = msg 7 1 0 2 0 2 ∷ []; after = 1 ∷ []; number_after = 1 } ∷ []
unfolding message_cmp
reported_fossil = refl
