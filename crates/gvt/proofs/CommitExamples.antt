-- A worked commit: two handlings of a token ring, reported in the other order than they happened.
use Rattle.std.proofs.Common.{◌≡◌, [], ◌∷◌, refl, None}
use Rattle.eventkey.specs.Message.{message_cmp}
use Rattle.model.specs.World.{World}
use Rattle.process.specs.declared.Done.{Done}
use Rattle.process.specs.Process.{Process}
use Rattle.gvt.proofs.Examples.{msg, ring}
use Rattle.gvt.specs.System.{System}
use Rattle.gvt.specs.Moves.{commit, system_after_commit, reported_front}

abbrev still : Process
still = record { done = []; waiting = []; antis = []; state = 0 ∷ []; number = 0 }

-- process 1 handled the message of time 5, and process 2 that of time 7, which process 1 sent
abbrev of_one : Done
of_one = record { message = msg 5 0 0 1 0 1; sent = msg 7 1 0 2 0 2 ∷ []; after = 1 ∷ []; number_after = 1 }

abbrev of_two : Done
of_two = record { message = msg 7 1 0 2 0 2; sent = msg 9 2 0 0 0 3 ∷ []; after = 1 ∷ []; number_after = 1 }

-- process 0 and process 2 are on node 0, process 1 on node 1
abbrev reported : System
reported = record {
  front = record { time = 0; states = (0 ∷ []) ∷ (0 ∷ []) ∷ (0 ∷ []) ∷ []; numbers = 0 ∷ 0 ∷ 0 ∷ []; pending = msg 5 0 0 1 0 1 ∷ []; log = [] };
  gathered = of_two ∷ of_one ∷ [];
  nodes = (record still { waiting = msg 9 2 0 0 0 3 ∷ [] } ∷ record still { state = 1 ∷ []; number = 1 } ∷ []) ∷ (record still { state = 1 ∷ []; number = 1 } ∷ []) ∷ [];
  transit = [];
  parcels = None ∷ None ∷ [];
  floors = 8 ∷ 9 ∷ [];
}

abbrev after_both : World
after_both = record {
  time = 8;
  states = (0 ∷ []) ∷ (1 ∷ []) ∷ (1 ∷ []) ∷ [];
  numbers = 0 ∷ 1 ∷ 1 ∷ [];
  pending = msg 9 2 0 0 0 3 ∷ [];
  log = msg 5 0 0 1 0 1 ∷ msg 7 1 0 2 0 2 ∷ [];
}

by_move : (system_after_commit ring 100 reported).front ≡ after_both
unfolding message_cmp
by_move = refl

by_reports : reported_front 8 reported.gathered reported.front ≡ after_both
unfolding message_cmp
by_reports = refl

-- at an earlier time the first of them alone is committed
abbrev after_one : World
after_one = record {
  time = 6;
  states = (0 ∷ []) ∷ (1 ∷ []) ∷ (0 ∷ []) ∷ [];
  numbers = 0 ∷ 1 ∷ 0 ∷ [];
  pending = msg 7 1 0 2 0 2 ∷ [];
  log = msg 5 0 0 1 0 1 ∷ [];
}

by_commit_of_one : (commit ring 6 reported).front ≡ after_one
unfolding message_cmp
by_commit_of_one = refl

by_reports_of_one : reported_front 6 reported.gathered reported.front ≡ after_one
unfolding message_cmp
by_reports_of_one = refl

left_of_one : (commit ring 6 reported).gathered ≡ of_two ∷ []
left_of_one = refl
