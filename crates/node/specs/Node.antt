-- A node at work on its own processes: deliveries, turns, collection. Process lp is at place lp /
-- nodes.
use Rattle.std.specs.Prelude.{ℕ, List, [], ◌∷◌, Option, Some, None, ◌++◌, flat_map, ◌%◌, Bool}
use Rattle.std.specs.Prelude.{nat_eq, if◌then◌else◌, ◌/◌, get_or, ◌+◌, set, map, nat_lt, zero, suc}
use Rattle.std.specs.Prelude.{min}
use Rattle.eventkey.specs.Message.{Message, is_before}
use Rattle.eventkey.specs.Signed.{plus}
use Rattle.eventkey.specs.declared.Signed.{Signed}
use Rattle.model.specs.Meaning.{Meaning}
use Rattle.process.specs.Process.{Process, arrive, fossils_of, handle, handling_of, has_room}
use Rattle.process.specs.Process.{nobody, release, cancelled_sends}
pub use Rattle.queues.specs.Queue.{first_time}
use Rattle.node.specs.declared.Parcel.{Parcel}
use Rattle.node.specs.declared.Reply.{Reply}

-- the most nodes of a run
abbrev pub most_nodes : ℕ
most_nodes = 64

-- the least time of the waiting messages and antimessages of these processes
abbrev pub low_of : List Process → Option ℕ
low_of qs = first_time (flat_map (λ (q : Process). q.waiting ++ q.antis) qs)

-- the lesser of two times, either of which can be missing
abbrev pub earliest : Option ℕ → Option ℕ → Option ℕ
earliest None y = y
earliest (Some x) None = Some x
earliest (Some x) (Some y) = Some (min x y)

-- A node at work: its processes, what it sent so far, and the number of messages that it handled
pub record Work : Type 0 where
  pub processes : List Process
  pub out : List Signed
  pub ran : ℕ

-- process lp is on this node of this number of nodes
abbrev pub sits_on : ℕ → ℕ → ℕ → Bool
sits_on nodes node lp = nat_eq (lp % nodes) node

abbrev pub first : List Message → Option Message
first [] = None
first (x ∷ xs) = Some x

abbrev pub lesser_with : Message → Option Message → Option Message
lesser_with x None = Some x
lesser_with x (Some y) = if is_before y x then Some y else Some x

abbrev pub lesser : Option Message → Option Message → Option Message
lesser None y = y
lesser (Some x) y = lesser_with x y

-- A node handles a parcel: all deliveries in order, then turns up to the budget, then the
-- collection of what is below the floor
abbrev pub start : List Process → Work
start qs = record { processes = qs; out = []; ran = 0 }

abbrev pub here : ℕ → Work → ℕ → Process
here nodes w lp = get_or w.processes (lp / nodes) nobody

abbrev pub deliver_one_here : ℕ → Signed → Work → Work
deliver_one_here nodes s w = record {
  processes = set w.processes (s.message.to / nodes) (arrive s (here nodes w s.message.to));
  out = w.out ++ cancelled_sends s (here nodes w s.message.to);
  ran = w.ran;
}

abbrev pub deliver_here : ℕ → List Signed → Work → Work
deliver_here nodes [] w = w
deliver_here nodes (s ∷ ss) w = deliver_here nodes ss (deliver_one_here nodes s w)

abbrev pub least_of : List Process → Option Message
least_of [] = None
least_of (q ∷ qs) = lesser (first q.waiting) (least_of qs)

abbrev pub run_one_here : Meaning → ℕ → Message → Work → Work
run_one_here m nodes x w = record {
  processes = set w.processes (x.to / nodes) (handle m x.to x (here nodes w x.to));
  out = w.out ++ map plus (handling_of m x.to x (here nodes w x.to)).sent;
  ran = w.ran + 1;
}

abbrev pub turn_here : Meaning → ℕ → ℕ → (Work → Option Work) → Work → Option Message → Option Work
turn_here m end nodes rest w None = Some w
turn_here m end nodes rest w (Some x) = if nat_lt x.time end then
    (if has_room m x (here nodes w x.to) then rest (run_one_here m nodes x w) else None) else Some w

abbrev pub run_here : Meaning → ℕ → ℕ → ℕ → Work → Option Work
run_here m end nodes zero w = Some w
run_here m end nodes (suc budget) w = turn_here m end nodes (λ (v : Work). run_here m end nodes
    budget v) w (least_of w.processes)

-- the work of the node on a parcel before it collects
abbrev pub work_here : Meaning → ℕ → ℕ → Parcel → List Process → Option Work
work_here m end nodes parcel qs = run_here m end nodes parcel.budget
    (deliver_here nodes parcel.deliver (start qs))

abbrev pub reply_of : ℕ → Work → Reply
reply_of floor w = record {
  out = w.out;
  low = low_of w.processes;
  fossils = flat_map
      (λ (q : Process). fossils_of floor q) w.processes;
  ran = w.ran;
}

-- the processes of the node after the collection
abbrev pub released_processes : ℕ → Work → List Process
released_processes floor w = map (λ (q : Process). release floor q) w.processes
