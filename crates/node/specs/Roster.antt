-- The roster of a node: its processes, each at its place, and the tournament of their summaries.
use Rattle.std.specs.List.{AllByRecursion as Every}
use Rattle.std.specs.Prelude.{ℕ, Bool, false, List, [], Some, None, map, if◌then◌else◌, ◌≡◌, ◌≤◌}
use Rattle.std.specs.Prelude.{◌<◌, ◌⊎◌, ◌^◌}
use Rattle.eventkey.specs.Message.{Message}
use Rattle.eventkey.specs.declared.Signed.{Signed}
use Rattle.process.specs.Process.{Process}
use Rattle.process.specs.Consistent.{IsHistory}
use Rattle.queues.specs.Record.{messages}
use Rattle.model.specs.Meaning.{Meaning}
use Rattle.node.specs.Handling.{Node, after, own_lps}
use Rattle.node.specs.declared.NodeFault.{NodeFault}
use Rattle.node.specs.declared.NodeFault.TheVariants.{NoMemory, NumberLimit}
use Rattle.node.specs.declared.Parcel.{Parcel}
use Rattle.node.specs.declared.Reply.{Reply}
use Rattle.process.specs.View.{ProcessView}
use Rattle.node.specs.Node.{Work, reply_of, work_here}
use Rattle.node.specs.Seats.{standings_of}
use Rattle.node.specs.declared.summary.Summary.{Summary}
use Rattle.node.specs.declared.roster.Roster.{Roster}

-- the parts of a roster that do not change while a node works
pub record Place : Type 0 where
  pub node : ℕ
  pub nodes : ℕ
  pub lps : ℕ
  pub end : ℕ
  pub floor : ℕ

abbrev pub place_of : Roster → Place
place_of r = record { node = r.node; nodes = r.nodes; lps = r.lps; end = r.end; floor = r.floor }

-- the same with another floor
abbrev pub at_floor : ℕ → Place → Place
at_floor floor p = record {
  node = p.node;
  nodes = p.nodes;
  lps = p.lps;
  end = p.end;
  floor = floor;
}

abbrev pub processes_of : List ProcessView → List Process
processes_of seats = map (λ (q : ProcessView). q.process) seats

abbrev pub lps_of : List ProcessView → List ℕ
lps_of seats = map (λ (q : ProcessView). q.lp) seats

-- a process of a node that is not spent: its floor is that of the node when it last released
-- something
pub record IsSeated (floor : ℕ) (q : ProcessView) : Type 0 where
  pub from_floor : q.floor ≤ floor
  pub unspent : q.spent ≡ false
  pub own_done : Every (λ (x : Message). x.to ≡ q.lp) (messages q.process.done)
  pub own_waiting : Every (λ (x : Message). x.to ≡ q.lp) q.process.waiting

-- a process of the model whose handlings are what the model does
pub record IsModelled (m : Meaning) (q : ProcessView) : Type 0 where
  pub there : q.lp < m.lps
  pub history : IsHistory m q.lp q.process

-- the processes of a node that is not spent, with their summaries
pub record IsStaffed (p : Place) (seats : List ProcessView) (summaries : List Summary) :
    Type 0 where
  pub node : p.node < p.nodes
  pub end : p.end ≤ 2 ^ 40
  pub lps : lps_of seats ≡ own_lps p.nodes p.node p.lps
  pub seated : Every (IsSeated p.floor) seats
  pub known : summaries ≡ standings_of p.end seats

abbrev pub IsReady : Roster → Type 0
IsReady r = IsStaffed (place_of r) r.processes.items r.summaries

-- the work that a roster represents
abbrev pub work_of : Roster → List Signed → ℕ → Work
work_of r out ran = record { processes = processes_of r.processes.items; out = out; ran = ran }

-- the node that contracts see; they see no process of a node that is spent
abbrev pub node_of_roster : Bool → Roster → Node
node_of_roster spent r = record {
  node = r.node;
  nodes = r.nodes;
  lps = r.lps;
  end = r.end;
  floor = r.floor;
  spent = spent;
  processes = if spent then [] else processes_of
      r.processes.items;
}

-- the reply to a parcel that is not refused, and the node after it
pub record IsWorked (m : Meaning) (parcel : Parcel) (old new : Node) (reply : Reply) : Type 0 where
  pub work : Work
  pub done : work_here m old.end old.nodes parcel old.processes ≡ Some work
  pub reply_is : reply ≡ reply_of parcel.floor work
  pub node_is : new ≡ after parcel.floor work old

-- a parcel that is not refused fails: an allocation failed, or a send number would pass its limit
abbrev pub Fails : Meaning → Parcel → Node → NodeFault → Type 0
Fails m parcel old fault = (fault ≡ NoMemory) ⊎ ((fault ≡ NumberLimit)
    × (work_here m old.end old.nodes parcel old.processes ≡ None))
