-- The nodes and the ledger of a system state, as their own crates show them, and the load of a
-- node.
use Rattle.std.specs.Prelude.{false, filter, get_or, map, ℕ, ◌==◌}
use Rattle.eventkey.specs.Message.{Message}
use Rattle.gvt.specs.Ledger.{Ledger}
use Rattle.model.specs.Meaning.{Meaning}
use Rattle.model.specs.World.{World, number_of, state_of}
use Rattle.node.specs.Handling.{Node, own_lps}
use Rattle.node.specs.declared.Load.{Load}
use Rattle.node.specs.declared.Part.{Part}
use Rattle.gvt.specs.System.{System, lows_of, node_of, nodes_of}

-- a node of the system state
abbrev pub node_view : Meaning → ℕ → System → ℕ → Node
node_view m end p node = record {
  node = node;
  nodes = nodes_of p;
  lps = m.lps;
  end = end;
  floor = get_or p.floors node 0;
  spent = false;
  processes = node_of p node;
}

-- the ledger of the system state
abbrev pub ledger_of : ℕ → System → Ledger
ledger_of end p = record {
  end = end;
  transit = p.transit;
  parcels = p.parcels;
  lows = lows_of p;
  floors = p.floors;
}

-- the part of process lp, from a front
abbrev pub part_of : World → ℕ → Part
part_of w lp = record {
  lp = lp;
  number = number_of w lp;
  words = state_of w lp;
  pending = filter (λ (x : Message). x.to == lp) w.pending;
}

-- the load of a node, from a front
abbrev pub load_of : ℕ → ℕ → ℕ → ℕ → World → Load
load_of lps end nodes node w = record {
  node = node;
  nodes = nodes;
  end = end;
  floor = w.time;
  parts = map (part_of w) (own_lps nodes node lps);
}
