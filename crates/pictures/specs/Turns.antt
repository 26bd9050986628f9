-- The trace of a run: a line of names, then a row for each turn of a node.
use Rattle.std.specs.Prelude.{List, ℕ, [], ◌∷◌, ◌++◌, flat_map}
use Rattle.pictures.specs.Filled.{filled}
use Rattle.pictures.specs.declared.turns.Row.{Row}
use Rattle.pictures.specs.declared.turns.TheConstants.{TRACE_HEAD, TURN}

-- the line of a row: its numbers, separated by commas
abbrev pub turn_text : Row → List ℕ
turn_text r = filled TURN.now
    (r.round ∷ r.node ∷ r.budget ∷ r.gvt ∷ r.delivered ∷ r.antimessages ∷ r.handled ∷ r.sent
    ∷ r.reported ∷ r.committed ∷ r.events ∷ [])

abbrev pub trace_text : List Row → List ℕ
trace_text rows = TRACE_HEAD.now ++ flat_map turn_text rows
