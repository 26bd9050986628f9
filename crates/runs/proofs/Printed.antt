-- What the commands print, write by write.
use Rattle.std.proofs.Common.{sym}
use Rattle.std.specs.Prelude.{◌≡◌, ◌<◌, ◌≤◌, ◌+◌, ◌++◌, ℕ, List, drop, flat_map, length}
use Rattle.runs.specs.Commands.{node_text}
use Rattle.model.specs.World.{below}
use Rattle.model.proofs.Worlds.{get_or-below, length-below}
use Rattle.texts.proofs.Written.{flat_map-at, none_left}

module _ (ran : List ℕ) where
  -- the text of the nodes from one on begins with the line of that node
  pub node_next : (node : ℕ) → node < length ran
      → flat_map (node_text ran) (drop node (below (length ran))) ≡ node_text ran node ++ flat_map (node_text ran) (drop (node + 1) (below (length ran)))
  node_next node inside =
      let there : node < length (below (length ran)) = rw (length-below (length ran)) inside in
      flat_map-at (node_text ran) (below (length ran)) node node there (sym (get_or-below (length ran) node node inside))

  pub nodes_done : (node : ℕ) → length ran ≤ node → length (flat_map (node_text ran) (drop node (below (length ran)))) ≡ 0
  nodes_done node late = none_left (node_text ran) (below (length ran)) node (rw (length-below (length ran)) late)
