use Rattle.std.proofs.Common.{◌≡◌, ◌≤◌, drop, length}
use Rattle.rule_files.specs.Arrays.{no_state, state_view}
use Rattle.rule_files.specs.RuleFile.{state_behind}
use Rattle.toml.specs.View.{items_view}
use Rattle.rule_files.proofs.entries.state_among.Given as goal

abbrev pub invariant-items : goal.invariant-items
invariant-items l = record {
  rest : state_behind (state_view l.state) (items_view (drop l.item-index l.items)) ≡ state_behind no_state (items_view l.items);
  few : length l.state.words.items ≤ 16;
}
