use Rattle.std.proofs.Common.{◌≡◌, drop}
use Rattle.toml.specs.View.{items_view}
use Rattle.texts.specs.Settings.{count_among}
use Rattle.texts.proofs.Counting.{IsSetBehind}
use Rattle.texts.proofs.settings.with_count.Given as goal

abbrev pub invariant-kinds : goal.invariant-kinds
invariant-kinds l = record {
  count : count_among l.name (items_view (drop l.place l.kinds)) ≡ count_among l.name (items_view l.kinds);
  set : IsSetBehind l.name l.text l.place l.kinds;
}
