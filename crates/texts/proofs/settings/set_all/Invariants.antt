use Rattle.std.proofs.Common.{drop, map}
use Rattle.texts.specs.Settings.{AreSet}
use Rattle.toml.specs.Data.{Members}
use Rattle.toml.specs.View.{table_view}
use Rattle.texts.proofs.settings.set_all.Given as goal

abbrev pub invariant-loop-place : goal.invariant-loop-place
invariant-loop-place l = (after : Members) → AreSet (map (λ s. (s.0.now, s.1.now)) (drop l.place l.settings)) (table_view l.table) after
    → AreSet (map (λ s. (s.0.now, s.1.now)) l.settings) (table_view l.initial.table) after
