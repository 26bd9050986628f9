use Rattle.std.proofs.Common.{◌≡◌, map, take}
use Rattle.toml.specs.View.{view}
use Rattle.texts.proofs.settings.copies.Given as goal

abbrev pub invariant-values : goal.invariant-values
invariant-values l = map view l.all.items ≡ map view (take l.value-index l.values)
