use Rattle.std.proofs.Common.{◌≡◌, map}
use Rattle.texts.specs.ModelFile.{unknown_wrong}
use Rattle.toml.specs.View.{members_view}
use Rattle.texts.proofs.model_file.only.Given as goal

abbrev pub invariant-keys : goal.invariant-keys
invariant-keys l = unknown_wrong (map (λ k. k.now) l.keys) (members_view l.key-iterator)
    ≡ unknown_wrong (map (λ k. k.now) l.keys) (members_view l.table.entries)
