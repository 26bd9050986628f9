use Rattle.std.proofs.Common.{◌≡◌, map, drop}
use Rattle.texts.specs.ModelFile.{is_among}
use Rattle.texts.proofs.findings.is_among.Given as goal

abbrev pub invariant-loop-known : goal.invariant-loop-known
invariant-loop-known l = is_among l.key (map (λ k. k.now) (drop l.known-index l.keys)) ≡ is_among l.key (map (λ k. k.now) l.keys)
