use Rattle.std.proofs.Common.{◌≡◌, map, string_bytes}
use Rattle.rule_files.specs.Digest.{state_words}
use Rattle.rule_files.proofs.kind_rules.state_words.Given as goal

abbrev pub invariant-places : goal.invariant-places
invariant-places l = map string_bytes l.words.items ≡ state_words l.keyed l.place
