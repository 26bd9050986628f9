use Rattle.std.proofs.Common.{◌≡◌, drop}
use Rattle.std.specs.List.{list_all}
use Rattle.circuit.specs.Wave.{is_word}
use Rattle.circuit.proofs.waves.are_words.Given as goal

abbrev pub invariant-loop-byte : goal.invariant-loop-byte
invariant-loop-byte l = list_all is_word (drop l.byte-index l.name) ≡ list_all is_word l.name
