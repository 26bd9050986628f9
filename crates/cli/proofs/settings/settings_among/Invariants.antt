use Rattle.std.proofs.Common.{◌≡◌, ◌++◌, [], map, drop}
use Rattle.cli.specs.Command.{settings_after}
use denote.Shadow.{shadow}
use denote.Text.{Utf8}
use Rattle.cli.proofs.settings.settings_among.Given as goal

abbrev pub invariant-loop-word : goal.invariant-loop-word
invariant-loop-word g l = record {
  text : shadow (Utf8 l.before);
  done : map (λ s. (s.0.now, s.1.now)) l.set.items ++ settings_after l.before (map g.S.AsStr.text (drop l.word-index l.words)) ≡ settings_after [] (map g.S.AsStr.text l.words);
}
