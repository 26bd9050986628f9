use Rattle.std.proofs.Common.{◌≡◌, map, drop}
use Rattle.cli.specs.Command.{says_flag}
use Rattle.cli.proofs.words.options_say.Given as goal

abbrev pub invariant-loop-word : goal.invariant-loop-word
invariant-loop-word g l =
    says_flag l.fn.flag (map g.S.AsStr.text l.fn.words) ≡ says_flag l.fn.flag (map g.S.AsStr.text (drop l.word-index l.words))
