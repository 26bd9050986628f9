use Rattle.std.proofs.Common.{ap, sym, ◌∙◌}
use Rattle.cli.specs.Command.{says_flag}
use Rattle.cli.proofs.Flags.{behind_first, flag_none, none_behind}
use Rattle.cli.proofs.words.says.Goals as goal

pub returns-then-is_empty : goal.returns-then-is_empty
returns-then-is_empty g c = sym (ap (says_flag c.args.flag.now) (none_behind g.S.AsStr.text c.args.words.now (sym c.is_empty.ensures ∙ c.if-is_empty.true)) ∙ flag_none c.args.flag.now)

pub returns : goal.returns
returns g c = c.options_say.ensures ∙ ap (says_flag c.args.flag.now) (behind_first g.S.AsStr.text c.args.words.now)
