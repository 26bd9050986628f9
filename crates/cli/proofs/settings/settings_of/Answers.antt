use Rattle.std.proofs.Common.{ap, drop, map, sym, [], ◌≡◌, ◌∙◌}
use Rattle.cli.specs.Command.{settings_after}
use Rattle.cli.proofs.Flags.{behind_first, none_behind}
use Rattle.cli.proofs.Givens.{set_none}
use Rattle.cli.proofs.settings.settings_of.Goals as goal

pub returns-then-is_empty : goal.returns-then-is_empty
returns-then-is_empty g c =
    let none : settings_after [] (drop 1 (map g.S.AsStr.text c.args.words.now)) ≡ [] = ap (settings_after []) (none_behind g.S.AsStr.text c.args.words.now (sym c.is_empty.ensures ∙ c.if-is_empty.true)) ∙ set_none [] in
    rw (c.new.ensures.items) (sym none)
