use Rattle.std.proofs.Common.{rules, ◌≡◌, ap, ◌∙◌}
use Rattle.rules.specs.Effects.{Progress}
use Rattle.rules.specs.Rules.{ended, handled}
use Rattle.rules.proofs.rules.RulesSimulated.handle_into.Goals as goal

pub returns-clause-state : goal.returns-clause-state
returns-clause-state c =
    let made : Progress = record { context = c.run_all.new.context; drawn = c.run_all.new.drawn; sends = c.run_all.new.sends.items } in
    let same : made ≡ handled c.args.self.now.description c.args.lp c.args.state.now.items c.args.message.now = search rules in
    c.write.ensures made.sends ∙ ap (ended c.args.self.now.description) same
