use Rattle.std.proofs.Common.{rules, ◌≡◌, ap, ◌∙◌}
use Rattle.rules.specs.Effects.{Progress}
use Rattle.rules.specs.Rules.{ended, started}
use Rattle.rules.proofs.rules.RulesSimulated.start.Goals as goal

pub returns-clause-state : goal.returns-clause-state
returns-clause-state c =
    let made : Progress = record { context = c.run_all.new.context; drawn = c.run_all.new.drawn; sends = c.run_all.new.sends.items } in
    let same : made ≡ started c.args.self.now.description c.args.lp = search rules in
    c.write.ensures made.sends ∙ ap (ended c.args.self.now.description) same
