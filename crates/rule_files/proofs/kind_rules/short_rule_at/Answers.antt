use Rattle.std.proofs.Common.{◌≤◌, ◌<◌, rules, arith, sym, ◌∙◌}
use Rattle.toml.specs.View.{table_view}
use Rattle.rules.specs.Costs.{cost_of_all}
use Rattle.rules.specs.declared.limits.Limit.TheVariants.{Steps}
use Rattle.rule_files.specs.Reading.{MOST_STEPS}
use Rattle.rule_files.specs.RuleFile.{parts_view}
use Rattle.rule_files.proofs.Seam.{no_short, not_under, short_fits, under}
use Rattle.rule_files.proofs.kind_rules.short_rule_at.Goals as goal

pub returns-then-block_cost-le-MOST_KIND_STEPS-clause-fits : goal.returns-then-block_cost-le-MOST_KIND_STEPS-clause-fits
returns-then-block_cost-le-MOST_KIND_STEPS-clause-fits c =
    let short : cost_of_all Steps c.in-Ok.rule.items ≤ MOST_STEPS = search rules in
    sym (short_fits (parts_view c.args.scope.now) c.args.key.now (table_view c.args.table.now) c.in-Ok.rule.items (rw c.in-Ok.is at c.in_ok-rule.ensures.some) (rw c.in-Ok.is at c.in_ok-rule.ensures.within)
    ∙ under (cost_of_all Steps c.in-Ok.rule.items) MOST_STEPS short)

pub returns-else-block_cost-le-MOST_KIND_STEPS-clause-fits : goal.returns-else-block_cost-le-MOST_KIND_STEPS-clause-fits
returns-else-block_cost-le-MOST_KIND_STEPS-clause-fits c =
    let long : MOST_STEPS < cost_of_all Steps c.in-Ok.rule.items = search rules in
    sym (short_fits (parts_view c.args.scope.now) c.args.key.now (table_view c.args.table.now) c.in-Ok.rule.items (rw c.in-Ok.is at c.in_ok-rule.ensures.some) (rw c.in-Ok.is at c.in_ok-rule.ensures.within)
    ∙ not_under (cost_of_all Steps c.in-Ok.rule.items) MOST_STEPS (λ h. omega (arith, h, long)))

pub returns-in-Err-clause-fits : goal.returns-in-Err-clause-fits
returns-in-Err-clause-fits c = sym (no_short (parts_view c.args.scope.now) c.args.key.now (table_view c.args.table.now) (sym (rw c.in-Err.is at c.in_ok-rule.ensures.fits)))
