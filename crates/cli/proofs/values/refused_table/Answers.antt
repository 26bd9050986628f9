use Rattle.std.proofs.Common.{codes, refl, None, sym, ◌∙◌, ◌≡◌}
use Rattle.cli.specs.Command.{table_named}
use Rattle.cli.specs.declared.command.StatsTable.TheVariants as table
use Rattle.cli.proofs.Readings.{none_there, not_named}
use Rattle.cli.proofs.values.refused_table.Goals as goal

pub no_value-requires : goal.no_value-requires
no_value-requires c =
    let text = c.in-Some.text.now in
    let none : table_named text ≡ None = sym c.table_named.ensures ∙ none_there c.table_named.result c.if-is_none.ensures in
    rw (
      not_named text (codes "summary") table.Summary refl none,
      not_named text (codes "spreads") table.Spreads refl none,
      not_named text (codes "busiest") table.Busiest refl none,
      not_named text (codes "totals") table.Totals refl none,
      not_named text (codes "processes") table.Processes refl none,
      not_named text (codes "kinds") table.Kinds refl none,
      not_named text (codes "overall") table.Overall refl none,
      not_named text (codes "words") table.Words refl none,
    ) refl
