use Rattle.std.proofs.Common.{ap, codes, refl, sym, ◌∙◌, Some}
use Rattle.toml.specs.Data.{get_member}
use Rattle.toml.specs.View.{table_view}
use Rattle.texts.proofs.Tables.{is_string, no_other}
use Rattle.texts.proofs.any_model.model_of.Goals as goal

pub shop_of-requires : goal.shop_of-requires
shop_of-requires c =
    is_string (get_member (codes "model") (table_view c.args.table.now)) (codes "jobshop")
    (ap Some (sym c.in-Some-jobshop.is-jobshop) ∙ c.in-Some-jobshop.ensures)

pub returns-in-Err-shop_of-clause-bad : goal.returns-in-Err-shop_of-clause-bad
returns-in-Err-shop_of-clause-bad c = λ e model end.
    no_other (table_view c.args.table.now) model end
    (is_string (get_member (codes "model") (table_view c.args.table.now)) (codes "jobshop")
    (ap Some (sym c.in-Some-jobshop.is-jobshop) ∙ c.in-Some-jobshop.ensures))
    (c.in-Err-shop_of.ensures.bad refl)
