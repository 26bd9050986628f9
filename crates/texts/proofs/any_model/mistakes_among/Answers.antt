use Rattle.models.specs.declared.any_model.AnyModel.{AnyModel}
use Rattle.texts.specs.AnyModel.{IsTableOf, wrong_among}
use Rattle.texts.proofs.KindsRight.{any_right, any_there}
use Rattle.texts.proofs.Right.{none_reported, some_found}
use Rattle.toml.specs.View.{table_view}
use Rattle.texts.proofs.any_model.mistakes_among.Goals as goal

pub returns : goal.returns
returns c =
    let table = table_view c.args.table.now in
    let kinds = c.args.kinds.now in
    record {
      reported = c.mistakes_of.ensures;
      none = none_reported c.mistakes_of.result (wrong_among kinds table) _ c.mistakes_of.ensures (any_there kinds table);
      some = some_found c.mistakes_of.result (wrong_among kinds table) AnyModel (IsTableOf table) c.mistakes_of.ensures (any_right kinds table);
    }
