use Rattle.std.proofs.Common.{◌∙◌}
use Rattle.clap.specs.Words.{found_of, rows_of}
use Rattle.clap.specs.Walk.{first_of}
use Rattle.clap.proofs.WalkLemmas.{first_value-rows}
use Rattle.cli.proofs.Lines.{number_if_some, number_if_none}
use Rattle.cli.proofs.values.optional_number.Goals as goal

pub returns-in-Some-clause-value : goal.returns-in-Some-clause-value
returns-in-Some-clause-value c =
    number_if_some _ _ _ c.get_str.result c.in-Some.field-0 (first_of c.args.id.now (rows_of (found_of c.args.values.now)))
    (c.get_str.ensures ∙ first_value-rows (found_of c.args.values.now) c.args.id.now) c.in-Some.is c.number.ensures.value

pub returns-in-None-clause-value : goal.returns-in-None-clause-value
returns-in-None-clause-value c =
    number_if_none _ _ c.get_str.result (first_of c.args.id.now (rows_of (found_of c.args.values.now)))
    (c.get_str.ensures ∙ first_value-rows (found_of c.args.values.now) c.args.id.now) c.in-None.is
