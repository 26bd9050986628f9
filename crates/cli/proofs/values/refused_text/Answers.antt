use Rattle.cli.proofs.Readings.{first_kind}
use Rattle.cli.proofs.values.refused_text.Goals as goal

pub returns-in-Some : goal.returns-in-Some
returns-in-Some c = first_kind _ _ c.in-Some.error c.in-Some.ensures
