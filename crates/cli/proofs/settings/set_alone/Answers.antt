use Rattle.std.proofs.Common.{None, arith, refl}
use Rattle.std.proofs.lemmas.Str.Pattern.{split_parts}
use Rattle.clap.proofs.CutLemmas.{list_any-Lacks}
use Rattle.cli.proofs.settings.set_alone.Goals as goal

pub returns-in_err-option : goal.returns-in_err-option
returns-in_err-option c =
    let none = list_any-Lacks 61 c.args.word.now (split_parts 61 c.args.word.now None c.in_err-option.ensures.cases (omega (arith))) in
    rw (c.from_residual.ensures, none) refl
