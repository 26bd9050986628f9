use Rattle.std.proofs.Common.{◌∙◌}
use Rattle.clap.specs.Words.{found_of}
use Rattle.clap.proofs.WalkLemmas.{one_text-rows}
use Rattle.cli.proofs.values.is_flagged.Goals as goal

pub returns : goal.returns
returns c =
    let read = one_text-rows (found_of c.args.values.now) c.args.id.now in
    record {
      used = λ is. c.get_flag.ensures.value (read ∙ is);
      unused = λ is. c.get_flag.ensures.other (read ∙ is);
      unread = λ is. c.get_flag.ensures.none (read ∙ is);
    }
