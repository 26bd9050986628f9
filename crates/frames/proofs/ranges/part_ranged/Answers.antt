use Rattle.std.proofs.Common.{ℕ, ◌<◌, ◌^◌, ◌∙◌, arith, subst}
use Rattle.std.specs.List.{All, AllByRecursion as Every}
use Rattle.eventkey.specs.Message.{IsRanged}
use Rattle.process.proofs.ReportBytes.{words_fit}
use Rattle.frames.proofs.Counts.{part_fits}
use Rattle.frames.proofs.ranges.part_ranged.Goals as goal

pub returns : goal.returns
returns c =
    part_fits c.args.part.now (omega arith) (words_fit c.args.part.now.words (subst (All (λ (w : ℕ). w < 2 ^ 64)) c.as_slice.ensures c.ranged.ensures))
    (subst (Every IsRanged) c.as_slice-2.ensures c.messages_ranged.ensures)
