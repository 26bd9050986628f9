use Rattle.process.proofs.ReportBytes.{done_fits, words_fit}
use Rattle.process.proofs.reports.parts_ranged.Goals as goal

pub returns : goal.returns
returns c =
    done_fits (record { message = c.args.message.now; sent = c.args.sent.now; after = c.args.after.now; number_after = c.args.number_after }) c.ranged.ensures c.messages_ranged.ensures (words_fit c.args.after.now c.ranged-2.ensures)
