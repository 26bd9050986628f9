use Rattle.process.proofs.ReportBytes.{written}
use Rattle.process.proofs.encoding.append_parts.Goals as goal

pub returns-clause-ok : goal.returns-clause-ok
returns-clause-ok c =
    written c.append_number.result _ _ _ _ _ _ (record { message = c.args.message.now; sent = c.args.sent.now; after = c.args.after.now; number_after = c.args.number_after }) c.in_ok-append_message.ensures.ok c.in_ok-append_short_count.ensures.ok
    c.in_ok-append_messages.ensures.ok c.in_ok-append_words.ensures.ok c.append_number.ensures.ok
