use Rattle.process.proofs.ReportBytes.{first_skips, first_within, long_first, long_sends}
use Rattle.process.proofs.encoding.first_length.Goals as goal

pub split_at-requires : goal.split_at-requires
split_at-requires c = long_first c.args.count c.args.bytes.now c.requires.some c.requires.reports

pub split_at-requires-2 : goal.split_at-requires-2
split_at-requires-2 c = long_sends c.args.count c.args.bytes.now c.requires.some c.requires.reports c.split_at.result.1.now c.first_byte.result c.split_at.ensures.back c.first_byte.ensures

pub returns-clause-within : goal.returns-clause-within
returns-clause-within c =
    first_within c.args.count c.args.bytes.now c.requires.some c.requires.reports c.split_at.result.1.now c.first_byte.result c.split_at.ensures.back c.first_byte.ensures c.split_at-2.result.1.now c.first_byte-2.result c.split_at-2.ensures.back c.first_byte-2.ensures

pub returns-clause-skips : goal.returns-clause-skips
returns-clause-skips c =
    first_skips c.args.count c.args.bytes.now c.requires.some c.requires.reports c.split_at.result.1.now c.first_byte.result c.split_at.ensures.back c.first_byte.ensures c.split_at-2.result.1.now c.first_byte-2.result c.split_at-2.ensures.back c.first_byte-2.ensures
