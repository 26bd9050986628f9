use Rattle.gvt.proofs.Openings.{opened_is}
use Rattle.gvt.proofs.Ledger.new.Goals as goal

pub returns-clause-ok : goal.returns-clause-ok
returns-clause-ok c =
    rw c.new.ensures (opened_is c.args.nodes c.args.end c.args.floor c.args.lows.now c.in_ok-opened.field-0.items c.requires c.in_ok-opened.ensures)
