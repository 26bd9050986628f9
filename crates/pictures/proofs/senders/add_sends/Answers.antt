use Rattle.std.proofs.Common.{◌-◌, ◌++◌, arith, length, replicate, subst}
use Rattle.pictures.specs.Senders.{IsSender}
use Rattle.pictures.proofs.Running.{sends_added}
use Rattle.pictures.proofs.senders.add_sends.Goals as goal

pub returns : goal.returns
returns c = λ r n pending are same count.
    sends_added r c.args.event.now n pending c.args.senders.now.items c.to.result c.args.sent c.index_mut.result.now c.add.new.self are same c.to.ensures (omega (arith, c.to.ensures)) c.index_mut.ensures.value count
    (λ times is le. subst (λ t. IsSender (times ++ replicate (c.args.sent - length times) t) c.add.new.self) c.time.ensures (c.in_ok-add.ensures.sender times is le)) c.in_ok-add.ensures.found
