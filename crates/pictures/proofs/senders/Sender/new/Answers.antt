use Rattle.pictures.proofs.OnTheWay.{sender_none}
use Rattle.pictures.proofs.senders.Sender.new.Goals as goal

pub returns-clause-sender : goal.returns-clause-sender
returns-clause-sender c = λ times long. sender_none times _ c.new.ensures.items long
