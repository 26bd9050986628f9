use Rattle.frames.proofs.Sending.{AreSentSoFar}
use Rattle.frames.proofs.judging.sends.are_sent.Given as goal

abbrev pub invariant-sends : goal.invariant-sends
invariant-sends l = AreSentSoFar l.lp l.time l.number l.sends l.sent l.place l.next
