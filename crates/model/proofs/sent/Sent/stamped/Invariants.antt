use Rattle.std.proofs.Common.{◌≡◌, ◌+◌, ◌++◌, drop}
use Rattle.model.specs.Meaning.{stamp}
use Rattle.model.proofs.sent.Sent.stamped.Given as goal

abbrev pub invariant-loop-outgoing : goal.invariant-loop-outgoing
invariant-loop-outgoing l = record {
  next : l.next ≡ l.number + l.outgoing-index;
  rest : l.messages.items ++ stamp l.lp l.time l.next (drop l.outgoing-index l.sends) ≡ stamp l.lp l.time l.number l.sends;
}
