use Rattle.std.proofs.Common.{◌≡◌, ◌≤◌, ◌+◌, ◌-◌, ◌++◌, length, map, take, vec_len, vec_capacity}
use Rattle.eventkey.specs.Message.{Message}
use Rattle.process.proofs.sends.append.Given as goal

abbrev pub invariant-loop-message : goal.invariant-loop-message
invariant-loop-message l = record {
  done : l.out.items ≡ l.fn.out.items ++ map (λ (m : Message). record { sign = l.sign; message = m }) (take l.message-index l.messages);
  room : vec_len l.out + (length l.messages - l.message-index) ≤ vec_capacity l.out;
}
