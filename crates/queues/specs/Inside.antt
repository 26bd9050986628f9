-- The queue that contracts see of an `InputQueue`.
use Rattle.queues.specs.Queue.{Queue}
use Rattle.queues.specs.declared.input.InputQueue.TheInside.{Inside}

abbrev pub queue_inside : Inside → Queue
queue_inside q = record { done = q.done.items; waiting = q.waiting; antis = q.antis }
