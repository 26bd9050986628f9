-- The process that contracts see: its queue and its history in one record.
use Rattle.std.specs.Prelude.{◌≡◌, false}
use Rattle.queues.specs.Record.{messages}
use Rattle.process.specs.View.{IsSound, ProcessView}
use Rattle.process.specs.declared.logical.Process.TheInside.{Inside}

abbrev pub view_of : Inside → ProcessView
view_of p = record {
  lp = p.lp;
  floor = p.floor;
  spent = p.spent;
  process = record {
    done = p.history.done;
    waiting = p.queue.waiting;
    antis = p.queue.antis;
    state = p.history.state;
    number = p.history.number;
  };
}

-- a process that is not spent is sound, and its queue and its history have the same done messages
abbrev pub IsWholeProcess : Inside → Type 0
IsWholeProcess p = p.spent ≡ false → (p.queue.done ≡ messages p.history.done) × IsSound (view_of p)
