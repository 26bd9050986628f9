use Rattle.std.specs.List.{AllByRecursion as Every}
use Rattle.std.proofs.Common.{◌≡◌, ◌++◌, drop, length, map}
use Rattle.model.specs.Meaning.{IsWords}
use Rattle.pictures.specs.Run.{sends_of}
use Rattle.pictures.proofs.traced.sends_of.Given as goal

abbrev pub invariant-loop-event : goal.invariant-loop-event
invariant-loop-event g l =
    let m = g.M.Model.meaning l.model in
    record {
      states : length l.now.items ≡ m.lps;
      words : Every IsWords (map (λ s. s.items) l.now.items);
      counts : l.counts.items ++ sends_of m (map (λ s. s.items) l.now.items) (drop l.event-index l.log)
          ≡ sends_of m (map (λ s. s.items) l.initial.now.items) l.log;
    }
