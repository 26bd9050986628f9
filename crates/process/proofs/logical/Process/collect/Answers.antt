use Rattle.std.proofs.Common.{◌++◌, ◌∙◌, List, ap}
use Rattle.process.specs.declared.Done.{Done}
use Rattle.process.specs.Process.{fossils_of}
use Rattle.process.proofs.logical.Process.collect.Goals as goal

pub returns-clause-collected : goal.returns-clause-collected
returns-clause-collected c =
    let there = c.in_ok-collect_into.ensures.collected in
    record {
      fossils = there.fossils ∙ ap (λ (ds : List Done). ds ++ fossils_of c.args.floor c.args.self.now.process) c.new-fossils.ensures;
      process = there.process;
      range = there.range;
      done = there.done;
    }
