use Rattle.std.proofs.Common.{◌++◌, ◌∙◌, ap, get_or, subst, sym}
use Rattle.std.specs.List.{AllByRecursion as Every}
use Rattle.eventkey.proofs.Lists.{Every-append}
use Rattle.process.specs.Process.{Process, fossils_of}
use Rattle.process.specs.View.{IsDoneInRange, ProcessView}
use Rattle.node.proofs.Collects.{process_at, processes_then, seated_at, staffed_then, summary_then}
use Rattle.node.proofs.Histories.{modelled_again, modelled_at}
use Rattle.node.specs.Blocks.{with_oldest}
use Rattle.node.specs.Roster.{at_floor, place_of}
use Rattle.node.specs.Tournament.{absent}
use Rattle.node.proofs.roster.Roster.collect_at.Goals as goal

pub returns-clause-staffed : goal.returns-clause-staffed
returns-clause-staffed c = rw c.set_oldest.ensures
    (staffed_then (at_floor c.args.floor (place_of c.args.self.now)) c.args.self.now.processes.items c.args.self.now.summaries c.args.place c.index_mut-process.result.now c.requires.staffed c.requires.there c.index_mut-process.ensures.value
    c.collect_into.new.self (with_oldest c.oldest-oldest.result (get_or c.args.self.now.summaries c.args.place absent)) c.in_ok-collect_into.ensures.collected.process
    (summary_then (at_floor c.args.floor (place_of c.args.self.now)) c.args.self.now.processes.items c.args.self.now.summaries c.args.place c.index_mut-process.result.now c.requires.staffed c.requires.there c.index_mut-process.ensures.value
    c.collect_into.new.self c.oldest-oldest.result c.in_ok-collect_into.ensures.collected.process c.oldest-oldest.ensures))

pub returns-clause-processes : goal.returns-clause-processes
returns-clause-processes c =
    processes_then (at_floor c.args.floor (place_of c.args.self.now)) c.args.self.now.processes.items c.args.self.now.summaries c.args.place c.index_mut-process.result.now c.requires.staffed c.requires.there c.index_mut-process.ensures.value
    c.collect_into.new.self c.in_ok-collect_into.ensures.collected.process

pub returns-clause-fossils : goal.returns-clause-fossils
returns-clause-fossils c =
    c.in_ok-collect_into.ensures.collected.fossils
    ∙ ap (λ (q : Process). c.args.fossils.now ++ fossils_of c.args.floor q)
    (sym (process_at (at_floor c.args.floor (place_of c.args.self.now)) c.args.self.now.processes.items c.args.self.now.summaries c.args.place c.index_mut-process.result.now c.requires.staffed c.requires.there c.index_mut-process.ensures.value))

pub returns-clause-range : goal.returns-clause-range
returns-clause-range c ranged =
    subst (Every IsDoneInRange) (sym c.in_ok-collect_into.ensures.collected.fossils)
    (Every-append IsDoneInRange c.args.fossils.now (fossils_of c.args.floor c.index_mut-process.result.now.process) ranged c.in_ok-collect_into.ensures.collected.range)

pub returns-clause-modelled : goal.returns-clause-modelled
returns-clause-modelled c m modelled =
    let seated = seated_at (at_floor c.args.floor (place_of c.args.self.now)) c.args.self.now.processes.items c.args.self.now.summaries c.args.place c.index_mut-process.result.now c.requires.staffed c.requires.there c.index_mut-process.ensures.value in
    let was = modelled_at m c.args.self.now.processes.items modelled c.args.place c.index_mut-process.result.now c.requires.there c.index_mut-process.ensures.value in
    modelled_again m c.args.self.now.processes.items modelled c.args.place c.index_mut-process.result.now c.collect_into.new.self was (c.in_ok-collect_into.ensures.kept m) (ap (λ (v : ProcessView). v.spent) c.in_ok-collect_into.ensures.collected.process ∙ seated.unspent)
