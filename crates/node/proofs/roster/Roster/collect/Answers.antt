use Rattle.std.proofs.Common.{◌≡◌, ◌<◌, ◌≤◌, ◌+◌, ◌∙◌, ℕ, List, get_or, length, subst, sym, true, arith}
use Rattle.node.proofs.Collects.{IsFirstDue, IsQuiet, all_collected, first_due, node_collected, one_more_collected, quiet_again, quiet_all, quiet_further}
use Rattle.node.proofs.Seats.{length-summaries}
use Rattle.node.specs.Roster.{IsStaffed, Place, at_floor, place_of, processes_of}
use Rattle.node.specs.Seats.{is_due}
use Rattle.node.specs.Tournament.{absent}
use Rattle.node.specs.declared.summary.Summary.{Summary}
use Rattle.node.proofs.roster.Roster.collect.Goals as goal

pub loop-place-preserved : goal.loop-place-preserved
loop-place-preserved c =
    let i = c.loop-place.invariant in
    let floor : ℕ = c.args.floor in
    let d = c.first_due-place-in-loop-place in
    let there : c.loop-place.place < length c.loop-place.self.processes.items = let len = c.len.ensures in let before = c.loop-place-test.true in omega (arith, c.loop-place.self.processes.ok) in
    let first : IsFirstDue floor c.loop-place.self.summaries c.loop-place.place = first_due i.staffed c.loop-place.place there (i.due there) i.quiet in
    let staffed : IsStaffed (at_floor floor (place_of c.collect_at.new.self)) c.collect_at.new.self.processes.items c.collect_at.new.self.summaries =
    subst (λ (k : Place). IsStaffed (at_floor floor k) c.collect_at.new.self.processes.items c.collect_at.new.self.summaries) (sym c.in_ok-collect_at.ensures.place) c.in_ok-collect_at.ensures.staffed
    in
    let quiet : IsQuiet floor c.collect_at.new.self.summaries (c.loop-place.place + 1) = quiet_again i.staffed floor c.loop-place.place (at_floor floor (place_of c.collect_at.new.self)) c.collect_at.new.self.processes.items c.collect_at.new.self.summaries there i.quiet staffed c.in_ok-collect_at.ensures.processes in
    let further : IsQuiet floor c.collect_at.new.self.summaries d.result = quiet_further floor c.collect_at.new.self.summaries (c.loop-place.place + 1) d.result quiet d.ensures.quiet in
    let size : length c.collect_at.new.self.summaries ≡ length c.collect_at.new.self.processes.items = length-summaries (at_floor floor (place_of c.collect_at.new.self)) c.collect_at.new.self.processes.items c.collect_at.new.self.summaries staffed in
    record {
      staffed = subst (λ (xs : List Summary). IsStaffed (at_floor floor (place_of c.collect_at.new.self)) c.collect_at.new.self.processes.items xs) (sym d.ensures.same) staffed;
      modelled = λ m modelled. c.in_ok-collect_at.ensures.modelled m (i.modelled m modelled);
      place_is = c.in_ok-collect_at.ensures.place ∙ i.place_is;
      collected = one_more_collected i.staffed c.loop-place.place (processes_of c.collect_at.new.self.processes.items) c.collect_at.new.fossils i.collected first c.in_ok-collect_at.ensures.processes c.in_ok-collect_at.ensures.fossils;
      within = let most = d.ensures.within in omega arith;
      quiet = subst (λ (xs : List Summary). IsQuiet floor xs d.result) (sym d.ensures.same) further;
      due = λ l. subst (λ (xs : List Summary). is_due floor (get_or xs d.result absent).oldest ≡ true) (sym d.ensures.same) (d.ensures.due (omega arith));
      range = c.in_ok-collect_at.ensures.range i.range;
    }

all_quiet : (c : goal.After-self-1) → IsQuiet c.args.floor c.loop-place.self.summaries (length c.loop-place.self.summaries)
all_quiet c =
    let i = c.loop-place.invariant in
    let most : length c.loop-place.self.processes.items ≤ c.loop-place.place = let len = c.len.ensures in let after = c.loop-place-test.false in omega (arith, c.loop-place.self.processes.ok) in
    quiet_all i.staffed c.args.floor c.loop-place.place most i.quiet

pub returns-clause-node : goal.returns-clause-node
returns-clause-node c =
    node_collected c.args.floor (place_of c.args.self.now) (place_of c.loop-place.self) (processes_of c.args.self.now.processes.items) (processes_of c.loop-place.self.processes.items) c.loop-place.invariant.place_is
    (all_collected c.loop-place.invariant.staffed c.loop-place.invariant.collected (all_quiet c)).0

pub returns-clause-fossils : goal.returns-clause-fossils
returns-clause-fossils c = (all_collected c.loop-place.invariant.staffed c.loop-place.invariant.collected (all_quiet c)).1
