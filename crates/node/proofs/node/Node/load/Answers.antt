use Rattle.std.proofs.Common.{◌≤◌, ◌∙◌, length, sym, rules, refl, ap, subst, arith}
use Rattle.std.specs.List.{AllByRecursion as Every}
use Rattle.std.proofs.lemmas.List.{length-map}
use Rattle.eventkey.specs.Message.{Message}
use Rattle.model.specs.Meaning.{most_lps}
use Rattle.std.proofs.lemmas.Result.{err_from_is_err_and}
use Rattle.node.proofs.Histories.{histories_begin}
use Rattle.node.specs.Kept.{HasHistories}
use Rattle.node.proofs.Loads.{below_floor, load_is_made, load_is_refused, loaded_is, no_memory, not_mine, not_refused, own_few, seats_staffed}
use Rattle.node.specs.declared.NodeFault.TheVariants.{BelowFloor, NotMine}
use Rattle.node.proofs.node.Node.load.Goals.{then-not-are_own-via-then-not-are_own, then-not-are_own-via-else-not-are_own+then-not-are_for_own}
use Rattle.node.specs.Roster.{Place}
use Rattle.node.specs.declared.Part.{Part}
use Rattle.node.proofs.node.Node.load.Goals as goal

pub seat_all-requires-clause-few : goal.seat_all-requires-clause-few
seat_all-requires-clause-few g c =
    let own = ap length (c.if-not-are_own.ensures.0 refl) in
    let size = length-map c.as_slice-parts.result.now (λ (q : Part). q.lp) in
    let few = own_few c.args.load.node c.args.load.nodes c.lps-lps.result c.requires.node in
    let limit : c.lps-lps.result ≤ most_lps = search rules in
    let moved = ap length (c.into_vec.ensures ∙ sym c.as_slice-parts.ensures) in
    omega arith

pub invariant_of-result : goal.invariant_of-result
invariant_of-result g c unspent =
    let p : Place = record { node = c.args.load.node; nodes = c.args.load.nodes; lps = c.lps-lps.result; end = c.args.load.end; floor = c.args.load.floor } in
    rw (c.in_ok-processes.ensures.processes, c.in_ok-processes.ensures.summaries, c.into_vec.ensures ∙ sym c.as_slice-parts.ensures)
    (seats_staffed p c.as_slice-parts.result.now c.requires.node c.requires.end (c.if-not-are_own.ensures.0 refl) (c.if-not-are_for_own.ensures.0 refl))

pub seat_all-requires-clause-late : goal.seat_all-requires-clause-late
seat_all-requires-clause-late g c =
    subst (Every (λ (q : Part). Every (λ (x : Message). c.args.load.floor ≤ x.time) q.pending)) (c.as_slice-parts.ensures ∙ sym c.into_vec.ensures) (c.if-not-are_all_from.ensures.0 refl)

pub returns-then-not-are_own-clause-loaded : goal.returns-then-not-are_own-clause-loaded
returns-then-not-are_own-clause-loaded g c =
    let lps = (g.M.Model.meaning c.args.model.now).lps in
    load_is_refused lps c.args.load NotMine (not_mine lps c.lps-lps.result c.args.load c.as_slice-parts.result.now c.lps-lps.ensures c.as_slice-parts.ensures (λ own pending.
    elim c.then-not-are_own.branch [
      | then-not-are_own-via-then-not-are_own w ↦ (let t = w.if-not-are_own.ensures.1 own in cc)
      | then-not-are_own-via-else-not-are_own+then-not-are_for_own w ↦ (let t = w.if-not-are_for_own.ensures.1 pending in cc)
    ]))

pub returns-then-not-are_all_from-clause-loaded : goal.returns-then-not-are_all_from-clause-loaded
returns-then-not-are_all_from-clause-loaded g c =
    let lps = (g.M.Model.meaning c.args.model.now).lps in
    load_is_refused lps c.args.load BelowFloor
    (below_floor lps c.lps-lps.result c.args.load c.as_slice-parts.result.now c.lps-lps.ensures c.as_slice-parts.ensures (c.if-not-are_own.ensures.0 refl) (c.if-not-are_for_own.ensures.0 refl)
    (λ late. let t = c.if-not-are_all_from.ensures.1 late in cc))

pub returns-in_err-processes-clause-loaded : goal.returns-in_err-processes-clause-loaded
returns-in_err-processes-clause-loaded g c =
    let lps = (g.M.Model.meaning c.args.model.now).lps in
    let p = err_from_is_err_and c.from_residual.result c.from_residual.ensures.1 in
    rw (p.1, p.2) (no_memory lps c.args.load c.in_err-processes.field-0.0
    (not_refused lps c.lps-lps.result c.args.load c.as_slice-parts.result.now c.lps-lps.ensures c.as_slice-parts.ensures (c.if-not-are_own.ensures.0 refl) (c.if-not-are_for_own.ensures.0 refl) (c.if-not-are_all_from.ensures.0 refl))
    c.in_err-processes.ensures.memory)

pub returns-clause-loaded : goal.returns-clause-loaded
returns-clause-loaded g c =
    let lps = (g.M.Model.meaning c.args.model.now).lps in
    load_is_made lps c.args.load _
    (not_refused lps c.lps-lps.result c.args.load c.as_slice-parts.result.now c.lps-lps.ensures c.as_slice-parts.ensures (c.if-not-are_own.ensures.0 refl) (c.if-not-are_for_own.ensures.0 refl) (c.if-not-are_all_from.ensures.0 refl))
    (loaded_is lps c.lps-lps.result c.args.load c.into_vec.result.items c.in_ok-processes.processes.items c.lps-lps.ensures c.into_vec.ensures c.in_ok-processes.ensures.processes)

pub returns-clause-histories : goal.returns-clause-histories
returns-clause-histories g c =
    let m = g.M.Model.meaning c.args.model.now in
    let lps = m.lps in
    subst (HasHistories m)
    (sym (loaded_is lps c.lps-lps.result c.args.load c.into_vec.result.items c.in_ok-processes.processes.items c.lps-lps.ensures c.into_vec.ensures c.in_ok-processes.ensures.processes))
    (histories_begin m lps c.args.load)
