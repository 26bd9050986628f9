use Rattle.pictures.specs.Drawing.{grid_text, legend_text, marks_text, note_text, rule_text}
use Rattle.pictures.specs.declared.drawn.TheConstants.{DOT, LINE, PENDING, STYLE, TAIL}
use Rattle.eventkey.proofs.Writers.{writes_failed, writes_no_more, writes_then}
use Rattle.pictures.proofs.drawn.write_picture.Goals as goal

pub returns-in_err-write_head : goal.returns-in_err-write_head
returns-in_err-write_head g c =
    let failed = c.from_residual.ensures.0 in
    writes_no_more (TAIL.now) (writes_no_more (legend_text c.args.diagram.now.time c.args.frame.now) (writes_no_more (note_text c.args.diagram.now.processes c.args.frame.now c.args.diagram.now.count) (writes_no_more (rule_text c.args.diagram.now.time c.args.frame.now) (writes_no_more (marks_text c.args.frame.now DOT.now 2 c.args.diagram.now.events.items) (writes_no_more (marks_text c.args.frame.now LINE.now 0 c.args.diagram.now.events.items) (writes_no_more (marks_text c.args.frame.now PENDING.now 0 c.args.diagram.now.pending.items) (writes_no_more (grid_text c.args.frame.now) (writes_failed c.from_residual.result (STYLE.now) c.write_head.ensures c.in_err-write_head.was failed) failed) failed) failed) failed) failed) failed) failed) failed

pub returns-in_err-write_text : goal.returns-in_err-write_text
returns-in_err-write_text g c =
    let failed = c.from_residual-in_err-write_text.ensures.0 in
    writes_no_more (TAIL.now) (writes_no_more (legend_text c.args.diagram.now.time c.args.frame.now) (writes_no_more (note_text c.args.diagram.now.processes c.args.frame.now c.args.diagram.now.count) (writes_no_more (rule_text c.args.diagram.now.time c.args.frame.now) (writes_no_more (marks_text c.args.frame.now DOT.now 2 c.args.diagram.now.events.items) (writes_no_more (marks_text c.args.frame.now LINE.now 0 c.args.diagram.now.events.items) (writes_no_more (marks_text c.args.frame.now PENDING.now 0 c.args.diagram.now.pending.items) (writes_failed c.from_residual-in_err-write_text.result (grid_text c.args.frame.now) (writes_then c.write_head.ensures c.in_ok-write_head.was c.write_text.ensures) c.in_err-write_text.was failed) failed) failed) failed) failed) failed) failed) failed

pub returns-in_err-write_grid : goal.returns-in_err-write_grid
returns-in_err-write_grid g c =
    let failed = c.from_residual-in_err-write_grid.ensures.0 in
    writes_no_more (TAIL.now) (writes_no_more (legend_text c.args.diagram.now.time c.args.frame.now) (writes_no_more (note_text c.args.diagram.now.processes c.args.frame.now c.args.diagram.now.count) (writes_no_more (rule_text c.args.diagram.now.time c.args.frame.now) (writes_no_more (marks_text c.args.frame.now DOT.now 2 c.args.diagram.now.events.items) (writes_no_more (marks_text c.args.frame.now LINE.now 0 c.args.diagram.now.events.items) (writes_failed c.from_residual-in_err-write_grid.result (marks_text c.args.frame.now PENDING.now 0 c.args.diagram.now.pending.items) (writes_then (writes_then c.write_head.ensures c.in_ok-write_head.was c.write_text.ensures) c.in_ok-write_text.was c.write_grid.ensures) c.in_err-write_grid.was failed) failed) failed) failed) failed) failed) failed

pub returns-in_err-write_marks : goal.returns-in_err-write_marks
returns-in_err-write_marks g c =
    let failed = c.from_residual-in_err-write_marks.ensures.0 in
    writes_no_more (TAIL.now) (writes_no_more (legend_text c.args.diagram.now.time c.args.frame.now) (writes_no_more (note_text c.args.diagram.now.processes c.args.frame.now c.args.diagram.now.count) (writes_no_more (rule_text c.args.diagram.now.time c.args.frame.now) (writes_no_more (marks_text c.args.frame.now DOT.now 2 c.args.diagram.now.events.items) (writes_failed c.from_residual-in_err-write_marks.result (marks_text c.args.frame.now LINE.now 0 c.args.diagram.now.events.items) (writes_then (writes_then (writes_then c.write_head.ensures c.in_ok-write_head.was c.write_text.ensures) c.in_ok-write_text.was c.write_grid.ensures) c.in_ok-write_grid.was (rw c.as_slice.ensures.value at c.write_marks.ensures)) c.in_err-write_marks.was failed) failed) failed) failed) failed) failed

pub returns-in_err-write_marks-2 : goal.returns-in_err-write_marks-2
returns-in_err-write_marks-2 g c =
    let failed = c.from_residual-in_err-write_marks-2.ensures.0 in
    writes_no_more (TAIL.now) (writes_no_more (legend_text c.args.diagram.now.time c.args.frame.now) (writes_no_more (note_text c.args.diagram.now.processes c.args.frame.now c.args.diagram.now.count) (writes_no_more (rule_text c.args.diagram.now.time c.args.frame.now) (writes_failed c.from_residual-in_err-write_marks-2.result (marks_text c.args.frame.now DOT.now 2 c.args.diagram.now.events.items) (writes_then (writes_then (writes_then (writes_then c.write_head.ensures c.in_ok-write_head.was c.write_text.ensures) c.in_ok-write_text.was c.write_grid.ensures) c.in_ok-write_grid.was (rw c.as_slice.ensures.value at c.write_marks.ensures)) c.in_ok-write_marks.was (rw c.as_slice-2.ensures.value at c.write_marks-2.ensures)) c.in_err-write_marks-2.was failed) failed) failed) failed) failed

pub returns-in_err-write_marks-3 : goal.returns-in_err-write_marks-3
returns-in_err-write_marks-3 g c =
    let failed = c.from_residual-in_err-write_marks-3.ensures.0 in
    writes_no_more (TAIL.now) (writes_no_more (legend_text c.args.diagram.now.time c.args.frame.now) (writes_no_more (note_text c.args.diagram.now.processes c.args.frame.now c.args.diagram.now.count) (writes_failed c.from_residual-in_err-write_marks-3.result (rule_text c.args.diagram.now.time c.args.frame.now) (writes_then (writes_then (writes_then (writes_then (writes_then c.write_head.ensures c.in_ok-write_head.was c.write_text.ensures) c.in_ok-write_text.was c.write_grid.ensures) c.in_ok-write_grid.was (rw c.as_slice.ensures.value at c.write_marks.ensures)) c.in_ok-write_marks.was (rw c.as_slice-2.ensures.value at c.write_marks-2.ensures)) c.in_ok-write_marks-2.was (rw c.as_slice-3.ensures.value at c.write_marks-3.ensures)) c.in_err-write_marks-3.was failed) failed) failed) failed

pub returns-in_err-write_rule : goal.returns-in_err-write_rule
returns-in_err-write_rule g c =
    let failed = c.from_residual-in_err-write_rule.ensures.0 in
    writes_no_more (TAIL.now) (writes_no_more (legend_text c.args.diagram.now.time c.args.frame.now) (writes_failed c.from_residual-in_err-write_rule.result (note_text c.args.diagram.now.processes c.args.frame.now c.args.diagram.now.count) (writes_then (writes_then (writes_then (writes_then (writes_then (writes_then c.write_head.ensures c.in_ok-write_head.was c.write_text.ensures) c.in_ok-write_text.was c.write_grid.ensures) c.in_ok-write_grid.was (rw c.as_slice.ensures.value at c.write_marks.ensures)) c.in_ok-write_marks.was (rw c.as_slice-2.ensures.value at c.write_marks-2.ensures)) c.in_ok-write_marks-2.was (rw c.as_slice-3.ensures.value at c.write_marks-3.ensures)) c.in_ok-write_marks-3.was c.write_rule.ensures) c.in_err-write_rule.was failed) failed) failed

pub returns-in_err-write_note : goal.returns-in_err-write_note
returns-in_err-write_note g c =
    let failed = c.from_residual-in_err-write_note.ensures.0 in
    writes_no_more (TAIL.now) (writes_failed c.from_residual-in_err-write_note.result (legend_text c.args.diagram.now.time c.args.frame.now) (writes_then (writes_then (writes_then (writes_then (writes_then (writes_then (writes_then c.write_head.ensures c.in_ok-write_head.was c.write_text.ensures) c.in_ok-write_text.was c.write_grid.ensures) c.in_ok-write_grid.was (rw c.as_slice.ensures.value at c.write_marks.ensures)) c.in_ok-write_marks.was (rw c.as_slice-2.ensures.value at c.write_marks-2.ensures)) c.in_ok-write_marks-2.was (rw c.as_slice-3.ensures.value at c.write_marks-3.ensures)) c.in_ok-write_marks-3.was c.write_rule.ensures) c.in_ok-write_rule.was c.write_note.ensures) c.in_err-write_note.was failed) failed

pub returns-in_err-write_legend : goal.returns-in_err-write_legend
returns-in_err-write_legend g c =
    let failed = c.from_residual-in_err-write_legend.ensures.0 in
    writes_failed c.from_residual-in_err-write_legend.result (TAIL.now) (writes_then (writes_then (writes_then (writes_then (writes_then (writes_then (writes_then (writes_then c.write_head.ensures c.in_ok-write_head.was c.write_text.ensures) c.in_ok-write_text.was c.write_grid.ensures) c.in_ok-write_grid.was (rw c.as_slice.ensures.value at c.write_marks.ensures)) c.in_ok-write_marks.was (rw c.as_slice-2.ensures.value at c.write_marks-2.ensures)) c.in_ok-write_marks-2.was (rw c.as_slice-3.ensures.value at c.write_marks-3.ensures)) c.in_ok-write_marks-3.was c.write_rule.ensures) c.in_ok-write_rule.was c.write_note.ensures) c.in_ok-write_note.was c.write_legend.ensures) c.in_err-write_legend.was failed

pub returns : goal.returns
returns g c =
    writes_then (writes_then (writes_then (writes_then (writes_then (writes_then (writes_then (writes_then (writes_then c.write_head.ensures c.in_ok-write_head.was c.write_text.ensures) c.in_ok-write_text.was c.write_grid.ensures) c.in_ok-write_grid.was (rw c.as_slice.ensures.value at c.write_marks.ensures)) c.in_ok-write_marks.was (rw c.as_slice-2.ensures.value at c.write_marks-2.ensures)) c.in_ok-write_marks-2.was (rw c.as_slice-3.ensures.value at c.write_marks-3.ensures)) c.in_ok-write_marks-3.was c.write_rule.ensures) c.in_ok-write_rule.was c.write_note.ensures) c.in_ok-write_note.was c.write_legend.ensures) c.in_ok-write_legend.was c.write_text-2.ensures
