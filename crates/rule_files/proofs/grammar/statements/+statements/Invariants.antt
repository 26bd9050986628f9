use Rattle.std.proofs.Common.{◌≡◌, ◌+◌, ◌-◌, ◌*◌, ◌≤◌, length}
use Rattle.rule_files.specs.ReadingStatements.{first_at, row}
use Rattle.rule_files.specs.Statements.{acts_of}
use Rattle.rule_files.proofs.Turns.{with_front}
use Rattle.rule_files.proofs.grammar.statements.+statements.Given as goal

abbrev pub invariant-row-statements : goal.invariant-row-statements
invariant-row-statements l =
    let first = first_at l.links l.depth in
    record {
      rest : with_front (acts_of l.statements.items) (row first (length l.tokens - l._turn) l.names.items l.rest) ≡ row first (length l.tokens) l.fn.names l.tokens;
      few : length l.names.items ≤ 16;
    }

abbrev pub decreases-row : goal.decreases-row
decreases-row l = l.links * 10 + 8

abbrev pub decreases-one : goal.decreases-one
decreases-one l = l.links * 10 + 7

abbrev pub decreases-repetition : goal.decreases-repetition
decreases-repetition l = l.links * 10 + 6

abbrev pub decreases-turns : goal.decreases-turns
decreases-turns l = l.links * 10 + 5

abbrev pub decreases-choice : goal.decreases-choice
decreases-choice l = l.links * 10 + 5

abbrev pub decreases-otherwise : goal.decreases-otherwise
decreases-otherwise l = l.links * 10 + 4

abbrev pub decreases-cases : goal.decreases-cases
decreases-cases l = l.links * 10 + 6

abbrev pub decreases-case : goal.decreases-case
decreases-case l = l.links * 10 + 5

abbrev pub decreases-further : goal.decreases-further
decreases-further l = l.links * 10 + 4

abbrev pub decreases-nested_choice : goal.decreases-nested_choice
decreases-nested_choice l = l.links * 10 + 3

abbrev pub decreases-block : goal.decreases-block
decreases-block l = l.links * 10 + 3

abbrev pub decreases-nested_case : goal.decreases-nested_case
decreases-nested_case l = l.links * 10 + 3

abbrev pub decreases-braces : goal.decreases-braces
decreases-braces l = l.links * 10 + 9
