-- The rows of a tree as the lists that the code sees.
use Rattle.std.proofs.Common.{◌≡◌, ℕ, Vec, Global, refl, ap, ◌∙◌}
use mathlib.Core.Former.{Count}
use Rattle.rules.specs.declared.tree.Expression.{Expression}
use Rattle.rules.specs.declared.tree.Statement.{Statement, If, Repeat, RepeatUntil, If', Repeat', RepeatUntil', Row_of-Statement, end_of-Statement, more_of-Statement, items-the_row-Statement, items_hidden-the_row-Statement-0}
use Rattle.rule_files.specs.Grammar.{tree_of}
use Rattle.rule_files.specs.Statements.{cons, act_of, acts_of, acts_of_row}
use Rattle.rule_files.specs.Statements as a

row-acts : (n : _) (row : Row_of-Statement n) → acts_of_row row ≡ acts_of (items-the_row-Statement n row)
row-acts n end_of-Statement = refl
row-acts n (more_of-Statement x rest) = ap (cons (act_of x)) (row-acts _ rest)

abbrev first_row : Statement → (n : Count) × Row_of-Statement n
first_row (If' e s met t unmet) = (_, met)
first_row (Repeat' i n s body) = (_, body)
first_row (RepeatUntil' i n e s body) = (_, body)
first_row _ = (_, end_of-Statement)

abbrev second_row : Statement → (n : Count) × Row_of-Statement n
second_row (If' e s met t unmet) = (_, unmet)
second_row _ = (_, end_of-Statement)

pub act_of_choice : (e : Expression) (met unmet : Vec Statement Global) → act_of (If e met unmet) ≡ a.If (tree_of e) (acts_of met.items) (acts_of unmet.items)
act_of_choice e met unmet =
    let one = first_row (If e met unmet) in
    let two = second_row (If e met unmet) in
    ap (λ xs. a.If (tree_of e) xs (acts_of_row two.1)) (row-acts one.0 one.1 ∙ ap acts_of (items_hidden-the_row-Statement-0 met))
    ∙ ap (λ xs. a.If (tree_of e) (acts_of met.items) xs) (row-acts two.0 two.1 ∙ ap acts_of (items_hidden-the_row-Statement-0 unmet))

pub act_of_repetition : (place n : ℕ) (body : Vec Statement Global) → act_of (Repeat place n body) ≡ a.Repeat place n (acts_of body.items)
act_of_repetition place n body =
    let one = first_row (Repeat place n body) in
    ap (a.Repeat place n) (row-acts one.0 one.1 ∙ ap acts_of (items_hidden-the_row-Statement-0 body))

pub act_of_repetition_until : (place n : ℕ) (e : Expression) (body : Vec Statement Global) →
    act_of (RepeatUntil place n e body) ≡ a.RepeatUntil place n (tree_of e) (acts_of body.items)
act_of_repetition_until place n e body =
    let one = first_row (RepeatUntil place n e body) in
    ap (a.RepeatUntil place n (tree_of e)) (row-acts one.0 one.1 ∙ ap acts_of (items_hidden-the_row-Statement-0 body))
