-- The cost of a rule: the most sends, draws or steps on any way through it. An `if` costs as much
-- as its costlier block, and a `repeat` its block, with the value that may end it, times its count.
use Rattle.std.specs.Prelude.{ℕ, ◌+◌, ◌*◌, List, [], ◌∷◌, max}
use Rattle.rules.specs.declared.limits.Limit.{Limit}
use Rattle.rules.specs.declared.limits.Limit.TheVariants.{Sends, Draws, Steps}
use Rattle.rules.specs.declared.tree.Expression.{Expression}
use Rattle.rules.specs.declared.tree.Statement.{Statement, Row_of-Statement, end_of-Statement}
use Rattle.rules.specs.declared.tree.Statement.{more_of-Statement}
use Rattle.rules.specs.declared.tree.Statement.TheVariants.{Let, Set, Send, If', Repeat', Put}
use Rattle.rules.specs.declared.tree.Statement.TheVariants.{RepeatUntil'}
use Rattle.rules.specs.declared.tree.Expression.TheVariants.{Number, Word, Content, Local, Read}
use Rattle.rules.specs.declared.tree.Expression.TheVariants.{Not', Two', Entry', Draw', Normal'}
use Rattle.rules.specs.declared.tree.Expression.TheVariants.{Triangular', Choose, Element'}

-- the cost of a send, of a drawn word, and of everything else
abbrev pub send_cost : Limit → ℕ
send_cost Sends = 1
send_cost Draws = 0
send_cost Steps = 1

abbrev pub draw_cost : Limit → ℕ
draw_cost Sends = 0
draw_cost Draws = 1
draw_cost Steps = 1

abbrev pub step_cost : Limit → ℕ
step_cost Sends = 0
step_cost Draws = 0
step_cost Steps = 1

-- the cost of an expression
abbrev pub cost : Limit → Expression → ℕ
cost c (Number n) = step_cost c
cost c (Word i) = step_cost c
cost c (Content i) = step_cost c
cost c (Local i) = step_cost c
cost c (Read k) = step_cost c
cost c (Not' p e) = step_cost c + cost c e
cost c (Two' o p x q y) = step_cost c + cost c x + cost c y
cost c (Entry' t p e) = step_cost c + cost c e
cost c (Draw' law p e) = draw_cost c + cost c e
cost c (Normal' p x q y) = draw_cost c + cost c x + cost c y
cost c (Triangular' p x q y r z) =
    draw_cost c + draw_cost c + cost c x + cost c y + cost c z
cost c (Choose t) = draw_cost c
cost c (Element' a p x) = step_cost c + cost c x

-- the number of words that an expression draws
abbrev pub draws : Expression → ℕ
draws e = cost Draws e

abbrev mutual
  -- the cost of a statement
  pub cost_of : Limit → Statement → ℕ
  cost_of c (Let i e) = step_cost c + cost c e
  cost_of c (Set i e) = step_cost c + cost c e
  cost_of c (Send x) =
      send_cost c
      + (cost c x.to + cost c x.after + cost c x.a + cost c x.b + cost c x.c + cost c x.d)
  cost_of c (If' e s met t unmet) =
      step_cost c + cost c e + max (cost_of_row c met) (cost_of_row c unmet)
  cost_of c (Repeat' i n s body) = step_cost c + n * (step_cost c + cost_of_row c body)
  cost_of c (RepeatUntil' i n e s body) =
      step_cost c + n * (step_cost c + cost c e + cost_of_row c body)
  cost_of c (Put a i e) = step_cost c + cost c i + cost c e

  -- the cost of the statements of a block
  pub cost_of_row : Limit → {m : _} → Row_of-Statement m → ℕ
  cost_of_row c end_of-Statement = 0
  cost_of_row c (more_of-Statement x rest) = cost_of c x + cost_of_row c rest

-- the cost of the statements of a list
abbrev pub cost_of_all : Limit → List Statement → ℕ
cost_of_all c [] = 0
cost_of_all c (x ∷ xs) = cost_of c x + cost_of_all c xs
