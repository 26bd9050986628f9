use denote.Text.{Utf8}
use denote.Shadow.{shadow}
use Rattle.views.proofs.apart.say_the_same.Given as goal

-- the rest is text
abbrev pub invariant-loop-letter : goal.invariant-loop-letter
invariant-loop-letter l =
    (goal.iterator-loop-letter).can_next l.letter-iterator ×
    (goal.iterator-loop-letter).is_finite l.letter-iterator ×
    shadow (Utf8 l.rest)
