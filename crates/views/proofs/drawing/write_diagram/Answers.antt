use Rattle.views.proofs.drawing.write_diagram.Goals as goal

pub returns-clause-written : goal.returns-clause-written
returns-clause-written g c = λ run view is. c.flushed.ensures.written _ _ (c.write_drawing.ensures run view is)
