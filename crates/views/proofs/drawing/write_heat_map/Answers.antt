use Rattle.views.proofs.drawing.write_heat_map.Goals as goal

pub returns-clause-written : goal.returns-clause-written
returns-clause-written g c = λ run view is. c.flushed.ensures.written _ _ (c.write_load.ensures run view is)
