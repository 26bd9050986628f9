use Rattle.texts.proofs.any_model.hold_of.Goals as goal

pub returns-clause-ok : goal.returns-clause-ok
returns-clause-ok c = rw c.new.ensures (record {
  model = c.requires;
  lps = c.in_ok-lps.ensures.ok;
  last = c.in_ok-end.ensures.ok;
  population = c.in_ok-population.ensures.ok;
  spread = rw c.from.ensures at c.in_ok-spread.ensures.ok;
  seed = c.in_ok-seed.ensures.ok;
  only = c.in_ok-only.ensures.ok;
})
