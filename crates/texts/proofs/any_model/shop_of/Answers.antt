use Rattle.texts.proofs.any_model.shop_of.Goals as goal

pub returns-clause-ok : goal.returns-clause-ok
returns-clause-ok c = rw c.new.ensures (record {
  model = c.requires;
  lps = c.in_ok-lps.ensures.ok;
  last = c.in_ok-end.ensures.ok;
  jobs = c.in_ok-jobs.ensures.ok;
  service = rw c.from.ensures at c.in_ok-service.ensures.ok;
  seed = c.in_ok-seed.ensures.ok;
  only = c.in_ok-only.ensures.ok;
})
