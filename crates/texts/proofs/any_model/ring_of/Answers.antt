use Rattle.texts.proofs.any_model.ring_of.Goals as goal

pub returns-clause-ok : goal.returns-clause-ok
returns-clause-ok c = rw c.new.ensures (record {
  model = c.requires;
  lps = c.in_ok-lps.ensures.ok;
  last = c.in_ok-end.ensures.ok;
  hold = rw c.from.ensures at c.in_ok-hold.ensures.ok;
  tokens = c.in_ok-tokens.ensures.ok;
  only = c.in_ok-only.ensures.ok;
})
