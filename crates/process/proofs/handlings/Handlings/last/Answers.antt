use Rattle.std.proofs.Common.{List, ◌∙◌, arith, ap, flat_map, length, subst, sym}
use Rattle.std.proofs.lemmas.List.{take_all}
use Rattle.process.specs.Handlings.{IsLastOf}
use Rattle.process.specs.Reports.{done_bytes}
use Rattle.process.specs.declared.Done.{Done}
use Rattle.process.proofs.handlings.Handlings.last.Goals as goal

pub last_within-requires-clause-size : goal.last_within-requires-clause-size
last_within-requires-clause-size c = ap length (c.parts.ensures.bytes ∙ ap (flat_map done_bytes) (sym (take_all c.len.result c.args.self.now (omega (arith, c.len.ensures)))))

pub returns : goal.returns
returns c = subst (λ (ds : List Done). IsLastOf ds c.last_within.result) (take_all c.len.result c.args.self.now (omega (arith, c.len.ensures))) c.last_within.ensures
