use Rattle.std.proofs.Common.{◌∙◌, map, sym}
use Rattle.texts.proofs.Tables.{known_here, none_left, wrong_here}
use Rattle.texts.proofs.model_file.only.Goals as goal

pub returns-then-not-is_among-clause-err : goal.returns-then-not-is_among-clause-err
returns-then-not-is_among-clause-err c = λ err none.
    wrong_here (map (λ k. k.now) c.args.keys.now) c.keys.key-iterator c.next.new.self c.in-Some.key.now c.in-Some._value.now c.as_str.result.now
    c.in-Some.ensures.steps c.as_str.ensures.value c.is_among.result c.is_among.ensures c.if-not-is_among.true (c.keys.invariant ∙ none)

pub keys-preserved : goal.keys-preserved
keys-preserved c =
    sym (known_here (map (λ k. k.now) c.args.keys.now) c.keys.key-iterator c.next.new.self c.in-Some.key.now c.in-Some._value.now c.as_str.result.now
    c.in-Some.ensures.steps c.as_str.ensures.value c.is_among.result c.is_among.ensures c.if-not-is_among.false) ∙ c.keys.invariant

pub returns-clause-ok : goal.returns-clause-ok
returns-clause-ok c = sym c.keys.invariant ∙ none_left (map (λ k. k.now) c.args.keys.now) c.keys.key-iterator c.in-None.ensures.steps.0
