use Rattle.std.proofs.Common.{ap, ◌∙◌, slice_index}
use Rattle.rules.specs.Elements.{element}
use Rattle.rules.specs.ElementLaws.{others_stay, outside_stays, written_is}
use Rattle.rules.proofs.arrays.Array.set.Goals as goal

pub returns-clause-is : goal.returns-clause-is
returns-clause-is c = λ has lt.
    ap (λ ws. element c.args.self ws c.args.index) c.put.ensures
    ∙ written_is c.args.self c.args.words.now c.args.index c.args.number has lt

pub returns-clause-others : goal.returns-clause-others
returns-clause-others c = λ other apart.
    ap (λ ws. element c.args.self ws other) c.put.ensures
    ∙ others_stay c.args.self c.args.words.now c.args.index c.args.number other apart

pub returns-clause-outside : goal.returns-clause-outside
returns-clause-outside c = λ place out.
    ap (λ ws. slice_index ws place) c.put.ensures
    ∙ outside_stays c.args.self c.args.words.now c.args.index c.args.number place out
