use Rattle.std.proofs.Common.{sym, ap, ◌∙◌}
use Rattle.frames.specs.Bodies.{parcel_in}
use Rattle.frames.proofs.Reacting.{react_bad_body, react_bad_kind, react_done, react_in_range}
use Rattle.frames.proofs.reaction.react.Goals as goal

pub returns-in_default-clause-known : goal.returns-in_default-clause-known
returns-in_default-clause-known g c = react_bad_kind _ c.args.node.now c.args.node.now _ c.in_default.not-Parcel

pub returns-in_default-2-clause-known : goal.returns-in_default-2-clause-known
returns-in_default-2-clause-known g c =
    react_bad_body _ c.args.node.now c.args.node.now _ c.in-Parcel.is (ap parcel_in (sym c.as_slice.ensures) ∙ sym c.in_ok-parcel.ensures.read ∙ c.in_default-2.is)

pub returns-clause-known : goal.returns-clause-known
returns-clause-known g c =
    react_done _ _ _ _ c.in-Some.parcel c.handle-answer.result c.respond.result c.in-Parcel.is (ap parcel_in (sym c.as_slice.ensures) ∙ sym c.in_ok-parcel.ensures.read ∙ c.in-Some.is)
    c.handle-answer.ensures.answered c.respond.ensures.exact

pub returns-clause-range : goal.returns-clause-range
returns-clause-range g c =
    react_in_range (g.M.Model.meaning c.args.model.now) c.args.node.now c.handle-answer.new.self c.args.raw.now c.in-Some.parcel c.handle-answer.result c.respond.result (ap parcel_in (sym c.as_slice.ensures) ∙ sym c.in_ok-parcel.ensures.read ∙ c.in-Some.is) c.handle-answer.ensures.answered
    c.respond.ensures.exact (c.respond.ensures.range c.handle-answer.ensures.range)
