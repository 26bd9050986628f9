use Rattle.std.proofs.Common.{Some, arith, subst, sym, take}
use Rattle.process.specs.Handlings.{IsLastOf}
use Rattle.process.specs.declared.Done.{Done}
use Rattle.process.proofs.HandlingBytes.{at_end, end_within, size_within}
use Rattle.process.proofs.handlings.Handlings.last_within.Goals as goal

pub split_at-requires : goal.split_at-requires
split_at-requires c = size_within c.args.count c.args.size c.args.self.now _ c.requires.size c.parts.ensures.bytes

pub overflow_sub-size : goal.overflow_sub-size
overflow_sub-size c =
    end_within c.args.self.now c.parts.ensures.ranged c.args.count c.args.size c.index-length.result.now _ _ (omega (arith, c.if-count-eq0.false)) c.requires.there c.requires.size c.parts.ensures.lengths c.parts.ensures.bytes c.index-length.ensures

pub from_bytes-requires : goal.from_bytes-requires
from_bytes-requires c =
    (at_end c.args.self.now c.parts.ensures.ranged c.args.count c.args.size c.index-length.result.now _ _ (omega (arith, c.if-count-eq0.false)) c.requires.there c.requires.size c.parts.ensures.lengths c.parts.ensures.bytes c.index-length.ensures c.split_at.result.0.now c.split_at-2.result.1.now
    c.split_at.ensures.front c.split_at-2.ensures.back).is

pub returns : goal.returns
returns c =
    subst (λ (d : Done). IsLastOf (take c.args.count c.args.self.now) (Some d)) (sym c.from_bytes.ensures)
    (at_end c.args.self.now c.parts.ensures.ranged c.args.count c.args.size c.index-length.result.now _ _ (omega (arith, c.if-count-eq0.false)) c.requires.there c.requires.size c.parts.ensures.lengths c.parts.ensures.bytes c.index-length.ensures c.split_at.result.0.now c.split_at-2.result.1.now
    c.split_at.ensures.front c.split_at-2.ensures.back).last
