use Rattle.std.proofs.Common.{◌∙◌, length, arith, length-append}
use Rattle.gvt.proofs.Floors.{low_in-append}
use Rattle.gvt.proofs.Marks.{clear_resized}
use Rattle.gvt.proofs.transit.Transit.append.Goals as goal

pub invariant_of-self-2 : goal.invariant_of-self-2
invariant_of-self-2 c =
    let messages = c.in_ok-extend_from_slice.ensures.items in (
      clear_resized c.resize.new.self.items c.reserve.new.self.items c.len.result c.reserve.new.self.len (length c.self.inside.messages.items) (length c.extend_from_slice.new.self.items)
          (rw c.unwrap.ensures at c.resize.ensures.items) (c.reserve.ensures.items ∙ c.self.invariant.0) c.reserve.new.self.ok.0 (c.len.ensures ∙ c.extend_from_slice.new.self.ok.0)
          (rw (messages, length-append c.self.inside.messages.items c.args.sent.now) (omega arith)),
      rw (messages, low_in-append, ← c.self.invariant.1, ← c.least_of.ensures) c.lesser-self-inside.ensures,
    )
