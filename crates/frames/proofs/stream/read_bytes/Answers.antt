use Rattle.std.proofs.Common.{rules, ◌≡◌, ◌-◌, length, take, arith, length-take}
use Rattle.frames.proofs.Halfway.{min_second, comes_io, fewer_given, more_given}
use Rattle.frames.proofs.stream.read_bytes.Goals as goal

pub returns-in_err-came : goal.returns-in_err-came
returns-in_err-came g c =
    let room = c.min-room.ensures in
    let same : length c.fill.new.buffer ≡ c.min-room.result = search rules in
    let len = c.len.ensures in
    let start = c.len-start.ensures in
    let least = min_second c.max.result (c.args.count - c.len-start.result) in
    comes_io _ _ _ _ c.from_residual-in_err-came.result c.from_residual-in_err-came.ensures.1
    (more_given _ _ _ _ _ _ c.loop-body.invariant.1 c.in_err-came.ensures.err (omega (arith, room, len, start, same, least, c.loop-body.body.ok)))

pub returns-then-came-room : goal.returns-then-came-room
returns-then-came-room g c =
    let short = c.if-came-room.true in
    let bound = c.in_ok-came.ensures.bound in
    let room = c.min-room.ensures in
    let same : length c.fill.new.buffer ≡ c.min-room.result = search rules in
    let len = c.len.ensures in
    let start = c.len-start.ensures in
    let least = min_second c.max.result (c.args.count - c.len-start.result) in
    let size = length-take c.in_ok-came.came c.fill.new.buffer in
    fewer_given _ _ _ _ _ _ c.loop-body.invariant.1 c.in_ok-came.ensures.bytes (c.in_ok-came.ensures.end (omega (arith, same, short))) (omega (arith, short, room, len, start, size, least, c.loop-body.body.ok))
