use Rattle.std.proofs.Common.{◌≡◌, ◌-◌, ◌∙◌, ap, arith, length, rules, take}
use Rattle.process.proofs.HandlingBytes.{to_front}
use Rattle.process.proofs.handlings.drop_front.Goals as goal

pub returns : goal.returns
returns c =
    let long : c.len-end.result ≡ length c.args.bytes.now.items = search rules in
    c.truncate.ensures.items ∙ (ap (take (c.len-end.result - c.args.count)) c.copy_within.ensures.items ∙ to_front c.args.bytes.now.items c.args.count c.len-end.result (omega (arith, long, c.requires)) long)
