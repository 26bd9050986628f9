use Rattle.std.proofs.Common.{◌≡◌, ◌∙◌, arith, length, rules, sym}
use Rattle.queues.proofs.Undone.{but_last-take}
use Rattle.queues.proofs.done.undo.Goals as goal

pub returns : goal.returns
returns c =
    let long : c.len.result ≡ length c.args.done.now.items = search rules in
    rw long at c.truncate.ensures.items ∙ sym (but_last-take c.args.count c.args.done.now.items (omega (arith, c.requires)))
