use Rattle.std.proofs.Common.{◌≡◌, length, arith}
use Rattle.gvt.proofs.Sweeps.{clear_cut, length_cut}
use Rattle.gvt.proofs.transit.drop_marked.Goals as goal

pub returns-clause-clear : goal.returns-clause-clear
returns-clause-clear c =
    let within = c.sweep-kept.ensures.within in
    let same = c.sweep-kept.auto.messages in
    let long : length c.truncate.new.self.items ≡ c.sweep-kept.result.0 =
    length_cut c.truncate.new.self.items c.sweep-kept.new.messages _ c.sweep-kept.result.0 c.args.messages.now.len c.truncate.ensures.items (omega (arith, c.args.messages.now.ok)) (omega arith)
    in
    clear_cut c.truncate-2.new.self.items c.sweep-kept.new.marks _ c.sweep-kept.result.0 c.args.marks.now.len _ _ c.truncate-2.ensures.items c.sweep-kept.ensures.clear (omega (arith, c.args.marks.now.ok, c.requires)) (omega arith) long
