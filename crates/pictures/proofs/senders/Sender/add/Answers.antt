use Rattle.std.proofs.Common.{◌≡◌, ◌-◌, ◌++◌, ap, arith, length, refl, replicate, ◌∙◌}
use Rattle.std.proofs.lemmas.List.{length-append, length-replicate}
use Rattle.pictures.specs.declared.senders.Sender.{Sender}
use Rattle.pictures.proofs.OnTheWay.{found_more, sender_more}
use Rattle.pictures.proofs.senders.Sender.add.Goals as goal

pub returns-clause-sender : goal.returns-clause-sender
returns-clause-sender c = λ times is le.
    let count : c.saturating_sub.result ≡ c.args.sent - length times = omega (arith, is.sent) in
    sender_more times c.args.self.now _ (replicate (c.args.sent - length times) c.args.time) is
    (c.in_ok-add_times.ensures ∙ ap (λ n. c.args.self.now.times.items ++ replicate n c.args.time) count)
    (omega (arith, length-replicate (c.args.sent - length times) c.args.time))

pub returns-clause-found : goal.returns-clause-found
returns-clause-found c = λ times more number is le found.
    let long = ap length c.in_ok-add_times.ensures ∙ length-append c.args.self.now.times.items (replicate c.saturating_sub.result c.args.time) in
    let whole = ap length is.all ∙ length-append is.before c.args.self.now.times.items in
    let new : Sender = record { sent = c.args.sent; times = c.add_times.new.row; earlier = c.args.self.now.earlier } in
    found_more times more c.args.self.now new number (omega (arith, long, whole, is.sent, length-replicate c.saturating_sub.result c.args.time)) refl found
