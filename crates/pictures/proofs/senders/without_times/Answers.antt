use Rattle.std.proofs.Common.{◌≡◌, ◌∷◌, [], ℕ, List, ap, arith, get_or, length, subst, sym, ◌∙◌}
use Rattle.std.proofs.lemmas.List.{get_or_default, length-append}
use Rattle.pictures.specs.Senders.{IsSender}
use Rattle.pictures.specs.declared.senders.Sender.{Sender}
use Rattle.pictures.proofs.OnTheWay.{each_push}
use Rattle.pictures.proofs.senders.without_times.Goals as goal

pub loop-sender-preserved : goal.loop-sender-preserved
loop-sender-preserved c =
    let P : ℕ → Sender → Type 0 = λ lp s. (e : Sender) (times : List ℕ) → IsSender times (get_or c.args.senders.now lp e) → IsSender times s in
    let i = c.loop-sender.sender-index in
    let xs = c.loop-sender.short.items in
    let was = c.sender-item.result in
    let at : (e : Sender) → get_or c.args.senders.now i e ≡ was = λ e. get_or_default c.args.senders.now i e was (omega arith) ∙ sym c.sender-item.is in
    let here : P i c.new.result = λ e times is. c.new.ensures.sender times (sym is.sent ∙ ap (λ (s : Sender). s.sent) (at e)) in
    record {
      long = ap length c.in_ok-push.ensures.items ∙ omega (arith, length-append xs (c.new.result ∷ []), c.loop-sender.invariant.long);
      each = rw c.in_ok-push.ensures.items (each_push P xs c.new.result c.loop-sender.invariant.each (subst (λ k. P k c.new.result) (sym c.loop-sender.invariant.long) here));
    }

pub returns : goal.returns
returns c = λ r are.
    let long : length c.loop-sender.short.items ≡ length c.args.senders.now = omega (arith, c.loop-sender.invariant.long) in
    record {
      long = long ∙ are.long;
      each = λ lp d l. c.loop-sender.invariant.each lp d (omega (arith, long, are.long)) d _ (are.each lp d l);
      others = are.others;
    }
