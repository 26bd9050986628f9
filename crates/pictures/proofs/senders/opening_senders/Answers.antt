use Rattle.std.proofs.Common.{◌∷◌, [], ℕ, ap, arith, get_or, length, replicate, subst, sym, ◌∙◌}
use Rattle.std.proofs.lemmas.List.{get_or_past, length-append, length-replicate}
use Rattle.pictures.specs.Senders.{IsFound, IsSender}
use Rattle.pictures.specs.declared.senders.Sender.{Sender}
use Rattle.pictures.proofs.OnTheWay.{each_push, opening_times}
use Rattle.pictures.proofs.senders.opening_senders.Goals as goal

pub loop-sent-preserved : goal.loop-sent-preserved
loop-sent-preserved c =
    let P : ℕ → Sender → Type 0 = λ lp s. IsSender (replicate (get_or c.args.numbers.now lp 0) 0) s × ((number : ℕ) → IsFound (replicate (get_or c.args.numbers.now lp 0) 0) s number) in
    let n : ℕ = get_or c.args.numbers.now c.loop-sent.sent-index 0 in
    let xs = c.loop-sent.senders.items in
    let here : P c.loop-sent.sent-index c.new.result = (c.new.ensures.sender (replicate n 0) (length-replicate n 0), c.new.ensures.opening) in
    record {
      long = ap length c.in_ok-push.ensures.items ∙ omega (arith, length-append xs (c.new.result ∷ []), c.loop-sent.invariant.long);
      each = rw c.in_ok-push.ensures.items (each_push P xs c.new.result c.loop-sent.invariant.each (subst (λ k. P k c.new.result) (sym c.loop-sent.invariant.long) here));
    }

pub returns-clause-senders : goal.returns-clause-senders
returns-clause-senders c = λ r first none.
    let long = c.loop-sent.invariant.long in
    record {
      long = omega (arith, long, ap length first);
      each = λ lp d l. subst (λ ts. IsSender ts (get_or c.loop-sent.senders.items lp d)) (sym (opening_times r c.args.numbers.now lp first none)) (c.loop-sent.invariant.each lp d (omega (arith, long, ap length first))).0;
      others = λ lp l. opening_times r c.args.numbers.now lp first none ∙ ap (λ n. replicate n 0) (get_or_past c.args.numbers.now lp 0 (omega (arith, ap length first)));
    }

pub returns-clause-found : goal.returns-clause-found
returns-clause-found c = λ r x first none d l.
    subst (λ ts. IsFound ts (get_or c.loop-sent.senders.items x.from d) x.number) (sym (opening_times r c.args.numbers.now x.from first none)) ((c.loop-sent.invariant.each x.from d l).1 x.number)
