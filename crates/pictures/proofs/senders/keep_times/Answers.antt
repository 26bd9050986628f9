use Rattle.std.specs.List.{AllByRecursion as Every}
use Rattle.std.proofs.Common.{◌∷◌, [], arith, get_or, subst, sym, take}
use Rattle.std.proofs.lemmas.List.{take_all, take_more}
use Rattle.eventkey.proofs.Lists.{Every-append, Every-get_or, Every-weaker}
use Rattle.pictures.specs.Senders.{HaveTime}
use Rattle.pictures.proofs.senders.keep_times.Goals as goal

pub loop-message-preserved : goal.loop-message-preserved
loop-message-preserved c = λ r are old have.
    let i = c.loop-message.message-index in
    let xs = c.args.messages.now in
    let x = c.message-item.result in
    let (before, found) = c.loop-message.invariant r are old have in
    let new = c.keep_time.new.short.items in
    let one : HaveTime r c.args.senders.now x = subst (HaveTime r c.args.senders.now) (sym c.message-item.is) (Every-get_or (HaveTime r c.args.senders.now) xs i x (omega arith) have) in
    let kept = c.in_ok-keep_time.ensures.kept r are before.senders one in
    let here : HaveTime r new (get_or xs i x) = subst (HaveTime r new) c.message-item.is (c.in_ok-keep_time.ensures.found r are before.senders one) in (
      record { senders = kept.senders; found = λ y h. kept.found y (before.found y h) },
      subst (Every (HaveTime r new)) (sym (take_more xs i x (omega arith)))
          (Every-append (HaveTime r new) (take i xs) (get_or xs i x ∷ []) (Every-weaker (HaveTime r c.loop-message.short.items) (HaveTime r new) kept.found (take i xs) found) (here, tt)),
    )

pub returns-clause-kept : goal.returns-clause-kept
returns-clause-kept c = λ r are old have. (c.loop-message.invariant r are old have).0

pub returns-clause-found : goal.returns-clause-found
returns-clause-found c = λ r are old have.
    subst (Every (HaveTime r c.loop-message.short.items)) (take_all c.loop-message.message-index c.args.messages.now (omega arith)) (c.loop-message.invariant r are old have).1
