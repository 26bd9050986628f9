use Rattle.std.proofs.Common.{◌≡◌, ◌+◌, ◌-◌, ◌++◌, ◌∷◌, [], ◌∙◌, List, ℕ, ap, append_assoc, arith, map, subst, sym, take}
use Rattle.std.proofs.lemmas.List.{map-append, take_all, take_more}
use Rattle.eventkey.proofs.Lists.{Every-get_or}
use Rattle.eventkey.specs.Message.{Message}
use Rattle.pictures.specs.Delays.{AreCounted}
use Rattle.pictures.specs.Figures.{delay_of}
use Rattle.pictures.specs.Senders.{HaveTime}
use Rattle.pictures.proofs.counted.add_delays.Goals as goal

pub loop-message-preserved : goal.loop-message-preserved
loop-message-preserved c = λ r before are have counted.
    let i = c.loop-message.message-index in
    let xs = c.args.messages.now in
    let x = c.message-item.result in
    let f : Message → ℕ = delay_of r in
    let one : HaveTime r c.args.senders.now x = subst (HaveTime r c.args.senders.now) (sym c.message-item.is) (Every-get_or (HaveTime r c.args.senders.now) xs i x (omega arith) have) in
    let delay : c.saturating_sub.result ≡ f x = c.saturating_sub.ensures ∙ ap (λ t. t - c.sent_at.result) c.time.ensures ∙ ap (λ t. x.time - t) (c.sent_at.ensures r are one) in
    let so_far : List ℕ = before ++ map f (take i xs) in
    let added = c.in_ok-add.ensures so_far (c.loop-message.invariant r before are have counted) in
    let items : so_far ++ c.saturating_sub.result ∷ [] ≡ before ++ map f (take (i + 1) xs) =
    ap (λ d. so_far ++ d ∷ []) delay ∙ append_assoc before (map f (take i xs)) (f x ∷ [])
    ∙ ap (λ ds. before ++ ds) (sym (map-append f (take i xs) (x ∷ [])) ∙ ap (map f) (ap (λ (y : Message). take i xs ++ y ∷ []) c.message-item.is ∙ sym (take_more xs i x (omega arith)))) in
    subst (λ ds. AreCounted ds c.add.new.self) items added

pub returns : goal.returns
returns c = λ r before are have counted.
    subst (λ ms. AreCounted (before ++ map (delay_of r) ms) c.loop-message.delays) (take_all c.loop-message.message-index c.args.messages.now (omega arith)) (c.loop-message.invariant r before are have counted)
