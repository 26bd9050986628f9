-- The lesser of two messages, either of which can be missing.
use Rattle.std.proofs.Common.{◌≡◌, Option, Some, None, refl, sym, ◌∙◌, ap, inl, inr}
use Rattle.std.proofs.lemmas.Bool.{cond-true, cond-false, cases_Bool}
use Rattle.eventkey.specs.Message.{IsAtMost, Message, is_before}
use Rattle.eventkey.proofs.Bags.{at_most_total, at_most_trans, same_from_at_most}
use Rattle.node.specs.Node.{lesser}

pub lesser_first : (x y : Message) → IsAtMost x y → lesser (Some x) (Some y) ≡ Some x
lesser_first x y h = cond-false (is_before y x) (Some y) (Some x) h

pub lesser_second : (x y : Message) → IsAtMost y x → lesser (Some x) (Some y) ≡ Some y
lesser_second x y h = elim (cases_Bool (is_before y x)) [
  | inl e ↦ cond-true (is_before y x) (Some y) (Some x) e
  | inr e ↦ lesser_first x y e ∙ ap Some (same_from_at_most x y e h)
]

pub lesser_none : (x : Option Message) → lesser x None ≡ x
lesser_none None = refl
lesser_none (Some x) = refl

pub lesser_comm : (x y : Option Message) → lesser x y ≡ lesser y x
lesser_comm None y = sym (lesser_none y)
lesser_comm (Some x) None = refl
lesser_comm (Some x) (Some y) = elim (at_most_total x y) [
  | inl h ↦ lesser_first x y h ∙ sym (lesser_second y x h)
  | inr h ↦ lesser_second x y h ∙ sym (lesser_first y x h)
]

lesser_assoc_some : (x y z : Message) → lesser (lesser (Some x) (Some y)) (Some z) ≡ lesser (Some x) (lesser (Some y) (Some z))
lesser_assoc_some x y z = elim (at_most_total x y) [
  | inl h ↦ ap (λ (m : Option Message). lesser m (Some z)) (lesser_first x y h) ∙ elim (at_most_total y z) [
    | inl k ↦ lesser_first x z (at_most_trans x y z h k) ∙ sym (ap (lesser (Some x)) (lesser_first y z k) ∙ lesser_first x y h)
    | inr k ↦ sym (ap (lesser (Some x)) (lesser_second y z k))
  ]
  | inr h ↦ ap (λ (m : Option Message). lesser m (Some z)) (lesser_second x y h) ∙ elim (at_most_total y z) [
    | inl k ↦ lesser_first y z k ∙ sym (ap (lesser (Some x)) (lesser_first y z k) ∙ lesser_second x y h)
    | inr k ↦ lesser_second y z k ∙ sym (ap (lesser (Some x)) (lesser_second y z k) ∙ lesser_second x z (at_most_trans z y x k h))
  ]
]

pub lesser_assoc : (x y z : Option Message) → lesser (lesser x y) z ≡ lesser x (lesser y z)
lesser_assoc None y z = refl
lesser_assoc (Some x) None z = refl
lesser_assoc (Some x) (Some y) None = lesser_none (lesser (Some x) (Some y))
lesser_assoc (Some x) (Some y) (Some z) = lesser_assoc_some x y z
