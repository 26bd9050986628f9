-- Sends that are compared one after another.
use Rattle.std.proofs.Common.{◌≡◌, ◌∙◌, ℕ, ◌+◌, ◌<◌, ◌≤◌, List, ◌∷◌, ap, arith, drop, get_or, length, sym}
use Rattle.std.proofs.lemmas.List.{drop_all}
use Rattle.eventkey.proofs.Lists.{drop_here}
use Rattle.eventkey.specs.Message.{Message}
use Rattle.model.proofs.Worlds.{length-stamp}
use Rattle.model.specs.Meaning.{stamp, stamped}
use Rattle.model.specs.declared.Outgoing.{Outgoing}

-- the messages from place i on are those of the sends from there on just as all are those of all
pub record AreSentSoFar (lp time number : ℕ) (sends : List Outgoing) (sent : List Message) (i next : ℕ) : Type 0 where
  pub next_is : next ≡ number + i
  pub size : length sent ≡ length sends
  pub rest : sent ≡ stamp lp time number sends → drop i sent ≡ stamp lp time next (drop i sends)
  pub whole : drop i sent ≡ stamp lp time next (drop i sends) → sent ≡ stamp lp time number sends

pub list_head : {X : Type 0} (x y : X) (xs ys : List X) → x ∷ xs ≡ y ∷ ys → (x ≡ y) × (xs ≡ ys)
list_head x y xs ys e = (ap (λ l. get_or l 0 x) e, ap (drop 1) e)

module _ (lp time number : ℕ) (sends : List Outgoing) (sent : List Message) where
  pub sent_begins : length sent ≡ length sends → AreSentSoFar lp time number sends sent 0 number
  sent_begins size = record { next_is = omega arith; size = size; rest = λ e. e; whole = λ e. e }

  pub sent_more : (i next : ℕ) (o : Outgoing) (x : Message) → i < length sends → o ≡ get_or sends i o → x ≡ get_or sent i x →
      x ≡ stamped lp time next o → AreSentSoFar lp time number sends sent i next → AreSentSoFar lp time number sends sent (i + 1) (next + 1)
  sent_more i next o x l o_is x_is here h =
      let size = h.size in
      let next_is = h.next_is in
      let sends_here = drop_here sends i o l o_is in
      let sent_here = drop_here sent i x (omega arith) x_is in
      record {
        next_is = omega arith;
        size = h.size;
        rest = λ e. (list_head x (stamped lp time next o) (drop (i + 1) sent) (stamp lp time (next + 1) (drop (i + 1) sends))
            (sym sent_here ∙ h.rest e ∙ ap (stamp lp time next) sends_here)).1;
        whole = λ e. h.whole
            (sent_here ∙ ap (λ y. y ∷ drop (i + 1) sent) here ∙ ap (λ ys. stamped lp time next o ∷ ys) e ∙ sym (ap (stamp lp time next) sends_here));
      }

  pub sent_fails : (i next : ℕ) (o : Outgoing) (x : Message) → i < length sends → o ≡ get_or sends i o → x ≡ get_or sent i x →
      (x ≡ stamped lp time next o → ⊥) → AreSentSoFar lp time number sends sent i next → sent ≡ stamp lp time number sends → ⊥
  sent_fails i next o x l o_is x_is not_here h e =
      let size = h.size in
      not_here
      (list_head x (stamped lp time next o) (drop (i + 1) sent) (stamp lp time (next + 1) (drop (i + 1) sends))
      (sym (drop_here sent i x (omega arith) x_is) ∙ h.rest e ∙ ap (stamp lp time next) (drop_here sends i o l o_is))).0

  pub sent_all : (i next : ℕ) → length sends ≤ i → AreSentSoFar lp time number sends sent i next → sent ≡ stamp lp time number sends
  sent_all i next l h =
      let size = h.size in
      h.whole (drop_all i sent (omega arith) ∙ sym (ap (stamp lp time next) (drop_all i sends l)))

  pub sent_length : sent ≡ stamp lp time number sends → length sent ≡ length sends
  sent_length e = ap length e ∙ length-stamp lp time number sends
