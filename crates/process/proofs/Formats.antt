-- The bytes of a reported handling: it has one encoding, and no other bytes are read.
use Rattle.std.proofs.Common.{◌≡◌, ℕ, ◌^◌, ◌<◌, ◌≤◌, cond, List, ◌++◌, length, Option, Some, None, refl, sym, ap, subst, ◌∙◌, append_assoc, arith}
use Rattle.std.specs.Prelude.{nat_le}
use Rattle.std.specs.List.{flat_map, AllByRecursion as Every}
use Rattle.std.proofs.lemmas.Bool.{cond-false, cond-true, leb-true, le-leb, lt-leb}
use Rattle.std.proofs.lemmas.Option.{cond_some}
use Rattle.byteorder.specs.Endian.{big_bytes}
use Rattle.eventkey.specs.Message.{Message, IsRanged}
use Rattle.eventkey.specs.Reading.{IsBytes, ◌>>=◌, Reader, number_at, items_at}
use Rattle.eventkey.specs.Encoding.{message_at, message_bytes}
use Rattle.eventkey.proofs.Fields.{IsFormat, Takes, Takes-then, format1, format8, items_again, items_take, step_of, when_some}
use Rattle.eventkey.proofs.Encodings.{message_format}
use Rattle.model.proofs.Encoding.{words_format}
use Rattle.model.specs.Encoding.{words_at, words_bytes}
use Rattle.process.specs.declared.Done.{Done}
use Rattle.process.specs.Reports.{IsDone, Skips, counted_at, counted_bytes, done_at, done_bytes}

abbrev pub Field : Type 0
Field = ℕ × List ℕ

abbrev pub Messages : Type 0
Messages = List Message × List ℕ

-- a reader that begins with another one, over what was written
module _ {X Y : Type 0} {Fits : X → Type 0} {write : X → List ℕ} {read : Reader X} (format : IsFormat Fits write read) where
  pub again_last : (x : X) (rest : List ℕ) (f : X × List ℕ → Option Y) → Fits x → (read (write x ++ rest) >>= f) ≡ f (x, rest)
  again_last x rest f fits = ap (λ (o : Option (X × List ℕ)). o >>= f) (format.again x rest fits)

  pub again_step : (x : X) (tail rest : List ℕ) (f : X × List ℕ → Option Y) → Fits x → (read ((write x ++ tail) ++ rest) >>= f) ≡ f (x, tail ++ rest)
  again_step x tail rest f fits = ap (λ (b : List ℕ). read b >>= f) (append_assoc (write x) tail rest) ∙ again_last x (tail ++ rest) f fits

-- a count of one byte, at most `most`, and that number of items
module _ {X : Type 0} {Fits : X → Type 0} {write : X → List ℕ} {read : Reader X} (format : IsFormat Fits write read) (most : ℕ) (small : most < 256) where
  abbrev pub Few : List X → Type 0
  Few xs = (length xs ≤ most) × Every Fits xs

  few_takes : (bytes : List ℕ) (x : List X × List ℕ) → IsBytes bytes → counted_at 1 most read bytes ≡ Some x → Takes bytes (counted_bytes 1 write x.0) x.1 × Few x.0
  few_takes bytes x fits e =
      let n = step_of format1 bytes fits (λ count. cond (nat_le count.0 most) (items_at read count.0 count.1) None) x e in
      let is = when_some (nat_le n.got.0 most) (items_at read n.got.0 n.got.1) x n.rest in
      let t = items_take Fits write read format n.got.0 n.got.1 x n.front.fits is.1 in
      let front = Takes-then bytes (big_bytes 1 n.got.0) n.got.1 (flat_map write x.0) x.1 n.front t.0 in (
        subst (λ (k : ℕ). Takes bytes (big_bytes 1 k ++ flat_map write x.0) x.1) (sym t.1) front,
        (subst (λ (k : ℕ). k ≤ most) (sym t.1) (leb-true n.got.0 most is.0), t.2),
      )

  few_again : (xs : List X) (rest : List ℕ) → Few xs → counted_at 1 most read (counted_bytes 1 write xs ++ rest) ≡ Some (xs, rest)
  few_again xs rest fits =
      let few = fits.0 in
      again_step format1 (length xs) (flat_map write xs) rest (λ count. cond (nat_le count.0 most) (items_at read count.0 count.1) None) (omega arith)
      ∙ rw (le-leb (length xs) most few) (items_again Fits write read format xs rest fits.1)

  pub few_format : IsFormat Few (counted_bytes 1 write) (counted_at 1 most read)
  few_format = record { takes = few_takes; again = few_again }

pub sent_format : IsFormat (λ (sent : List Message). (length sent ≤ 8) × Every IsRanged sent) (counted_bytes 1 message_bytes) (counted_at 1 8 message_at)
sent_format = few_format message_format 8 (omega arith)

abbrev done_read : Message → List Message → List ℕ → Field → Option (Done × List ℕ)
done_read message sent after number =
    cond (nat_le number.0 (2 ^ 63)) (Some (record { message = message; sent = sent; after = after; number_after = number.0 }, number.1)) None

abbrev done_after_words : Message → List Message → List ℕ × List ℕ → Option (Done × List ℕ)
done_after_words message sent after = number_at 8 after.1 >>= done_read message sent after.0

abbrev done_after_sent : Message → Messages → Option (Done × List ℕ)
done_after_sent message sent = words_at sent.1 >>= done_after_words message sent.0

abbrev done_after_message : Message × List ℕ → Option (Done × List ℕ)
done_after_message message = counted_at 1 8 message_at message.1 >>= done_after_sent message.0

done_takes : (bytes : List ℕ) (x : Done × List ℕ) → IsBytes bytes → done_at bytes ≡ Some x → Takes bytes (done_bytes x.0) x.1 × IsDone x.0
unfolding done_at done_bytes
done_takes bytes x fits e =
    let message = step_of message_format bytes fits done_after_message x e in
    let sent = step_of sent_format message.got.1 message.front.fits (done_after_sent message.got.0) x message.rest in
    let after = step_of words_format sent.got.1 sent.front.fits (done_after_words message.got.0 sent.got.0) x sent.rest in
    let number = step_of format8 after.got.1 after.front.fits (done_read message.got.0 sent.got.0 after.got.0) x after.rest in
    let made : Done = record { message = message.got.0; sent = sent.got.0; after = after.got.0; number_after = number.got.0 } in
    let is = cond_some (nat_le number.got.0 (2 ^ 63)) (made, number.got.1) x number.rest in
    let front = Takes-then _ _ _ _ _ message.front (Takes-then _ _ _ _ _ sent.front (Takes-then _ _ _ _ _ after.front number.front)) in
    subst (λ (y : Done × List ℕ). Takes bytes (done_bytes y.0) y.1 × IsDone y.0) is.1
    (front, record { message = message.is; few = sent.is.0; sent = sent.is.1; after = after.is; number = leb-true number.got.0 (2 ^ 63) is.0 })

done_again : (d : Done) (rest : List ℕ) → IsDone d → done_at (done_bytes d ++ rest) ≡ Some (d, rest)
unfolding done_at done_bytes
done_again d rest is =
    let n = is.number in
    again_step message_format d.message (counted_bytes 1 message_bytes d.sent ++ (words_bytes d.after ++ big_bytes 8 d.number_after)) rest done_after_message is.message
    ∙ again_step sent_format d.sent (words_bytes d.after ++ big_bytes 8 d.number_after) rest (done_after_sent d.message) (is.few, is.sent)
    ∙ again_step words_format d.after (big_bytes 8 d.number_after) rest (done_after_words d.message d.sent) is.after
    ∙ again_last format8 d.number_after rest (done_read d.message d.sent d.after) (omega arith)
    ∙ rw (le-leb d.number_after (2 ^ 63) n) refl

pub done_format : IsFormat IsDone done_bytes done_at
done_format = record { takes = done_takes; again = done_again }

-- Steps of a reader that goes over a report without keeping what it reads

module _ (bytes : List ℕ) where
  pub no_message : message_at bytes ≡ None → done_at bytes ≡ None
  unfolding done_at
  no_message none = rw none refl

  module _ (message : Message) (sends : List ℕ) (read : message_at bytes ≡ Some (message, sends)) where
    pub no_sent : counted_at 1 8 message_at sends ≡ None → done_at bytes ≡ None
    unfolding done_at
    no_sent none = ap (λ (o : Option (Message × List ℕ)). o >>= done_after_message) read ∙ ap (λ (o : Option Messages). o >>= done_after_sent message) none

    module _ (words : List ℕ) (sent : Skips (counted_at 1 8 message_at sends) (Some words)) where
      to_words : done_at bytes ≡ (words_at words >>= done_after_words message sent.0)
      unfolding done_at
      to_words = ap (λ (o : Option (Message × List ℕ)). o >>= done_after_message) read ∙ ap (λ (o : Option Messages). o >>= done_after_sent message) sent.1

      pub no_words : words_at words ≡ None → done_at bytes ≡ None
      no_words none = to_words ∙ ap (λ (o : Option (List ℕ × List ℕ)). o >>= done_after_words message sent.0) none

      module _ (number : List ℕ) (after : Skips (words_at words) (Some number)) where
        to_number : done_at bytes ≡ (number_at 8 number >>= done_read message sent.0 after.0)
        to_number = to_words ∙ ap (λ (o : Option (List ℕ × List ℕ)). o >>= done_after_words message sent.0) after.1

        pub no_number : number_at 8 number ≡ None → done_at bytes ≡ None
        no_number none = to_number ∙ ap (λ (o : Option Field). o >>= done_read message sent.0 after.0) none

        module _ (n : ℕ) (rest : List ℕ) (read_number : number_at 8 number ≡ Some (n, rest)) where
          pub too_great : 2 ^ 63 < n → done_at bytes ≡ None
          too_great great =
              to_number ∙ ap (λ (o : Option Field). o >>= done_read message sent.0 after.0) read_number
              ∙ cond-false (nat_le n (2 ^ 63)) (Some (record { message = message; sent = sent.0; after = after.0; number_after = n }, rest)) None (lt-leb n (2 ^ 63) great)

          pub all_read : n ≤ 2 ^ 63 → Skips (done_at bytes) (Some rest)
          all_read few = (
            record { message = message; sent = sent.0; after = after.0; number_after = n },
            to_number ∙ ap (λ (o : Option Field). o >>= done_read message sent.0 after.0) read_number
                ∙ cond-true (nat_le n (2 ^ 63)) (Some (record { message = message; sent = sent.0; after = after.0; number_after = n }, rest)) None (le-leb n (2 ^ 63) few),
          )
