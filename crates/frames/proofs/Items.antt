-- The parts of bodies: each has one encoding, and no other bytes are read.
use Rattle.std.proofs.Common.{◌≡◌, ℕ, ◌^◌, ◌<◌, ◌≤◌, cond, List, ◌++◌, length, Option, Some, None, refl, subst, ◌∙◌, arith, inl, inr, eqb-true}
use Rattle.std.specs.Prelude.{nat_le, nat_lt, nat_eq, IfSome}
use Rattle.std.specs.List.{AllByRecursion as Every}
use Rattle.std.proofs.lemmas.Bool.{cases_Bool, leb-true, le-leb, ltb-true, lt-ltb}
use Rattle.std.proofs.lemmas.Option.{cond_some, same_Some}
use Rattle.byteorder.specs.Endian.{big_bytes}
use Rattle.eventkey.specs.Message.{Message, IsRanged}
use Rattle.eventkey.specs.Reading.{IsBytes, ◌>>=◌, number_at, items_at}
use Rattle.eventkey.specs.Encoding.{message_at, message_bytes}
use Rattle.eventkey.proofs.Fields.{IsFormat, Takes, Takes-then, format1, format4, format8, step_of, when_some}
use Rattle.eventkey.proofs.Encodings.{message_format}
use Rattle.model.proofs.Encoding.{words_format}
use Rattle.model.specs.Encoding.{words_at, words_bytes}
use Rattle.node.specs.declared.Part.{Part}
use Rattle.process.proofs.Formats.{Field, Messages, again_last, again_step}
use Rattle.process.specs.Reports.{counted_bytes}
use Rattle.frames.specs.Bodies.{low_at, low_bytes, part_at, part_bytes}
use Rattle.frames.specs.Ranges.{IsPart}
use Rattle.frames.proofs.Formats.{counted_last, counted_step}

-- 1. The part of a load

abbrev part_read : ℕ → ℕ → List ℕ → Messages → Option (Part × List ℕ)
part_read lp number words pending =
    cond (nat_le number (2 ^ 63)) (Some (record { lp = lp; number = number; words = words; pending = pending.0 }, pending.1)) None

abbrev part_after_words : ℕ → ℕ → List ℕ × List ℕ → Option (Part × List ℕ)
part_after_words lp number words = number_at 4 words.1 >>= λ count. items_at message_at count.0 count.1 >>= part_read lp number words.0

abbrev part_after_number : ℕ → Field → Option (Part × List ℕ)
part_after_number lp number = words_at number.1 >>= part_after_words lp number.0

abbrev part_after_lp : Field → Option (Part × List ℕ)
part_after_lp lp = number_at 8 lp.1 >>= part_after_number lp.0

part_takes : (bytes : List ℕ) (x : Part × List ℕ) → IsBytes bytes → part_at bytes ≡ Some x → Takes bytes (part_bytes x.0) x.1 × IsPart x.0
unfolding part_at part_bytes
part_takes bytes x fits e =
    let lp = step_of format4 bytes fits part_after_lp x e in
    let number = step_of format8 lp.got.1 lp.front.fits (part_after_number lp.got.0) x lp.rest in
    let words = step_of words_format number.got.1 number.front.fits (part_after_words lp.got.0 number.got.0) x number.rest in
    let pending = counted_step message_format words.got.1 words.front.fits (part_read lp.got.0 number.got.0 words.got.0) x words.rest in
    let made : Part = record { lp = lp.got.0; number = number.got.0; words = words.got.0; pending = pending.got.0 } in
    let is = cond_some (nat_le number.got.0 (2 ^ 63)) (made, pending.got.1) x pending.rest in
    let front = Takes-then _ _ _ _ _ lp.front (Takes-then _ _ _ _ _ number.front (Takes-then _ _ _ _ _ words.front pending.front)) in
    subst (λ (y : Part × List ℕ). Takes bytes (part_bytes y.0) y.1 × IsPart y.0) is.1
    (front, record { lp = lp.is; number = leb-true number.got.0 (2 ^ 63) is.0; words = words.is; count = pending.is.0; pending = pending.is.1 })

part_again : (p : Part) (rest : List ℕ) → IsPart p → part_at (part_bytes p ++ rest) ≡ Some (p, rest)
unfolding part_at part_bytes
part_again p rest is =
    let n = is.number in
    let pending = counted_bytes 4 message_bytes p.pending in
    again_step format4 p.lp (big_bytes 8 p.number ++ (words_bytes p.words ++ pending)) rest part_after_lp is.lp
    ∙ again_step format8 p.number (words_bytes p.words ++ pending) rest (part_after_number p.lp) (omega arith)
    ∙ again_step words_format p.words pending rest (part_after_words p.lp p.number) is.words
    ∙ counted_last message_format p.pending rest (part_read p.lp p.number p.words) is.count is.pending
    ∙ rw (le-leb p.number (2 ^ 63) n) refl

pub part_format : IsFormat IsPart part_bytes part_at
part_format = record { takes = part_takes; again = part_again }

-- 2. An optional time

abbrev IsLow : Option ℕ → Type 0
IsLow low = IfSome low (λ time. time < 2 ^ 41)

abbrev low_time : Field → Option (Option ℕ × List ℕ)
low_time time = cond (nat_lt time.0 (2 ^ 41)) (Some (Some time.0, time.1)) None

abbrev low_flag : Field → Option (Option ℕ × List ℕ)
low_flag flag = cond (nat_eq flag.0 0) (Some (None, flag.1)) (cond (nat_eq flag.0 1) (number_at 8 flag.1 >>= low_time) None)

low_takes : (bytes : List ℕ) (x : Option ℕ × List ℕ) → IsBytes bytes → low_at bytes ≡ Some x → Takes bytes (low_bytes x.0) x.1 × IsLow x.0
unfolding low_at low_bytes
low_takes bytes x fits e =
    let flag = step_of format1 bytes fits low_flag x e in
    let known = flag.rest in
    elim (cases_Bool (nat_eq flag.got.0 0)) [
      | inl none ↦ (let is : Some (None, flag.got.1) ≡ Some x = rw none at known in
          let front : Takes bytes (big_bytes 1 0) flag.got.1 = subst (λ (k : ℕ). Takes bytes (big_bytes 1 k) flag.got.1) (eqb-true flag.got.0 0 none) flag.front in
          subst (λ (y : Option ℕ × List ℕ). Takes bytes (low_bytes y.0) y.1 × IsLow y.0) (same_Some {A = Option ℕ × List ℕ} (None, flag.got.1) x is) (front, tt))
      | inr some ↦
          let then_one : cond (nat_eq flag.got.0 1) (number_at 8 flag.got.1 >>= low_time) None ≡ Some x = rw some at known in
          let one = when_some (nat_eq flag.got.0 1) (number_at 8 flag.got.1 >>= low_time) x then_one in
          let time = step_of format8 flag.got.1 flag.front.fits low_time x one.1 in
          let is = cond_some (nat_lt time.got.0 (2 ^ 41)) (Some time.got.0, time.got.1) x time.rest in
          let front : Takes bytes (big_bytes 1 1) flag.got.1 = subst (λ (k : ℕ). Takes bytes (big_bytes 1 k) flag.got.1) (eqb-true flag.got.0 1 one.0) flag.front in
          subst (λ (y : Option ℕ × List ℕ). Takes bytes (low_bytes y.0) y.1 × IsLow y.0) is.1 (Takes-then _ _ _ _ _ front time.front, ltb-true time.got.0 (2 ^ 41) is.0)
    ]

low_again : (low : Option ℕ) (rest : List ℕ) → IsLow low → low_at (low_bytes low ++ rest) ≡ Some (low, rest)
unfolding low_at low_bytes
low_again None rest is = again_last format1 0 rest low_flag (omega arith)
low_again (Some time) rest is =
    again_step format1 1 (big_bytes 8 time) rest low_flag (omega arith)
    ∙ again_last format8 time rest low_time (omega (arith, is))
    ∙ rw (lt-ltb time (2 ^ 41) is) refl

pub low_format : IsFormat IsLow low_bytes low_at
low_format = record { takes = low_takes; again = low_again }
