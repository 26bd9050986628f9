-- Reports as bytes: what they are after a report was read, taken or appended.
use Rattle.std.proofs.Common.{◌≡◌, ℕ, suc, ◌+◌, ◌-◌, ◌*◌, ◌^◌, ◌<◌, ◌≤◌, List, [], ◌∷◌, ◌++◌, length, take, drop, set, get_or, Option, Some, None, refl, sym, ap, ap₂, subst, ◌∙◌, append_assoc, append-nil, length-append, length-drop, arith}
use Rattle.std.specs.Prelude.{Bool, Err, IfOk, IfSome, Ok, OnOk, Result, false, true}
use Rattle.std.specs.List.{All, filter, flat_map, list_all, AllByRecursion as Every}
use Rattle.std.proofs.lemmas.Grind.{common_steps, flat_map-append}
use Rattle.std.proofs.lemmas.List.Elements.{filter-append}
use Rattle.std.proofs.lemmas.List.Folds.{list_all-append}
use Rattle.std.proofs.lemmas.List.{drop_at, take_at}
use Rattle.std.proofs.lemmas.Option.{none-some, same_Some}
use Rattle.byteorder.specs.Endian.{big_bytes}
use Rattle.byteorder.specs.Numbers.{length-bytes_high_first}
use Rattle.eventkey.proofs.Encodings.{length-messages, message_format}
use Rattle.eventkey.proofs.Readings.{encodings_are_as_long}
use Rattle.eventkey.proofs.Fields.{format1, format8, items_again, items_take}
use Rattle.eventkey.proofs.Lists.{Every-append, drop_here}
use Rattle.eventkey.proofs.Loop.{items_begin, items_done, items_fail, items_go_on, with_front}
use Rattle.eventkey.specs.Encoding.{message_at, message_bytes}
use Rattle.eventkey.specs.Message.{IsRanged, Message}
use Rattle.eventkey.specs.Reading.{IsBytes, Reader, items_at, number_at}
use Rattle.model.proofs.Encoding.{length-words, words_format}
use Rattle.model.specs.Encoding.{words_at, words_bytes}
use Rattle.process.specs.Reports.{AreReports, IsDone, IsReport, Skips, counted_at, counted_bytes, done_at, done_bytes, found_or, nothing, report_in, reports_in}
use Rattle.process.specs.View.{IsDoneInRange}
use Rattle.process.specs.declared.Done.{Done}
use Rattle.process.proofs.Formats.{done_format, sent_format}

-- 1. Bytes that encode a list of handlings

pub record Encode (count : ℕ) (bytes : List ℕ) (ds : List Done) : Type 0 where
  pub value : reports_in count bytes ≡ ds
  pub are : AreReports count bytes

pub encode : (count : ℕ) (bytes : List ℕ) (ds : List Done) → count ≡ length ds → bytes ≡ flat_map done_bytes ds → Every IsDone ds → Encode count bytes ds
encode count bytes ds many whole ranged =
    let text = flat_map done_bytes ds in
    let value : reports_in count bytes ≡ ds =
    ap₂ (λ (n : ℕ) (b : List ℕ). reports_in n b) many (whole ∙ sym (append-nil text)) ∙ ap (λ (o : Option (List Done × List ℕ)). found_or [] o) (items_again IsDone done_bytes done_at done_format ds [] ranged) in
    record {
      value = value;
      are = record { whole = whole ∙ ap (flat_map done_bytes) (sym value); many = ap length value ∙ sym many; ranged = subst (Every IsDone) (sym value) ranged };
    }

pub nothing_encodes : (bytes : List ℕ) → bytes ≡ [] → AreReports 0 bytes
nothing_encodes bytes e = (encode 0 bytes [] refl e tt).are

pub encode_append : (count more : ℕ) (bytes text new : List ℕ) → AreReports count bytes → AreReports more text → new ≡ bytes ++ text → Encode (count + more) new (reports_in count bytes ++ reports_in more text)
encode_append count more bytes text new a b e =
    encode (count + more) new (reports_in count bytes ++ reports_in more text) (omega (arith, a.many, b.many, length-append (reports_in count bytes) (reports_in more text)))
    (e ∙ (ap₂ (λ (x y : List ℕ). x ++ y) a.whole b.whole ∙ sym (flat_map-append done_bytes (reports_in count bytes) (reports_in more text))))
    (Every-append IsDone (reports_in count bytes) (reports_in more text) a.ranged b.ranged)

pub encode_push : (count : ℕ) (bytes new : List ℕ) (d : Done) → AreReports count bytes → IsDone d → new ≡ bytes ++ done_bytes d → Encode (count + 1) new (reports_in count bytes ++ d ∷ [])
encode_push count bytes new d a is e =
    let ds = reports_in count bytes in
    encode (count + 1) new (ds ++ d ∷ []) (omega (arith, a.many, length-append ds (d ∷ [])))
    (e ∙ (ap₂ (λ (x y : List ℕ). x ++ y) a.whole (sym (append-nil (done_bytes d))) ∙ sym (flat_map-append done_bytes ds (d ∷ []))))
    (Every-append IsDone ds (d ∷ []) a.ranged (is, tt))

-- after a handling, a report, or other reports were appended

module _ (count : ℕ) (bytes new : List ℕ) (a : AreReports count bytes) where
  module _ (d : Done) (is : IsDone d) (e : new ≡ bytes ++ done_bytes d) where
    pub pushed_are : AreReports (count + 1) new
    pushed_are = (encode_push count bytes new d a is e).are

    pub pushed_value : reports_in (count + 1) new ≡ reports_in count bytes ++ d ∷ []
    pushed_value = (encode_push count bytes new d a is e).value

  module _ (report : List ℕ) (r : IsReport report) (e : new ≡ bytes ++ report) where
    pub copied_are : AreReports (count + 1) new
    copied_are = pushed_are (report_in report) r.ranged (e ∙ ap (λ (b : List ℕ). bytes ++ b) r.whole)

    pub copied_value : reports_in (count + 1) new ≡ reports_in count bytes ++ report_in report ∷ []
    copied_value = pushed_value (report_in report) r.ranged (e ∙ ap (λ (b : List ℕ). bytes ++ b) r.whole)

  module _ (more : ℕ) (text : List ℕ) (b : AreReports more text) (e : new ≡ bytes ++ text) where
    pub appended_are : AreReports (count + more) new
    appended_are = (encode_append count more bytes text new a b e).are

    pub appended_value : reports_in (count + more) new ≡ reports_in count bytes ++ reports_in more text
    appended_value = (encode_append count more bytes text new a b e).value

-- what a failed append added is cut off again
pub cut_off : (bytes more long new : List ℕ) → long ≡ bytes ++ more → new ≡ take (length bytes) long → new ≡ bytes
cut_off bytes more long new e is = is ∙ (ap (λ (b : List ℕ). take (length bytes) b) e ∙ take_at bytes more (length bytes) refl)

-- each report takes a byte at least
pub some_done : (d : Done) → 1 ≤ length (done_bytes d)
unfolding done_bytes
some_done d = omega (arith, length-append {A = ℕ}, encodings_are_as_long.0 d.message)

few : (ds : List Done) → length ds ≤ length (flat_map done_bytes ds)
few [] = omega arith
few (d ∷ ds) = omega (arith, length-append (done_bytes d) (flat_map done_bytes ds), some_done d, few ds)

pub count_fits : (count : ℕ) (bytes : List ℕ) → AreReports count bytes → count ≤ length bytes
count_fits count bytes a = omega (arith, a.many, few (reports_in count bytes), ap length a.whole)

-- the parts of a handling, appended one after another
pub written : {T E : Type 0} (r : Result T E) (o0 o1 o2 o3 o4 new : List ℕ) (d : Done) → o1 ≡ o0 ++ message_bytes d.message → o2 ≡ o1 ++ big_bytes 1 (length d.sent) → o3 ≡ o2 ++ flat_map message_bytes d.sent → o4 ≡ o3 ++ words_bytes d.after →
    OnOk r (new ≡ o4 ++ big_bytes 8 d.number_after) → OnOk r (new ≡ o0 ++ done_bytes d)
unfolding done_bytes
written (Ok x) o0 o1 o2 o3 o4 new d a b c e f =
    let message = message_bytes d.message in
    let count = big_bytes 1 (length d.sent) in
    let sent = flat_map message_bytes d.sent in
    let words = words_bytes d.after in
    let number = big_bytes 8 d.number_after in
    f ∙ (ap (λ (o : List ℕ). o ++ number) (e ∙ ap (λ (o : List ℕ). o ++ words) (c ∙ ap (λ (o : List ℕ). o ++ sent) (b ∙ ap (λ (o : List ℕ). o ++ count) a)))
    ∙ (append_assoc (((o0 ++ message) ++ count) ++ sent) words number
    ∙ (ap (λ (o : List ℕ). o ++ (words ++ number)) (append_assoc (o0 ++ message) count sent)
    ∙ (append_assoc (o0 ++ message) (count ++ sent) (words ++ number)
    ∙ append_assoc o0 message ((count ++ sent) ++ (words ++ number))))))
written (Err x) o0 o1 o2 o3 o4 new d a b c e f = tt

-- a handling, from slices of its lists
pub same_done : (d : Done) (sent : List Message) (after : List ℕ) → sent ≡ d.sent → after ≡ d.after → record { message = d.message; sent = sent; after = after; number_after = d.number_after } ≡ d
same_done d sent after a b = ap₂ (λ (xs : List Message) (ws : List ℕ). record { message = d.message; sent = xs; after = ws; number_after = d.number_after }) a b

-- 2. Reading

-- what was gone over are the reports before the rest
module _ (count : ℕ) (bytes rest : List ℕ) (fits : IsBytes bytes) (s : Skips (items_at done_at count bytes) (Some rest)) where
  got : (bytes ≡ flat_map done_bytes s.0 ++ rest) × (length s.0 ≡ count) × Every IsDone s.0
  got = let all = items_take IsDone done_bytes done_at done_format count bytes (s.0, rest) fits s.1 in (all.0.parts, all.1, all.2)

  both : length bytes ≡ length (flat_map done_bytes s.0) + length rest
  both = omega (arith, ap length got.0, length-append (flat_map done_bytes s.0) rest)

  pub read_shorter : length rest ≤ length bytes
  read_shorter = omega (arith, both)

  module _ (front : List ℕ) (e : front ≡ take (length bytes - length rest) bytes) where
    made : Encode count front s.0
    made =
        let text = flat_map done_bytes s.0 in
        let long : length bytes - length rest ≡ length text = omega (arith, both) in
        encode count front s.0 (sym got.1) (e ∙ (ap₂ (λ (n : ℕ) (b : List ℕ). take n b) long got.0 ∙ take_at text rest (length text) refl)) got.2

    pub read_reports : AreReports count front
    read_reports = made.are

    pub read_value : items_at done_at count bytes ≡ Some (reports_in count front, rest)
    read_value = s.1 ∙ ap (λ (ds : List Done). Some (ds, rest)) (sym made.value)

-- 3. The first report

pub record IsTaken (count left : ℕ) (bytes report rest : List ℕ) : Type 0 where
  pub is : IsReport report
  pub are : AreReports left rest
  pub value : reports_in count bytes ≡ report_in report ∷ reports_in left rest
  pub shorter : length rest ≤ length bytes

pub one_report : (bytes : List ℕ) (d : Done) → IsDone d → bytes ≡ done_bytes d → IsReport bytes × (report_in bytes ≡ d)
one_report bytes d is e =
    let value : report_in bytes ≡ d = ap (λ (b : List ℕ). report_in b) (e ∙ sym (append-nil (done_bytes d))) ∙ ap (λ (o : Option (Done × List ℕ)). found_or nothing o) (done_format.again d [] is) in
    (record { whole = e ∙ ap done_bytes (sym value); ranged = subst IsDone (sym value) is }, value)

-- the first of these handlings, and the bytes after it
first_of : (bytes rest : List ℕ) (d : Done) (ds : List Done) → bytes ≡ done_bytes d ++ flat_map done_bytes ds → IsDone d → Skips (done_at bytes) (Some rest) → flat_map done_bytes ds ≡ rest
first_of bytes rest d ds whole is s =
    let others = flat_map done_bytes ds in
    ap (λ (x : Done × List ℕ). x.1) (same_Some {A = Done × List ℕ} (d, others) (s.0, rest) (sym (done_format.again d others is) ∙ (ap (λ (b : List ℕ). done_at b) (sym whole) ∙ s.1)))

take_of : (count left : ℕ) (bytes report rest : List ℕ) (ds : List Done) → reports_in count bytes ≡ ds → bytes ≡ flat_map done_bytes ds → length ds ≡ suc left → Every IsDone ds →
    Skips (done_at bytes) (Some rest) → report ≡ take (length bytes - length rest) bytes → IsTaken count left bytes report rest
take_of count left bytes report rest [] value whole many ranged s e = absurd (omega (arith, many))
take_of count left bytes report rest (d ∷ ds) value whole many ranged s e =
    let others = flat_map done_bytes ds in
    let parts : bytes ≡ done_bytes d ++ others = whole in
    let rest_is : others ≡ rest = first_of bytes rest d ds whole ranged.0 s in
    let both : length bytes ≡ length (done_bytes d) + length rest = omega (arith, ap length parts, length-append (done_bytes d) others, ap length rest_is) in
    let long : length bytes - length rest ≡ length (done_bytes d) = omega (arith, both) in
    let one = one_report report d ranged.0 (e ∙ (ap₂ (λ (n : ℕ) (b : List ℕ). take n b) long parts ∙ take_at (done_bytes d) others (length (done_bytes d)) refl)) in
    let after = encode left rest ds (omega (arith, many)) (sym rest_is) ranged.1 in
    record {
      is = one.0;
      are = after.are;
      value = value ∙ ap₂ (λ (x : Done) (xs : List Done). x ∷ xs) (sym one.1) (sym after.value);
      shorter = omega (arith, both);
    }

-- the length of the first report, by its two counts
record HasLength (bytes : List ℕ) (d : Done) (others : List ℕ) : Type 0 where
  sends : List ℕ
  words : List ℕ
  long : 56 ≤ length bytes
  at_sends : drop 56 bytes ≡ sends
  sent : number_at 1 sends ≡ Some (length d.sent, flat_map message_bytes d.sent ++ words)
  few : length d.sent ≤ 8
  longer : 1 + 56 * length d.sent ≤ length sends
  at_words : drop (1 + 56 * length d.sent) sends ≡ words
  after : number_at 1 words ≡ Some (length d.after, flat_map (big_bytes 8) d.after ++ (big_bytes 8 d.number_after ++ others))
  short : length d.after ≤ 16
  whole : length bytes ≡ (56 + (1 + 56 * length d.sent) + (1 + 8 * length d.after) + 8) + length others
  rest : drop (56 + (1 + 56 * length d.sent) + (1 + 8 * length d.after) + 8) bytes ≡ others

has_length : (bytes : List ℕ) (d : Done) (others : List ℕ) → bytes ≡ done_bytes d ++ others → IsDone d → HasLength bytes d others
unfolding done_bytes words_bytes
has_length bytes d others e is =
    let message = message_bytes d.message in
    let sent = flat_map message_bytes d.sent in
    let after = flat_map (big_bytes 8) d.after in
    let number = big_bytes 8 d.number_after in
    let n = big_bytes 1 (length d.sent) in
    let k = big_bytes 1 (length d.after) in
    let words = k ++ (after ++ (number ++ others)) in
    let sends = n ++ (sent ++ words) in
    let few = is.few in
    let short = is.after.0 in
    let one : length n ≡ 1 = length-bytes_high_first 1 (length d.sent) in
    let other : length k ≡ 1 = length-bytes_high_first 1 (length d.after) in
    let eight : length number ≡ 8 = length-bytes_high_first 8 d.number_after in
    let long_message : length message ≡ 56 = encodings_are_as_long.0 d.message in
    let long_sent : length sent ≡ 56 * length d.sent = length-messages d.sent in
    let long_after : length after ≡ 8 * length d.after = length-words d.after in
    let inner : (k ++ after) ++ number ≡ k ++ (after ++ number) = append_assoc k after number in
    let tail : ((k ++ after) ++ number) ++ others ≡ words =
    append_assoc (k ++ after) number others ∙ append_assoc k after (number ++ others) in
    let parts : bytes ≡ message ++ sends =
    e ∙ (append_assoc message ((n ++ sent) ++ ((k ++ after) ++ number)) others
    ∙ ap (λ (b : List ℕ). message ++ b) (append_assoc (n ++ sent) ((k ++ after) ++ number) others
    ∙ (ap (λ (b : List ℕ). (n ++ sent) ++ b) tail ∙ append_assoc n sent words))) in
    let front : sends ≡ (n ++ sent) ++ words = sym (append_assoc n sent words) in
    let long_front : length (n ++ sent) ≡ 1 + 56 * length d.sent = omega (arith, length-append n sent, one, long_sent) in
    let size : length (done_bytes d) ≡ 56 + (1 + 56 * length d.sent) + (1 + 8 * length d.after) + 8 =
    omega (arith, length-append message ((n ++ sent) ++ ((k ++ after) ++ number)), length-append (n ++ sent) ((k ++ after) ++ number), length-append (k ++ after) number, length-append k after, long_front, long_message, long_after, other, eight) in
    record {
      sends = sends;
      words = words;
      long = omega (arith, ap length parts, length-append message sends, long_message);
      at_sends = ap (drop 56) parts ∙ drop_at message sends 56 long_message;
      sent = format1.again (length d.sent) (sent ++ words) (omega (arith, few));
      few = few;
      longer = omega (arith, ap length front, length-append (n ++ sent) words, long_front);
      at_words = ap (drop (1 + 56 * length d.sent)) front ∙ drop_at (n ++ sent) words (1 + 56 * length d.sent) long_front;
      after = format1.again (length d.after) (after ++ (number ++ others)) (omega (arith, short));
      short = short;
      whole = omega (arith, ap length e, length-append (done_bytes d) others, size);
      rest = ap (drop (56 + (1 + 56 * length d.sent) + (1 + 8 * length d.after) + 8)) e ∙ drop_at (done_bytes d) others _ size;
    }

record IsLed (bytes : List ℕ) : Type 0 where
  d : Done
  others : List ℕ
  is : IsDone d
  whole : bytes ≡ done_bytes d ++ others
  parts : HasLength bytes d others

led : (count : ℕ) (bytes : List ℕ) (ds : List Done) → 0 < count → bytes ≡ flat_map done_bytes ds → length ds ≡ count → Every IsDone ds → IsLed bytes
led count bytes [] some whole many ranged = absurd (omega (arith, some, many))
led count bytes (d ∷ ds) some whole many ranged = record { d = d; others = flat_map done_bytes ds; is = ranged.0; whole = whole; parts = has_length bytes d (flat_map done_bytes ds) whole ranged.0 }

-- the first byte, if it was read as this number
first_is : (bytes : List ℕ) (n m : ℕ) (rest : List ℕ) → number_at 1 bytes ≡ Some (m, rest) → IfSome (number_at 1 bytes) (λ (x : ℕ × List ℕ). n ≡ x.0) → n ≡ m
first_is bytes n m rest e h = subst (λ (o : Option (ℕ × List ℕ)). IfSome o (λ (x : ℕ × List ℕ). n ≡ x.0)) e h

module _ (count : ℕ) (bytes : List ℕ) (some : 0 < count) (a : AreReports count bytes) where
  first : IsLed bytes
  first = led count bytes (reports_in count bytes) some a.whole a.many a.ranged

  pub long_first : 56 ≤ length bytes
  long_first = first.parts.long

  module _ (sends : List ℕ) (n : ℕ) (at : sends ≡ drop 56 bytes) (is : IfSome (number_at 1 sends) (λ (x : ℕ × List ℕ). n ≡ x.0)) where
    same_sends : sends ≡ first.parts.sends
    same_sends = at ∙ first.parts.at_sends

    many_sends : n ≡ length first.d.sent
    many_sends = first_is sends n _ _ (ap (number_at 1) same_sends ∙ first.parts.sent) is

    pub long_sends : 1 + 56 * n ≤ length sends
    long_sends = omega (arith, many_sends, ap length same_sends, first.parts.longer)

    module _ (words : List ℕ) (k : ℕ) (at_words : words ≡ drop (1 + 56 * n) sends) (is_words : IfSome (number_at 1 words) (λ (x : ℕ × List ℕ). k ≡ x.0)) where
      same_words : words ≡ first.parts.words
      same_words = at_words ∙ (ap₂ (λ (i : ℕ) (b : List ℕ). drop (1 + 56 * i) b) many_sends same_sends ∙ first.parts.at_words)

      many_words : k ≡ length first.d.after
      many_words = first_is words k _ _ (ap (number_at 1) same_words ∙ first.parts.after) is_words

      pub first_within : 56 + (1 + 56 * n) + (1 + 8 * k) + 8 ≤ length bytes
      first_within = omega (arith, many_sends, many_words, first.parts.whole)

      pub first_skips : Skips (done_at bytes) (Some (drop (56 + (1 + 56 * n) + (1 + 8 * k) + 8) bytes))
      first_skips =
          let rest : drop (56 + (1 + 56 * n) + (1 + 8 * k) + 8) bytes ≡ first.others = ap₂ (λ (i j : ℕ). drop (56 + (1 + 56 * i) + (1 + 8 * j) + 8) bytes) many_sends many_words ∙ first.parts.rest in (
            first.d,
            ap (λ (b : List ℕ). done_at b) first.whole ∙ (done_format.again first.d first.others first.is ∙ ap (λ (b : List ℕ). Some (first.d, b)) (sym rest)),
          )

  many_left : length (reports_in count bytes) ≡ suc (count - 1)
  many_left = omega (arith, a.many, some)

  module _ (n : ℕ) (rest : List ℕ) (within : n ≤ length bytes) (s : Skips (done_at bytes) (Some (drop n bytes))) (r : rest ≡ drop n bytes) where
    taken : (report : List ℕ) → report ≡ take n bytes → IsTaken count (count - 1) bytes report rest
    taken report e =
        let long : length bytes - length rest ≡ n = omega (arith, ap length r, length-drop n bytes, within) in
        take_of count (count - 1) bytes report rest (reports_in count bytes) refl a.whole many_left a.ranged (s.0, s.1 ∙ ap (λ (b : List ℕ). Some (s.0, b)) (sym r)) (e ∙ ap (λ (m : ℕ). take m bytes) (sym long))

    pub taken_rest : AreReports (count - 1) rest
    taken_rest = (taken (take n bytes) refl).are

    module _ (report : List ℕ) (e : report ≡ take n bytes) where
      pub taken_report : IsReport report
      taken_report = (taken report e).is

      pub taken_value : reports_in count bytes ≡ report_in report ∷ reports_in (count - 1) rest
      taken_value = (taken report e).value

-- no reports are left
pub none_left : (count : ℕ) (bytes : List ℕ) → count ≡ 0 → reports_in count bytes ≡ []
unfolding items_at
none_left count bytes none = rw none refl

-- 4. The parts of a report

pub record HasParts (bytes : List ℕ) (d : Done) : Type 0 where
  pub sends : List ℕ
  pub words : List ℕ
  pub number : List ℕ
  pub read_message : message_at bytes ≡ Some (d.message, sends)
  pub drop_message : drop 56 bytes ≡ sends
  pub long : 56 ≤ length bytes
  pub read_sent : counted_at 1 8 message_at sends ≡ Some (d.sent, words)
  pub read_words : words_at words ≡ Some (d.after, number)
  pub drop_number : drop (length bytes - 8) bytes ≡ number
  pub read_number : number_at 8 number ≡ Some (d.number_after, [])
  pub longer : 8 ≤ length bytes

parts_of : (bytes : List ℕ) (d : Done) → bytes ≡ done_bytes d → IsDone d → HasParts bytes d
unfolding done_bytes
parts_of bytes d e is =
    let number = big_bytes 8 d.number_after in
    let words = words_bytes d.after ++ number in
    let sent = counted_bytes 1 message_bytes d.sent in
    let sends = sent ++ words in
    let front = message_bytes d.message ++ (sent ++ words_bytes d.after) in
    let whole : bytes ≡ message_bytes d.message ++ sends = e in
    let back : bytes ≡ front ++ number = e ∙ (ap (λ (b : List ℕ). message_bytes d.message ++ b) (sym (append_assoc sent (words_bytes d.after) number)) ∙ sym (append_assoc (message_bytes d.message) (sent ++ words_bytes d.after) number)) in
    let few : d.number_after < 2 ^ 64 = (let n = is.number in omega arith) in
    let eight : length number ≡ 8 = length-bytes_high_first 8 d.number_after in
    let at : length bytes - 8 ≡ length front = omega (arith, ap length back, length-append front number, eight) in
    record {
      sends = sends;
      words = words;
      number = number;
      read_message = ap message_at whole ∙ message_format.again d.message sends is.message;
      drop_message = ap (drop 56) whole ∙ drop_at (message_bytes d.message) sends 56 (encodings_are_as_long.0 d.message);
      long = omega (arith, ap length whole, length-append (message_bytes d.message) sends, encodings_are_as_long.0 d.message);
      read_sent = sent_format.again d.sent words (is.few, is.sent);
      read_words = words_format.again d.after number is.after;
      drop_number = ap₂ (λ (n : ℕ) (b : List ℕ). drop n b) at back ∙ drop_at front number (length front) refl;
      read_number = ap (number_at 8) (sym (append-nil number)) ∙ format8.again d.number_after [] few;
      longer = omega (arith, ap length back, length-append front number, eight);
    }

pub parts : (bytes : List ℕ) → IsReport bytes → HasParts bytes (report_in bytes)
parts bytes r = parts_of bytes (report_in bytes) r.whole r.ranged

-- 5. Going over items, as a loop does

-- some items are behind, and the others come from the rest
abbrev pub IsGoing : {X : Type 0} → Reader X → ℕ → ℕ → List ℕ → List ℕ → Type 0
IsGoing {X = X} item count i bytes rest = (xs : List X) × (with_front xs (items_at item (count - i) rest) ≡ items_at item count bytes)

module _ {X : Type 0} (item : Reader X) (count : ℕ) (bytes : List ℕ) where
  pub going_begin : IsGoing item count 0 bytes bytes
  going_begin = ([], items_begin item count bytes)

  pub going_on : (i : ℕ) (rest : List ℕ) (x : X) (after : List ℕ) → i < count → item rest ≡ Some (x, after) → IsGoing item count i bytes rest → IsGoing item count (i + 1) bytes after
  going_on i rest x after lt e g = (g.0 ++ x ∷ [], items_go_on item g.0 count i rest x after (items_at item count bytes) lt e g.1)

  pub going_fail : (i : ℕ) (rest : List ℕ) → i < count → item rest ≡ None → IsGoing item count i bytes rest → items_at item count bytes ≡ None
  going_fail i rest lt e g = items_fail item g.0 count i rest (items_at item count bytes) lt e g.1

  pub going_done : (i : ℕ) (rest : List ℕ) → count ≤ i → IsGoing item count i bytes rest → Skips (items_at item count bytes) (Some rest)
  going_done i rest le g = (g.0, items_done item g.0 count i rest (items_at item count bytes) le g.1)

-- what is said of the items that are behind
abbrev pub IsGoingWith : {X : Type 0} → (List X → Type 0) → Reader X → ℕ → ℕ → List ℕ → List ℕ → Type 0
IsGoingWith {X = X} Q item count i bytes rest = (xs : List X) × Q xs × (with_front xs (items_at item (count - i) rest) ≡ items_at item count bytes)

module _ {X : Type 0} (Q R : List X → Type 0) (item : Reader X) (count : ℕ) (bytes : List ℕ) where
  abbrev pub IsRead : Type 0
  IsRead = IfSome (items_at item count bytes) (λ (xs : List X × List ℕ). R xs.0)

  pub with_begin : Q [] → IsGoingWith Q item count 0 bytes bytes
  with_begin q = ([], q, items_begin item count bytes)

  module _ (i : ℕ) (rest : List ℕ) (g : IsGoingWith Q item count i bytes rest) where
    pub with_fail : i < count → item rest ≡ None → IsRead
    with_fail lt none = subst (λ (o : Option (List X × List ℕ)). IfSome o (λ (xs : List X × List ℕ). R xs.0)) (sym (items_fail item g.0 count i rest (items_at item count bytes) lt none g.2)) tt

    pub with_done : count ≤ i → (Q g.0 → R g.0) → IsRead
    with_done le h = subst (λ (o : Option (List X × List ℕ)). IfSome o (λ (xs : List X × List ℕ). R xs.0)) (sym (items_done item g.0 count i rest (items_at item count bytes) le g.2)) (h g.1)

    module _ (x : X) (after : List ℕ) (lt : i < count) (e : item rest ≡ Some (x, after)) where
      pub with_on : (P : List X → Type 0) → (Q g.0 → P (g.0 ++ x ∷ [])) → IsGoingWith P item count (i + 1) bytes after
      with_on P h = (g.0 ++ x ∷ [], h g.1, items_go_on item g.0 count i rest x after (items_at item count bytes) lt e g.2)

      pub with_end : ((ys : List X) → R ((g.0 ++ x ∷ []) ++ ys)) → IsRead
      with_end h = subst (λ (o : Option (List X × List ℕ)). IfSome o (λ (xs : List X × List ℕ). R xs.0)) (items_go_on item g.0 count i rest x after (items_at item count bytes) lt e g.2) (go (items_at item (count - (i + 1)) after))
        where
          go : (o : Option (List X × List ℕ)) → IfSome (with_front (g.0 ++ x ∷ []) o) (λ (xs : List X × List ℕ). R xs.0)
          go None = tt
          go (Some ys) = h ys.0

-- a test of all items, one by one
pub all_more : {X : Type 0} (p : X → Bool) (xs : List X) (x : X) → list_all p xs ≡ true → p x ≡ true → list_all p (xs ++ x ∷ []) ≡ true
all_more p xs x h k = list_all-append p xs (x ∷ []) ∙ rw (h, k) refl

pub all_less : {X : Type 0} (p : X → Bool) (xs ys : List X) (x : X) → list_all p xs ≡ true → p x ≡ false → list_all p ((xs ++ x ∷ []) ++ ys) ≡ false
all_less p xs ys x h k =
    let one : list_all p (xs ++ x ∷ []) ≡ false = list_all-append p xs (x ∷ []) ∙ rw (h, k) refl in
    list_all-append p (xs ++ x ∷ []) ys ∙ rw one refl

-- those that pass a test, added one by one
pub kept_more : {X : Type 0} (p : X → Bool) (old out new xs : List X) (x : X) → new ≡ out ++ filter p (x ∷ []) → out ≡ old ++ filter p xs → new ≡ old ++ filter p (xs ++ x ∷ [])
kept_more {X = X} p old out new xs x e is = e ∙ (ap (λ (ys : List X). ys ++ filter p (x ∷ [])) is ∙ (append_assoc old (filter p xs) (filter p (x ∷ [])) ∙ ap (λ (ys : List X). old ++ ys) (sym (filter-append p xs (x ∷ [])))))

-- numbers put into the first places of a list, one by one
pub put_more : (words xs : List ℕ) (i x : ℕ) → i < length words → take i words ≡ xs → take (i + 1) (set words i x) ≡ xs ++ x ∷ []
put_more words xs i x lt e = grind (arith, common_steps, e)

-- 6. Ranges

pub every_more : {X : Type 0} (P : X → Type 0) (xs : List X) (i : ℕ) (x : X) → i < length xs → x ≡ get_or xs i x → P x → (Every P (drop i xs) → Every P xs) → Every P (drop (i + 1) xs) → Every P xs
every_more P xs i x l is p so_far rest = so_far (subst (Every P) (sym (drop_here xs i x l is)) (p, rest))

pub words_fit : (words : List ℕ) → All (λ (w : ℕ). w < 2 ^ 64) words → Every (λ (w : ℕ). w < 2 ^ 64) words
words_fit [] h = tt
words_fit (x ∷ xs) h = (h 0 x (omega arith), words_fit xs (λ k d l. h (suc k) d (omega arith)))

pub done_fits : (d : Done) → IsRanged d.message → Every IsRanged d.sent → Every (λ (w : ℕ). w < 2 ^ 64) d.after → IsDoneInRange d → IsDone d
done_fits d message sent after is = record {
  message = message;
  few = is.sent;
  sent = sent;
  after = (is.after, after);
  number = is.number_after;
}

-- 7. Reading into a list, as a loop does: what the list holds at the end

module _ {X : Type 0} (item : Reader X) (front : List X) (count i : ℕ) (bytes rest : List ℕ) (so_far : with_front front (items_at item (count - i) rest) ≡ items_at item count bytes) where
  pub listed_fail : i < count → item rest ≡ None → IfSome (items_at item count bytes) (λ xs. front ≡ xs.0)
  listed_fail lt none = subst (λ (o : Option (List X × List ℕ)). IfSome o (λ (xs : List X × List ℕ). front ≡ xs.0)) (sym (items_fail item front count i rest (items_at item count bytes) lt none so_far)) tt

  pub listed_done : count ≤ i → IfSome (items_at item count bytes) (λ xs. front ≡ xs.0)
  listed_done le = subst (λ (o : Option (List X × List ℕ)). IfSome o (λ (xs : List X × List ℕ). front ≡ xs.0)) (sym (items_done item front count i rest (items_at item count bytes) le so_far)) refl

  pub listed_on : (x : X) (after : List ℕ) (new : List X) → i < count → item rest ≡ Some (x, after) → new ≡ front ++ x ∷ [] → with_front new (items_at item (count - (i + 1)) after) ≡ items_at item count bytes
  listed_on x after new lt e is = subst (λ (xs : List X). with_front xs (items_at item (count - (i + 1)) after) ≡ items_at item count bytes) (sym is) (items_go_on item front count i rest x after (items_at item count bytes) lt e so_far)

pub one_longer : {X : Type 0} (xs new : List X) (x : X) (n : ℕ) → new ≡ xs ++ x ∷ [] → length xs ≡ n → length new ≡ n + 1
one_longer xs new x n e long = omega (arith, ap length e, length-append xs (x ∷ []), long)

-- 8. What the parts of a report are, from what was read

module _ (bytes : List ℕ) (r : IsReport bytes) where
  pub long_message : 56 ≤ length bytes
  long_message = (parts bytes r).long

  pub long_number : 8 ≤ length bytes
  long_number = (parts bytes r).longer

  pub message_is : (x : Message) (rest : List ℕ) → Some (x, rest) ≡ message_at bytes → x ≡ (report_in bytes).message
  message_is x rest e =
      ap (λ (y : Message × List ℕ). y.0) (same_Some {A = Message × List ℕ} (x, rest) ((report_in bytes).message, (parts bytes r).sends) (e ∙ (parts bytes r).read_message))

  pub message_there : None ≡ message_at bytes → ⊥
  message_there e = none-some ((report_in bytes).message, (parts bytes r).sends) (e ∙ (parts bytes r).read_message)

  pub sent_is : (rest : List ℕ) (items : List Message) → rest ≡ drop 56 bytes → IfSome (counted_at 1 8 message_at rest) (λ (x : List Message × List ℕ). items ≡ x.0) → items ≡ (report_in bytes).sent
  sent_is rest items at h =
      let read = ap (λ (b : List ℕ). counted_at 1 8 message_at b) (at ∙ (parts bytes r).drop_message) ∙ (parts bytes r).read_sent in
      subst (λ (o : Option (List Message × List ℕ)). IfSome o (λ (x : List Message × List ℕ). items ≡ x.0)) read h

  -- what was read of the sends holds of the handling's
  pub sent_has : (R : List Message → Type 0) (rest : List ℕ) → rest ≡ drop 56 bytes → IfSome (counted_at 1 8 message_at rest) (λ (x : List Message × List ℕ). R x.0) → R (report_in bytes).sent
  sent_has R rest at h =
      let read = ap (λ (b : List ℕ). counted_at 1 8 message_at b) (at ∙ (parts bytes r).drop_message) ∙ (parts bytes r).read_sent in
      subst (λ (o : Option (List Message × List ℕ)). IfSome o (λ (x : List Message × List ℕ). R x.0)) read h

  pub sent_holds : {T E : Type 0} (result : Result T E) (R : List Message → Type 0) (rest : List ℕ) → rest ≡ drop 56 bytes → OnOk result (IfSome (counted_at 1 8 message_at rest) (λ (x : List Message × List ℕ). R x.0)) → OnOk result (R (report_in bytes).sent)
  sent_holds (Ok x) R rest at h = sent_has R rest at h
  sent_holds (Err x) R rest at h = tt

  pub sent_there : (rest : List ℕ) → rest ≡ drop 56 bytes → Skips (counted_at 1 8 message_at rest) None → ⊥
  sent_there rest at none =
      let read = ap (λ (b : List ℕ). counted_at 1 8 message_at b) (at ∙ (parts bytes r).drop_message) ∙ (parts bytes r).read_sent in
      none-some ((report_in bytes).sent, (parts bytes r).words) (sym none ∙ read)

  pub after_is : (rest behind : List ℕ) (items : List ℕ) → rest ≡ drop 56 bytes → Skips (counted_at 1 8 message_at rest) (Some behind) → IfSome (words_at behind) (λ (x : List ℕ × List ℕ). items ≡ x.0) →
      items ≡ (report_in bytes).after
  after_is rest behind items at s h =
      let read = ap (λ (b : List ℕ). counted_at 1 8 message_at b) (at ∙ (parts bytes r).drop_message) ∙ (parts bytes r).read_sent in
      let same = same_Some {A = List Message × List ℕ} (s.0, behind) ((report_in bytes).sent, (parts bytes r).words) (sym s.1 ∙ read) in
      let words = ap (λ (b : List ℕ). words_at b) (ap (λ (y : List Message × List ℕ). y.1) same) ∙ (parts bytes r).read_words in
      subst (λ (o : Option (List ℕ × List ℕ)). IfSome o (λ (x : List ℕ × List ℕ). items ≡ x.0)) words h

  pub state_is : {E : Type 0} (result : Result (List ℕ) E) (rest behind : List ℕ) → rest ≡ drop 56 bytes → Skips (counted_at 1 8 message_at rest) (Some behind) → IfOk result (λ (state : List ℕ). IfSome (words_at behind) (λ (x : List ℕ × List ℕ). state ≡ x.0)) →
      IfOk result (λ (state : List ℕ). state ≡ (report_in bytes).after)
  state_is (Ok state) rest behind at s h = after_is rest behind state at s h
  state_is (Err e) rest behind at s h = tt

  pub number_is : (text : List ℕ) (n : ℕ) (rest : List ℕ) → text ≡ drop (length bytes - 8) bytes → Some (n, rest) ≡ number_at 8 text → n ≡ (report_in bytes).number_after
  number_is text n rest at e =
      let read = ap (λ (b : List ℕ). number_at 8 b) (at ∙ (parts bytes r).drop_number) ∙ (parts bytes r).read_number in
      ap (λ (y : ℕ × List ℕ). y.0) (same_Some {A = ℕ × List ℕ} (n, rest) ((report_in bytes).number_after, []) (e ∙ read))

  pub number_there : (text : List ℕ) → text ≡ drop (length bytes - 8) bytes → None ≡ number_at 8 text → ⊥
  number_there text at e =
      let read = ap (λ (b : List ℕ). number_at 8 b) (at ∙ (parts bytes r).drop_number) ∙ (parts bytes r).read_number in
      none-some ((report_in bytes).number_after, []) (e ∙ read)
