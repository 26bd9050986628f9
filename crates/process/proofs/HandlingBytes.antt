-- The bytes of a history: what they are after a report was appended, rolled back or released.
use Rattle.std.proofs.Common.{◌≡◌, ℕ, ◌+◌, ◌-◌, ◌<◌, ◌≤◌, List, [], ◌∷◌, ◌++◌, length, take, drop, get_or, sum, flat_map, Option, Some, None, refl, sym, ap, ap₂, subst, ◌∙◌, append_assoc, append-nil, length-append, take-append-drop, arith, inl, inr}
use Rattle.std.specs.Prelude.{option_map}
use Rattle.std.specs.List.{AllByRecursion as Every}
use Rattle.std.specs.List.{copy_within}
use Rattle.std.proofs.lemmas.Bool.{cases_lt, le-ltb, lt-ltb}
use Rattle.std.proofs.lemmas.Grind.{flat_map-append}
use Rattle.std.proofs.lemmas.List.{drop_all, drop_at, drop-append-le, drop-drop, drop-map, drop-take, drop_more, get_or-map, length-drop, length-map, length-take-le, map-append, take_all, take_at, take-map, take_more}
use Rattle.std.proofs.lemmas.List.Concat.{length-flat_map}
use Rattle.std.proofs.lemmas.List.Edits.{take-paste}
use Rattle.std.proofs.lemmas.List.Sums.{sum_by_more, sum_by_more_le, sum-map}
use Rattle.std.proofs.lemmas.Option.{none-some, same_Some}
use Rattle.byteorder.specs.Endian.{big_bytes}
use Rattle.eventkey.proofs.Encodings.{message_format}
use Rattle.eventkey.proofs.Lists.{Every-append, Every-left, Every-right}
use Rattle.eventkey.specs.Encoding.{message_at, message_bytes}
use Rattle.eventkey.specs.Message.{Message}
use Rattle.eventkey.specs.Reading.{number_at}
use Rattle.model.specs.Encoding.{words_bytes}
use Rattle.queues.proofs.Undone.{but_last-take, last_of-drop}
use Rattle.queues.specs.Queue.{but_last, last_of}
use Rattle.process.specs.Handlings.{HoldHandlings, IsLastOf, count_before, first_reported, handlings_in, lengths_of}
use Rattle.process.specs.Reports.{IsDone, IsReport, counted_bytes, done_bytes, nothing, report_in}
use Rattle.process.specs.declared.Done.{Done}
use Rattle.process.proofs.ReportBytes.{Encode, encode, one_report}

abbrev done_length : Done → ℕ
done_length d = length (done_bytes d)

-- 1. The bytes of these handlings

pub record Hold (start : ℕ) (lengths bytes : List ℕ) (ds : List Done) : Type 0 where
  pub begins : start ≤ length bytes
  pub text : drop start bytes ≡ flat_map done_bytes ds
  pub each : lengths ≡ lengths_of ds
  pub ranged : Every IsDone ds

pub hold : (start : ℕ) (lengths bytes : List ℕ) → HoldHandlings start lengths bytes → Hold start lengths bytes (handlings_in start lengths bytes)
hold start lengths bytes h = record { begins = h.begins; text = h.reports.whole; each = h.each; ranged = h.reports.ranged }

pub holds : (start : ℕ) (lengths bytes : List ℕ) (ds : List Done) → HoldHandlings start lengths bytes → handlings_in start lengths bytes ≡ ds → Hold start lengths bytes ds
holds start lengths bytes ds h seen = subst (Hold start lengths bytes) seen (hold start lengths bytes h)

pub record Are (start : ℕ) (lengths bytes : List ℕ) (ds : List Done) : Type 0 where
  pub value : handlings_in start lengths bytes ≡ ds
  pub are : HoldHandlings start lengths bytes

pub length-lengths_of : (ds : List Done) → length (lengths_of ds) ≡ length ds
length-lengths_of ds = length-map ds done_length

pub made : (start : ℕ) (lengths bytes : List ℕ) (ds : List Done) → Hold start lengths bytes ds → Are start lengths bytes ds
made start lengths bytes ds h =
    let e = encode (length lengths) (drop start bytes) ds (ap length h.each ∙ length-lengths_of ds) h.text h.ranged in
    record { value = e.value; are = record { begins = h.begins; reports = e.are; each = h.each ∙ ap lengths_of (sym e.value) } }

-- 2. How many bytes they are, and where the bytes of the first n end

pub size_all : (ds : List Done) → sum (lengths_of ds) ≡ length (flat_map done_bytes ds)
size_all ds = sum-map done_length ds ∙ sym (length-flat_map done_bytes ds)

pub size_front : (n : ℕ) (ds : List Done) → sum (take n (lengths_of ds)) ≡ length (flat_map done_bytes (take n ds))
size_front n ds = ap sum (take-map done_length n ds) ∙ size_all (take n ds)

parted : (n : ℕ) (ds : List Done) → flat_map done_bytes ds ≡ flat_map done_bytes (take n ds) ++ flat_map done_bytes (drop n ds)
parted n ds = ap (flat_map done_bytes) (sym (take-append-drop n ds)) ∙ flat_map-append done_bytes (take n ds) (drop n ds)

pub size_parts : (n : ℕ) (ds : List Done) → length (flat_map done_bytes ds) ≡ length (flat_map done_bytes (take n ds)) + length (flat_map done_bytes (drop n ds))
size_parts n ds = ap length (parted n ds) ∙ length-append (flat_map done_bytes (take n ds)) (flat_map done_bytes (drop n ds))

pub sums : (ds : List Done) (lengths : List ℕ) (from to found : ℕ) → lengths ≡ lengths_of ds → sum (take from lengths) + found ≡ sum (take to lengths) → length (flat_map done_bytes (take from ds)) + found ≡ length (flat_map done_bytes (take to ds))
sums ds lengths from to found each e =
    let is : (n : ℕ) → sum (take n lengths) ≡ length (flat_map done_bytes (take n ds)) = λ n. ap (λ (ls : List ℕ). sum (take n ls)) each ∙ size_front n ds in
    ap (λ (n : ℕ). n + found) (sym (is from)) ∙ (e ∙ is to)

pub sum_small : (ds : List Done) (lengths bytes : List ℕ) → lengths ≡ lengths_of ds → bytes ≡ flat_map done_bytes ds → sum lengths ≡ length bytes
sum_small ds lengths bytes each whole = ap sum each ∙ (size_all ds ∙ ap length (sym whole))

pub size_within : (n size : ℕ) (ds : List Done) (bytes : List ℕ) → size ≡ length (flat_map done_bytes (take n ds)) → bytes ≡ flat_map done_bytes ds → size ≤ length bytes
size_within n size ds bytes many whole = omega (arith, many, ap length whole, size_parts n ds)

pub front_text : (n size : ℕ) (ds : List Done) → size ≡ length (flat_map done_bytes (take n ds)) → take size (flat_map done_bytes ds) ≡ flat_map done_bytes (take n ds)
front_text n size ds e = ap (take size) (parted n ds) ∙ take_at (flat_map done_bytes (take n ds)) (flat_map done_bytes (drop n ds)) size (sym e)

pub back_text : (n size : ℕ) (ds : List Done) → size ≡ length (flat_map done_bytes (take n ds)) → drop size (flat_map done_bytes ds) ≡ flat_map done_bytes (drop n ds)
back_text n size ds e = ap (drop size) (parted n ds) ∙ drop_at (flat_map done_bytes (take n ds)) (flat_map done_bytes (drop n ds)) size (sym e)

halves : (n : ℕ) (ds : List Done) → Every IsDone ds → Every IsDone (take n ds ++ drop n ds)
halves n ds h = subst (Every IsDone) (sym (take-append-drop n ds)) h

pub front_ranged : (n : ℕ) (ds : List Done) → Every IsDone ds → Every IsDone (take n ds)
front_ranged n ds h = Every-left IsDone (take n ds) (drop n ds) (halves n ds h)

pub back_ranged : (n : ℕ) (ds : List Done) → Every IsDone ds → Every IsDone (drop n ds)
back_ranged n ds h = Every-right IsDone (take n ds) (drop n ds) (halves n ds h)

-- 3. Changes

pub nothing_held : (lengths bytes : List ℕ) → lengths ≡ [] → bytes ≡ [] → Are 0 lengths bytes []
nothing_held lengths bytes none empty = made 0 lengths bytes [] (record { begins = omega arith; text = empty; each = none; ranged = tt })

module _ (start : ℕ) (lengths bytes : List ℕ) (ds : List Done) (h : Hold start lengths bytes ds) where
  long : length bytes ≡ start + length (flat_map done_bytes ds)
  long = omega (arith, h.begins, ap length h.text, length-drop start bytes)

  -- after a handling was appended
  pub pushed : (d : Done) (size : ℕ) (sizes text : List ℕ) → IsDone d → text ≡ bytes ++ done_bytes d → size ≡ length text - length bytes → sizes ≡ lengths ++ size ∷ [] → Are start sizes text (ds ++ d ∷ [])
  pushed d size sizes text is e many each =
      let one : size ≡ done_length d = omega (arith, many, ap length e, length-append bytes (done_bytes d)) in
      made start sizes text (ds ++ d ∷ []) (record {
        begins = omega (arith, h.begins, ap length e, length-append bytes (done_bytes d));
        text = ap (drop start) e ∙ (drop-append-le start bytes (done_bytes d) h.begins ∙ (ap₂ (λ (x y : List ℕ). x ++ y) h.text (sym (append-nil (done_bytes d))) ∙ sym (flat_map-append done_bytes ds (d ∷ []))));
        each = each ∙ (ap₂ (λ (x : List ℕ) (n : ℕ). x ++ n ∷ []) h.each one ∙ sym (map-append done_length ds (d ∷ [])));
        ranged = Every-append IsDone ds (d ∷ []) h.ranged (is, tt);
      })

  -- after all but the first `kept` handlings were dropped
  pub rolled_back : (kept size : ℕ) (sizes text : List ℕ) → length (flat_map done_bytes (take kept ds)) + size ≡ length (flat_map done_bytes ds) → sizes ≡ take kept lengths → text ≡ take (length bytes - size) bytes → Are start sizes text (take kept ds)
  rolled_back kept size sizes text many each e =
      let front = length (flat_map done_bytes (take kept ds)) in
      let end : length bytes - size ≡ start + front = omega (arith, long, many) in
      let within : start + front ≤ length bytes = omega (arith, long, many) in
      let is_text : text ≡ take (start + front) bytes = e ∙ ap (λ (k : ℕ). take k bytes) end in
      made start sizes text (take kept ds) (record {
        begins = omega (arith, ap length is_text, length-take-le (start + front) bytes within);
        text = ap (drop start) is_text ∙ (drop-take start front bytes ∙ (ap (take front) h.text ∙ front_text kept front ds refl));
        each = each ∙ (ap (take kept) h.each ∙ take-map done_length kept ds);
        ranged = front_ranged kept ds h.ranged;
      })

  -- after the first n handlings were released
  pub released : (n size from : ℕ) (sizes : List ℕ) → size ≡ length (flat_map done_bytes (take n ds)) → from ≡ start + size → sizes ≡ drop n lengths → Are from sizes bytes (drop n ds)
  released n size from sizes many is each =
      made from sizes bytes (drop n ds) (record {
        begins = omega (arith, long, size_parts n ds, many, is);
        text = ap (λ (k : ℕ). drop k bytes) is ∙ (sym (drop-drop size start bytes) ∙ (ap (drop size) h.text ∙ back_text n size ds many));
        each = each ∙ (ap (drop n) h.each ∙ drop-map done_length n ds);
        ranged = back_ranged n ds h.ranged;
      })

  -- after the bytes were moved to the front
  pub moved : (text : List ℕ) → text ≡ drop start bytes → Are 0 lengths text ds
  moved text e = made 0 lengths text ds (record { begins = omega arith; text = e ∙ h.text; each = h.each; ranged = h.ranged })

pub kept_left : (n kept : ℕ) (ds : List Done) → n ≤ length ds → kept ≡ length ds - n → take kept ds ≡ but_last n ds
kept_left n kept ds few is = ap (λ (k : ℕ). take k ds) is ∙ sym (but_last-take n ds few)

-- 4. The first and the last reports

module _ (n size : ℕ) (ds : List Done) (is : Every IsDone ds) (bytes : List ℕ) (whole : bytes ≡ flat_map done_bytes ds) where
  -- the first n reports
  pub first_encode : n ≤ length ds → size ≡ length (flat_map done_bytes (take n ds)) → (text : List ℕ) → text ≡ take size bytes → Encode n text (take n ds)
  first_encode few many text e = encode n text (take n ds) (sym (length-take-le n ds few)) (e ∙ (ap (take size) whole ∙ front_text n size ds many)) (front_ranged n ds is)

  -- the last n reports
  pub last_encode : (kept : ℕ) → n ≤ length ds → kept ≡ length ds - n → length (flat_map done_bytes (take kept ds)) + size ≡ length (flat_map done_bytes ds) → (text : List ℕ) → text ≡ drop (length bytes - size) bytes → Encode n text (last_of n ds)
  last_encode kept few left many text e =
      let last : last_of n ds ≡ drop kept ds = last_of-drop n ds few ∙ ap (λ (k : ℕ). drop k ds) (sym left) in
      let at : length bytes - size ≡ length (flat_map done_bytes (take kept ds)) = omega (arith, ap length whole, many) in
      subst (λ (xs : List Done). Encode n text xs) (sym last) (encode n text (drop kept ds) (omega (arith, few, left, length-drop kept ds))
      (e ∙ (ap (λ (k : ℕ). drop k bytes) at ∙ (ap (drop (length (flat_map done_bytes (take kept ds)))) whole ∙ back_text kept (length (flat_map done_bytes (take kept ds))) ds refl)))
      (back_ranged kept ds is))

-- the last of the first n reports
pub record IsEnd (ds : List Done) (n size one : ℕ) (report : List ℕ) : Type 0 where
  pub within : one ≤ size
  pub is : IsReport report
  pub last : IsLastOf (take n ds) (Some (report_in report))

module _ (ds : List Done) (is : Every IsDone ds) (n size one : ℕ) (lengths bytes : List ℕ) (some : 0 < n) (few : n ≤ length ds) (many : size ≡ length (flat_map done_bytes (take n ds))) (each : lengths ≡ lengths_of ds) (whole : bytes ≡ flat_map done_bytes ds)
    (found : one ≡ get_or lengths (n - 1) one) where
  abbrev end_done : Done
  end_done = get_or ds (n - 1) nothing

  end_one : one ≡ done_length end_done
  end_one = found ∙ (ap (λ (ls : List ℕ). get_or ls (n - 1) one) each ∙ get_or-map done_length ds (n - 1) nothing one (omega (arith, some, few)))

  end_parts : take n ds ≡ take (n - 1) ds ++ end_done ∷ []
  end_parts = ap (λ (k : ℕ). take k ds) (let k : n ≡ n - 1 + 1 = omega (arith, some) in k) ∙ take_more ds (n - 1) nothing (omega (arith, some, few))

  end_text : flat_map done_bytes (take n ds) ≡ flat_map done_bytes (take (n - 1) ds) ++ done_bytes end_done
  end_text = ap (flat_map done_bytes) end_parts ∙ (flat_map-append done_bytes (take (n - 1) ds) (end_done ∷ []) ∙ ap (λ (b : List ℕ). flat_map done_bytes (take (n - 1) ds) ++ b) (append-nil (done_bytes end_done)))

  end_ranged : IsDone end_done
  end_ranged = (Every-right IsDone (take (n - 1) ds) (end_done ∷ []) (subst (Every IsDone) end_parts (front_ranged n ds is))).0

  pub end_within : one ≤ size
  end_within = omega (arith, many, end_one, ap length end_text, length-append (flat_map done_bytes (take (n - 1) ds)) (done_bytes end_done))

  pub at_end : (front report : List ℕ) → front ≡ take size bytes → report ≡ drop (size - one) front → IsEnd ds n size one report
  at_end front report e f =
      let text : front ≡ flat_map done_bytes (take (n - 1) ds) ++ done_bytes end_done = e ∙ (ap (take size) whole ∙ (front_text n size ds many ∙ end_text)) in
      let begin : length (flat_map done_bytes (take (n - 1) ds)) ≡ size - one = omega (arith, many, end_one, ap length end_text, length-append (flat_map done_bytes (take (n - 1) ds)) (done_bytes end_done)) in
      let got = one_report report end_done end_ranged (f ∙ (ap (drop (size - one)) text ∙ drop_at (flat_map done_bytes (take (n - 1) ds)) (done_bytes end_done) (size - one) begin)) in
      record { within = end_within; is = got.0; last = (take (n - 1) ds, end_parts ∙ ap (λ (d : Done). take (n - 1) ds ++ d ∷ []) (sym got.1)) }

-- 5. Times

pub no_message : message_at [] ≡ None
unfolding message_at number_at
no_message = refl

abbrev time_at : List ℕ → Option ℕ
time_at bytes = option_map (λ (x : Message × List ℕ). x.0.time) (message_at bytes)

message_first : (d : Done) (rest : List ℕ) → IsDone d → time_at (done_bytes d ++ rest) ≡ Some d.message.time
unfolding done_bytes
message_first d rest is =
    let others = counted_bytes 1 message_bytes d.sent ++ (words_bytes d.after ++ big_bytes 8 d.number_after) in
    ap time_at (append_assoc (message_bytes d.message) others rest) ∙ ap (λ (o : Option (Message × List ℕ)). option_map (λ (x : Message × List ℕ). x.0.time) o) (message_format.again d.message (others ++ rest) is.message)

pub time_first : (ds : List Done) (bytes : List ℕ) → Every IsDone ds → bytes ≡ flat_map done_bytes ds → time_at bytes ≡ first_reported ds
time_first [] bytes is e = ap time_at e ∙ ap (λ (o : Option (Message × List ℕ)). option_map (λ (x : Message × List ℕ). x.0.time) o) no_message
time_first (d ∷ ds) bytes is e = ap time_at e ∙ message_first d (flat_map done_bytes ds) is.0

no_time : (floor : ℕ) (ds : List Done) → None ≡ first_reported ds → count_before floor ds ≡ 0
no_time floor [] none = refl
no_time floor (d ∷ ds) none = absurd (none-some d.message.time none)

-- one report further, in a count of those before a time
pub record IsStep (floor : ℕ) (ds : List Done) (count one : ℕ) (rest : List ℕ) : Type 0 where
  pub some : count < length ds
  pub within : one ≤ length rest
  pub text : drop one rest ≡ flat_map done_bytes (drop (count + 1) ds)
  pub more : count + count_before floor (drop count ds) ≡ count + 1 + count_before floor (drop (count + 1) ds)

module _ (floor : ℕ) (ds : List Done) (is : Every IsDone ds) (count : ℕ) (rest : List ℕ) (text : rest ≡ flat_map done_bytes (drop count ds)) where
  found_time : (time : Option ℕ) → time ≡ time_at rest → time ≡ first_reported (drop count ds)
  found_time time e = e ∙ time_first (drop count ds) rest (back_ranged count ds is) text

  pub none_before : None ≡ time_at rest → count_before floor (drop count ds) ≡ 0
  none_before e = no_time floor (drop count ds) (found_time None e)

  module _ (time : ℕ) (e : Some time ≡ time_at rest) where
    pub some_left : count < length ds
    some_left = elim (cases_lt count (length ds)) [
      | inl l ↦ l
      | inr l ↦ absurd (none-some time (sym (found_time (Some time) e ∙ ap first_reported (drop_all count ds l))))
    ]

    here : drop count ds ≡ get_or ds count nothing ∷ drop (count + 1) ds
    here = drop_more ds count nothing some_left

    time_is : time ≡ (get_or ds count nothing).message.time
    time_is = same_Some time _ (found_time (Some time) e ∙ ap first_reported here)

    pub stops : floor ≤ time → count_before floor (drop count ds) ≡ 0
    stops late = ap (count_before floor) here ∙ rw (le-ltb (get_or ds count nothing).message.time floor (omega (arith, time_is, late))) refl

    module _ (lengths : List ℕ) (one : ℕ) (each : lengths ≡ lengths_of ds) (found : one ≡ get_or lengths count one) where
      one_is : one ≡ done_length (get_or ds count nothing)
      one_is = found ∙ (ap (λ (ls : List ℕ). get_or ls count one) each ∙ get_or-map done_length ds count nothing one some_left)

      parts_here : rest ≡ done_bytes (get_or ds count nothing) ++ flat_map done_bytes (drop (count + 1) ds)
      parts_here = text ∙ ap (flat_map done_bytes) here

      pub one_within : one ≤ length rest
      one_within = omega (arith, one_is, ap length parts_here, length-append (done_bytes (get_or ds count nothing)) (flat_map done_bytes (drop (count + 1) ds)))

      pub step : time < floor → IsStep floor ds count one rest
      step early = record {
        some = some_left;
        within = one_within;
        text = ap (drop one) parts_here ∙ drop_at (done_bytes (get_or ds count nothing)) (flat_map done_bytes (drop (count + 1) ds)) one (sym one_is);
        more = ap (λ (xs : List Done). count + count_before floor xs) here ∙ rw (lt-ltb (get_or ds count nothing).message.time floor (omega (arith, time_is, early))) (omega arith);
      }

-- 6. Numbers

pub sum_step : (numbers : List ℕ) (from at found one : ℕ) → at < length numbers → one ≡ get_or numbers at one → sum (take from numbers) + found ≡ sum (take at numbers) → sum (take from numbers) + (found + one) ≡ sum (take (at + 1) numbers)
sum_step numbers from at found one l e so_far = omega (arith, so_far, sum_by_more (λ (n : ℕ). n) numbers at one l, e)

pub sum_fits : (numbers : List ℕ) (from at found one : ℕ) → at < length numbers → one ≡ get_or numbers at one → sum (take from numbers) + found ≡ sum (take at numbers) → found + one ≤ sum numbers
sum_fits numbers from at found one l e so_far = omega (arith, so_far, sum_by_more_le (λ (n : ℕ). n) numbers at one l, e)

-- what is moved to the front of a list, and the rest cut off
pub to_front : (xs : List ℕ) (n end : ℕ) → n ≤ length xs → end ≡ length xs → take (end - n) (copy_within xs n end 0) ≡ drop n xs
to_front xs n end few is =
    let size : ℕ = end - n in
    let same : size ≡ 0 + size = omega arith in
    ap (λ (k : ℕ). take k (copy_within xs n end 0)) same
    ∙ (take-paste xs 0 (drop n xs) size (omega arith) (omega (arith, length-drop n xs, few, is)) ∙ take_all size (drop n xs) (omega (arith, length-drop n xs, few, is)))
