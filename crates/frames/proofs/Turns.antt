-- One turn after another.
use Rattle.std.proofs.Common.{◌≡◌, ℕ, zero, suc, ◌+◌, ◌-◌, ◌<◌, ◌≤◌, Bool, true, false, List, [], ◌++◌, Option, Some, None, Result, Ok, Err, refl, sym, ap, subst, ◌∙◌, arith, append-nil, append_assoc}
use Rattle.std.specs.Io.KnownBytes.{Appends}
use Rattle.std.proofs.KnownBytes.{Appends-nil, Appends-trans}
use Rattle.std.specs.Result.{IsErrAnd}
use Rattle.model.specs.Meaning.{Meaning}
use Rattle.node.specs.Handling.{Node}
use Rattle.frames.specs.Streams.{IsFront, IsWithin, OnBytes}
use Rattle.frames.specs.Serving.{Lacks, Served, behind, next_turn, plus, served_from, then_on}
use Rattle.frames.specs.Outcomes.{IsServedFrom, IsTurn, StopsFrom}
use Rattle.eventkey.specs.Writing.{TakesBeginning}
use Rattle.wire.specs.declared.port.WireFault.{WireFault}
use Rattle.wire.specs.declared.port.WireFault.TheVariants as wire
use Rattle.frames.proofs.Cuts.{IsFront-trans}

-- one read after another
pub on_then : (a b c : Option (List ℕ)) (P Q R : List ℕ → List ℕ → Type 0) → ((x y z : List ℕ) → P x y → Q y z → R x z) → OnBytes a b P → OnBytes b c Q → OnBytes a c R
on_then None b c P Q R f p q = tt
on_then (Some x) None c P Q R f p q = absurd p
on_then (Some x) (Some y) None P Q R f p q = absurd q
on_then (Some x) (Some y) (Some z) P Q R f p q = f x y z p q

-- this turn, and then the later turns without memory
abbrev pub lacks_first : Bool → Lacks → ℕ → Bool
lacks_first b lacks zero = b
lacks_first b lacks (suc turn) = lacks turn

-- What was served so far: whichever later turns are without memory, the served text of all the
-- bytes is this text followed by the served text of the rest.
pub record SoFar (m : Meaning) (done : ℕ) (start now : Node) (old new : Option (List ℕ)) (bytes rest : List ℕ) : Type 0 where
  pub text : List ℕ
  pub appended : Appends old new text
  pub front : IsFront bytes rest
  pub goes : (lacks : Lacks) → (all : Lacks) × ((left : ℕ) → served_from m all (done + left) start bytes ≡ behind text done (served_from m lacks left now rest))

plus_none : (r : Result ℕ WireFault) → plus 0 r ≡ r
plus_none (Ok n) = ap (λ i. Ok i) (omega arith)
plus_none (Err f) = refl

behind_none : (s : Served) → behind [] 0 s ≡ s
behind_none s = ap (λ r. record { text = s.text; result = r; rest = s.rest }) (plus_none s.result)

plus_plus : (j k : ℕ) (r : Result ℕ WireFault) → plus j (plus k r) ≡ plus (j + k) r
plus_plus j k (Ok n) = ap (λ i. Ok i) (omega arith)
plus_plus j k (Err f) = refl

behind_behind : (a b : List ℕ) (j k : ℕ) (s : Served) → behind a j (behind b k s) ≡ behind (a ++ b) (j + k) s
behind_behind a b j k s =
    ap (λ t. record { text = t; result = plus j (plus k s.result); rest = s.rest }) (sym (append_assoc a b s.text))
    ∙ ap (λ r. record { text = (a ++ b) ++ s.text; result = r; rest = s.rest }) (plus_plus j k s.result)

pub so_far_none : (m : Meaning) (n : Node) (old : Option (List ℕ)) (bytes : List ℕ) → SoFar m 0 n n old old bytes bytes
so_far_none m n old bytes = record {
  text = [];
  appended = Appends-nil old;
  front = ([], refl);
  goes = λ lacks. (lacks, λ left. ap (λ k. served_from m lacks k n bytes) (omega arith) ∙ sym (behind_none (served_from m lacks left n bytes)));
}

-- one more turn
turn_more : (m : Meaning) (left : ℕ) (lacks : Bool) (later : Lacks) (n v : Node) (bytes rest : List ℕ) → (next_turn lacks m n bytes).result ≡ Ok (Some v) → rest ≡ (next_turn lacks m n bytes).rest →
    served_from m (lacks_first lacks later) (suc left) n bytes ≡ behind (next_turn lacks m n bytes).text 1 (served_from m later left v rest)
unfolding served_from
turn_more m left lacks later n v bytes rest e r =
    ap (then_on (λ text v rest. behind text 1 (served_from m later left v rest)) (next_turn lacks m n bytes).text (next_turn lacks m n bytes).rest) e
    ∙ ap (λ t. behind (next_turn lacks m n bytes).text 1 (served_from m later left v t)) (sym r)

pub so_far_more : (m : Meaning) (done : ℕ) (start n v : Node) (old mid new : Option (List ℕ)) (bytes rest after : List ℕ) → SoFar m done start n old mid bytes rest →
    IsTurn m n v mid new (Ok true) rest after → SoFar m (done + 1) start v old new bytes after
so_far_more m done start n v old mid new bytes rest after s t = record {
  text = s.text ++ (next_turn t.lacks m n rest).text;
  appended = Appends-trans old mid new s.text (next_turn t.lacks m n rest).text s.appended t.outcome.1;
  front = IsFront-trans bytes rest after s.front t.within.front;
  goes = λ later.
      let before = s.goes (lacks_first t.lacks later) in (
        before.0,
        λ left.
            let next : (done + 1) + left ≡ done + suc left = omega arith in
            ap (λ k. served_from m before.0 k start bytes) next ∙ before.1 (suc left)
            ∙ ap (behind s.text done) (turn_more m left t.lacks later n v rest after t.outcome.0 t.outcome.2)
            ∙ behind_behind s.text (next_turn t.lacks m n rest).text done 1 (served_from m later left v after),
      );
}

-- The loop's exits

-- which later turns are without memory does not matter
abbrev pub never : Lacks
never turn = false

-- the turn ends the loop, or ends with a fault
turn_ends : (m : Meaning) (left : ℕ) (lacks : Bool) (n : Node) (bytes : List ℕ) → (next_turn lacks m n bytes).result ≡ Ok None →
    served_from m (lacks_first lacks never) (suc left) n bytes ≡ record { text = (next_turn lacks m n bytes).text; result = Ok 0; rest = (next_turn lacks m n bytes).rest }
unfolding served_from
turn_ends m left lacks n bytes e = ap (then_on (λ text v rest. behind text 1 (served_from m never left v rest)) (next_turn lacks m n bytes).text (next_turn lacks m n bytes).rest) e

turn_stops : (m : Meaning) (left : ℕ) (lacks : Bool) (n : Node) (bytes : List ℕ) (fault : WireFault) → (next_turn lacks m n bytes).result ≡ Err fault →
    served_from m (lacks_first lacks never) (suc left) n bytes ≡ record { text = (next_turn lacks m n bytes).text; result = Err fault; rest = (next_turn lacks m n bytes).rest }
unfolding served_from
turn_stops m left lacks n bytes fault e = ap (then_on (λ text v rest. behind text 1 (served_from m never left v rest)) (next_turn lacks m n bytes).text (next_turn lacks m n bytes).rest) e

-- the served text begins with the text of the turn
then_begins : (next : Node → List ℕ → Served) (text rest : List ℕ) (r : Result (Option Node) WireFault) → (more : List ℕ) × ((then_on (λ t v left. behind t 1 (next v left)) text rest r).text ≡ text ++ more)
then_begins next text rest (Ok (Some v)) = ((next v rest).text, refl)
then_begins next text rest (Ok None) = ([], sym (append-nil text))
then_begins next text rest (Err fault) = ([], sym (append-nil text))

turn_begins : (m : Meaning) (left : ℕ) (lacks : Bool) (n : Node) (bytes : List ℕ) → (more : List ℕ) × ((served_from m (lacks_first lacks never) (suc left) n bytes).text ≡ (next_turn lacks m n bytes).text ++ more)
unfolding served_from
turn_begins m left lacks n bytes = then_begins (λ v rest. served_from m never left v rest) (next_turn lacks m n bytes).text (next_turn lacks m n bytes).rest (next_turn lacks m n bytes).result

-- with exactly this number of turns
whole_so_far : (m : Meaning) (done : ℕ) (start n : Node) (text bytes rest : List ℕ) (lacks all : Lacks) → served_from m all (done + 0) start bytes ≡ behind text done (served_from m lacks 0 n rest) →
    served_from m all done start bytes ≡ record { text = text; result = Ok done; rest = rest }
unfolding served_from
whole_so_far m done start n text bytes rest lacks all e =
    let count : done ≡ done + 0 = omega arith in
    ap (λ k. served_from m all k start bytes) count ∙ e ∙ ap (λ t. record { text = t; result = Ok (done + 0); rest = rest }) (append-nil text)
    ∙ ap (λ k. record { text = text; result = Ok k; rest = rest }) (sym count)

pub served_all : (m : Meaning) (limit done : ℕ) (start n : Node) (old new : Option (List ℕ)) (bytes rest : List ℕ) → limit ≤ done → done ≤ limit → SoFar m done start n old new bytes rest →
    IsServedFrom m limit start old new (Ok limit) bytes rest
served_all m limit done start n old new bytes rest le ge s =
    let all = s.goes never in
    let count : limit ≡ done = omega arith in
    let is : served_from m all.0 limit start bytes ≡ record { text = s.text; result = Ok done; rest = rest } =
    ap (λ k. served_from m all.0 k start bytes) count ∙ whole_so_far m done start n s.text bytes rest never all.0 (all.1 0) in
    (all.0, (ap (λ (x : Served). x.result) is ∙ ap (λ i. Ok i) (sym count), subst (Appends old new) (sym (ap (λ (x : Served). x.text) is)) s.appended, sym (ap (λ (x : Served). x.rest) is)))

pub served_ends : (m : Meaning) (limit done : ℕ) (start n v : Node) (old mid new : Option (List ℕ)) (bytes rest after : List ℕ) → done < limit → SoFar m done start n old mid bytes rest →
    IsTurn m n v mid new (Ok false) rest after → IsServedFrom m limit start old new (Ok done) bytes after
served_ends m limit done start n v old mid new bytes rest after lt s t =
    let all = s.goes (lacks_first t.lacks never) in
    let turn = next_turn t.lacks m n rest in
    let left : limit ≡ done + suc (limit - (done + 1)) = omega arith in
    let is : served_from m all.0 limit start bytes ≡ behind s.text done (record { text = turn.text; result = Ok 0; rest = turn.rest }) =
    ap (λ k. served_from m all.0 k start bytes) left ∙ all.1 (suc (limit - (done + 1))) ∙ ap (behind s.text done) (turn_ends m (limit - (done + 1)) t.lacks n rest t.outcome.0) in
    let count : done + 0 ≡ done = omega arith in (
      all.0,
      (
        ap (λ (x : Served). x.result) is ∙ ap (λ i. Ok i) count,
        subst (Appends old new) (sym (ap (λ (x : Served). x.text) is)) (Appends-trans old mid new s.text turn.text s.appended t.outcome.1),
        t.outcome.2 ∙ sym (ap (λ (x : Served). x.rest) is),
      ),
    )

-- the turn ends with a fault
record StopsAt (m : Meaning) (limit : ℕ) (start : Node) (old new : Option (List ℕ)) (fault : WireFault) (bytes after : List ℕ) : Type 0 where
  pub lacks : Lacks
  pub result : (served_from m lacks limit start bytes).result ≡ Err fault
  pub appended : Appends old new (served_from m lacks limit start bytes).text
  pub rest : after ≡ (served_from m lacks limit start bytes).rest

stops_at : (m : Meaning) (limit done : ℕ) (start n : Node) (old mid new : Option (List ℕ)) (bytes rest after : List ℕ) (fault : WireFault) (lacks : Bool) → done < limit → SoFar m done start n old mid bytes rest →
    (next_turn lacks m n rest).result ≡ Err fault → Appends mid new (next_turn lacks m n rest).text → after ≡ (next_turn lacks m n rest).rest → StopsAt m limit start old new fault bytes after
stops_at m limit done start n old mid new bytes rest after fault lacks lt s e appended r =
    let all = s.goes (lacks_first lacks never) in
    let turn = next_turn lacks m n rest in
    let left : limit ≡ done + suc (limit - (done + 1)) = omega arith in
    let is : served_from m all.0 limit start bytes ≡ behind s.text done (record { text = turn.text; result = Err fault; rest = turn.rest }) =
    ap (λ k. served_from m all.0 k start bytes) left ∙ all.1 (suc (limit - (done + 1))) ∙ ap (behind s.text done) (turn_stops m (limit - (done + 1)) lacks n rest fault e) in
    record {
      lacks = all.0;
      result = ap (λ (x : Served). x.result) is;
      appended = subst (Appends old new) (sym (ap (λ (x : Served). x.text) is)) (Appends-trans old mid new s.text turn.text s.appended appended);
      rest = r ∙ sym (ap (λ (x : Served). x.rest) is);
    }

-- the turn stopped part of the way: what was written is a prefix of the served text
record IsHalfway (m : Meaning) (limit : ℕ) (start : Node) (old new : Option (List ℕ)) (bytes after : List ℕ) : Type 0 where
  pub lacks : Lacks
  pub begun : TakesBeginning old new (served_from m lacks limit start bytes).text
  pub stops : StopsFrom m lacks limit start old new bytes after

halfway : (m : Meaning) (limit done : ℕ) (start n : Node) (old mid new : Option (List ℕ)) (bytes rest after : List ℕ) (lacks : Bool) → done < limit → SoFar m done start n old mid bytes rest →
    TakesBeginning mid new (next_turn lacks m n rest).text → IsWithin rest after → IsHalfway m limit start old new bytes after
halfway m limit done start n old mid new bytes rest after lacks lt s h within =
    let all = s.goes (lacks_first lacks never) in
    let turn = next_turn lacks m n rest in
    let left : limit ≡ done + suc (limit - (done + 1)) = omega arith in
    let begins = turn_begins m (limit - (done + 1)) lacks n rest in
    let is : (served_from m all.0 limit start bytes).text ≡ s.text ++ (turn.text ++ begins.0) =
    ap (λ (x : Served). x.text) (ap (λ k. served_from m all.0 k start bytes) left ∙ all.1 (suc (limit - (done + 1)))) ∙ ap (λ t. s.text ++ t) begins.1 in
    let parts : s.text ++ (turn.text ++ begins.0) ≡ (s.text ++ h.taken) ++ (h.left ++ begins.0) =
    ap (λ t. s.text ++ (t ++ begins.0)) h.whole ∙ ap (λ t. s.text ++ t) (append_assoc h.taken h.left begins.0) ∙ sym (append_assoc s.text h.taken (h.left ++ begins.0)) in
    let so_far = whole_so_far m done start n s.text bytes rest (lacks_first lacks never) all.0 (all.1 0) in
    let appended = Appends-trans old mid new s.text h.taken s.appended h.appended in
    record {
      lacks = all.0;
      begun = record { taken = s.text ++ h.taken; left = h.left ++ begins.0; whole = is ∙ parts; appended = appended };
      stops = record {
        count = done;
        few = lt;
        answered = ap (λ (x : Served). x.result) so_far;
        written = (h.taken, subst (λ t. Appends old new (t ++ h.taken)) (sym (ap (λ (x : Served). x.text) so_far)) appended);
        within = subst (λ r. IsWithin r after) (sym (ap (λ (x : Served). x.rest) so_far)) within;
      };
    }

pub served_err : (m : Meaning) (limit done : ℕ) (start n v : Node) (old mid new : Option (List ℕ)) (bytes rest after : List ℕ) (fault : WireFault) → done < limit → SoFar m done start n old mid bytes rest →
    IsTurn m n v mid new (Err fault) rest after → IsServedFrom m limit start old new (Err fault) bytes after
served_err m limit done start n v old mid new bytes rest after wire.Io lt s t =
    let h = halfway m limit done start n old mid new bytes rest after t.lacks lt s t.outcome t.within in
    (h.lacks, (h.begun, IsFront-trans bytes rest after s.front t.within.front, h.stops))
served_err m limit done start n v old mid new bytes rest after wire.NoMemory lt s t =
    let h = halfway m limit done start n old mid new bytes rest after t.lacks lt s t.outcome t.within in
    (h.lacks, (h.begun, IsFront-trans bytes rest after s.front t.within.front, h.stops))
served_err m limit done start n v old mid new bytes rest after wire.Truncated lt s t =
    let h = stops_at m limit done start n old mid new bytes rest after wire.Truncated t.lacks lt s t.outcome.0 t.outcome.1 t.outcome.2 in (h.lacks, (h.result, h.appended, h.rest))
served_err m limit done start n v old mid new bytes rest after wire.TooLong lt s t =
    let h = stops_at m limit done start n old mid new bytes rest after wire.TooLong t.lacks lt s t.outcome.0 t.outcome.1 t.outcome.2 in (h.lacks, (h.result, h.appended, h.rest))
served_err m limit done start n v old mid new bytes rest after wire.BadKind lt s t =
    let h = stops_at m limit done start n old mid new bytes rest after wire.BadKind t.lacks lt s t.outcome.0 t.outcome.1 t.outcome.2 in (h.lacks, (h.result, h.appended, h.rest))
served_err m limit done start n v old mid new bytes rest after wire.BadBody lt s t =
    let h = stops_at m limit done start n old mid new bytes rest after wire.BadBody t.lacks lt s t.outcome.0 t.outcome.1 t.outcome.2 in (h.lacks, (h.result, h.appended, h.rest))

-- The same for a reader whose bytes contracts may see

pub on_map : (a b : Option (List ℕ)) (P Q : List ℕ → List ℕ → Type 0) → ((x y : List ℕ) → P x y → Q x y) → OnBytes a b P → OnBytes a b Q
on_map None b P Q f p = tt
on_map (Some x) None P Q f p = absurd p
on_map (Some x) (Some y) P Q f p = f x y p

pub loop_starts : (m : Meaning) (n : Node) (old : Option (List ℕ)) (a : Option (List ℕ)) → OnBytes a a (SoFar m 0 n n old old)
loop_starts m n old None = tt
loop_starts m n old (Some x) = so_far_none m n old x

module _ (m : Meaning) (done : ℕ) (start n v : Node) (old mid new : Option (List ℕ)) (a b c : Option (List ℕ)) where
  pub loop_ends : (limit : ℕ) (more : Bool) → more ≡ false → done < limit → OnBytes a b (SoFar m done start n old mid) → OnBytes b c (IsTurn m n v mid new (Ok more)) →
      OnBytes a c (IsServedFrom m limit start old new (Ok done))
  loop_ends limit more e lt s t =
      on_then a b c (SoFar m done start n old mid) (IsTurn m n v mid new (Ok false)) (IsServedFrom m limit start old new (Ok done))
      (λ x y z p q. served_ends m limit done start n v old mid new x y z lt p q) s (subst (λ k. OnBytes b c (IsTurn m n v mid new (Ok k))) e t)

  pub loop_goes : (more : Bool) → more ≡ true → OnBytes a b (SoFar m done start n old mid) → OnBytes b c (IsTurn m n v mid new (Ok more)) →
      OnBytes a c (SoFar m (done + 1) start v old new)
  loop_goes more e s t =
      on_then a b c (SoFar m done start n old mid) (IsTurn m n v mid new (Ok true)) (SoFar m (done + 1) start v old new)
      (λ x y z p q. so_far_more m done start n v old mid new x y z p q) s (subst (λ k. OnBytes b c (IsTurn m n v mid new (Ok k))) e t)

  pub loop_fails : (limit : ℕ) (fault : WireFault) (result : Result ℕ WireFault) → IsErrAnd result (λ e. e ≡ fault) → done < limit → OnBytes a b (SoFar m done start n old mid) →
      OnBytes b c (IsTurn m n v mid new (Err fault)) → OnBytes a c (IsServedFrom m limit start old new result)
  loop_fails limit fault (Ok k) e lt s t = absurd e
  loop_fails limit fault (Err f) e lt s t =
      subst (λ g. OnBytes a c (IsServedFrom m limit start old new (Err g))) (sym e) (
      on_then a b c (SoFar m done start n old mid) (IsTurn m n v mid new (Err fault)) (IsServedFrom m limit start old new (Err fault))
      (λ x y z p q. served_err m limit done start n v old mid new x y z fault lt p q) s t)

pub loop_done : (m : Meaning) (limit done : ℕ) (start n : Node) (old new : Option (List ℕ)) (a b : Option (List ℕ)) → limit ≤ done → done ≤ limit → OnBytes a b (SoFar m done start n old new) →
    OnBytes a b (IsServedFrom m limit start old new (Ok limit))
loop_done m limit done start n old new a b le ge s =
    on_map a b (SoFar m done start n old new) (IsServedFrom m limit start old new (Ok limit)) (λ x y p. served_all m limit done start n old new x y le ge p) s
