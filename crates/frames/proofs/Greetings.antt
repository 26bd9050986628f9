-- A stream that may begin with a hello, at each exit of the loop.
use Rattle.std.proofs.Common.{◌≡◌, ℕ, Bool, true, false, cond, List, [], ◌++◌, take, Option, Some, None, Result, Ok, Err, refl, sym, ap, subst, ◌∙◌, append_assoc}
use Rattle.std.specs.Prelude.{IfSome}
use Rattle.std.specs.Fmt.{option_append}
use Rattle.std.specs.Io.KnownBytes.{Appends}
use Rattle.std.specs.Result.{IsErrAnd}
use Rattle.std.proofs.KnownBytes.{Appends-nil, Appends-trans}
use Rattle.model.specs.Meaning.{Meaning}
use Rattle.eventkey.specs.Writing.{TakesBeginning}
use Rattle.frames.specs.Cutting.{Cut}
use Rattle.frames.specs.Greeted.{EndsAs, Greeted, IsAnswered, IsFirst, IsGreeted, IsThere, answered, behind_hello, ended, greeted, greeted_at, without_hello}
use Rattle.frames.specs.Hellos.{agrees, hello_body, hello_frame, hello_length, hello_of}
use Rattle.frames.specs.Outcomes.{HasOutcome, IsServed}
use Rattle.frames.specs.Serving.{Lacks, Served, served}
use Rattle.frames.specs.Streams.{OnBytes}
use Rattle.frames.specs.declared.first_frame.First.{First}
use Rattle.frames.specs.declared.first_frame.First.TheVariants as first
use Rattle.frames.specs.declared.greeted.Ending.{Ending}
use Rattle.frames.specs.declared.greeted.Ending.TheVariants.{OtherModel}
use Rattle.frames.specs.declared.greeting.Hello.{Hello}
use Rattle.frames.proofs.Places.{begins_none}
use Rattle.frames.proofs.Turns.{never}
use Rattle.wire.specs.declared.port.WireFault.{WireFault}
use Rattle.wire.specs.declared.port.WireFault.TheVariants as wire

-- 1. What was served without a hello, and after one

served_alone : (s : Served) (P : Type 0) (bytes rest : List ℕ) (old new : Option (List ℕ)) (r : Result ℕ WireFault) → HasOutcome s P bytes rest old new r → EndsAs (without_hello s) old new (ended r)
served_alone s P bytes rest old new (Ok n) h = (ap ended h.0, h.1)
served_alone s P bytes rest old new (Err wire.Io) h = h.0
served_alone s P bytes rest old new (Err wire.NoMemory) h = h.0
served_alone s P bytes rest old new (Err wire.Truncated) h = (ap ended h.0, h.1)
served_alone s P bytes rest old new (Err wire.TooLong) h = (ap ended h.0, h.1)
served_alone s P bytes rest old new (Err wire.BadKind) h = (ap ended h.0, h.1)
served_alone s P bytes rest old new (Err wire.BadBody) h = (ap ended h.0, h.1)

-- more of the text was begun
begun_behind : (old mid new : Option (List ℕ)) (text more : List ℕ) → Appends old mid text → TakesBeginning mid new more → TakesBeginning old new (text ++ more)
begun_behind old mid new text more h b = record {
  taken = text ++ b.taken;
  left = b.left;
  whole = ap (λ (t : List ℕ). text ++ t) b.whole ∙ sym (append_assoc text b.taken b.left);
  appended = Appends-trans old mid new text b.taken h b.appended;
}

begun_first : (old new : Option (List ℕ)) (text more : List ℕ) → TakesBeginning old new text → TakesBeginning old new (text ++ more)
begun_first old new text more b = record {
  taken = b.taken;
  left = b.left ++ more;
  whole = ap (λ (t : List ℕ). t ++ more) b.whole ∙ append_assoc b.taken b.left more;
  appended = b.appended;
}

module _ (old mid new : Option (List ℕ)) (text : List ℕ) (h : Appends old mid text) where
  served_behind : (s : Served) (P : Type 0) (bytes rest : List ℕ) (r : Result ℕ WireFault) → HasOutcome s P bytes rest mid new r → EndsAs (record { text = text ++ s.text; result = ended s.result }) old new (ended r)
  served_behind s P bytes rest (Ok n) k = (ap ended k.0, Appends-trans old mid new text s.text h k.1)
  served_behind s P bytes rest (Err wire.Io) k = begun_behind old mid new text s.text h k.0
  served_behind s P bytes rest (Err wire.NoMemory) k = begun_behind old mid new text s.text h k.0
  served_behind s P bytes rest (Err wire.Truncated) k = (ap ended k.0, Appends-trans old mid new text s.text h k.1)
  served_behind s P bytes rest (Err wire.TooLong) k = (ap ended k.0, Appends-trans old mid new text s.text h k.1)
  served_behind s P bytes rest (Err wire.BadKind) k = (ap ended k.0, Appends-trans old mid new text s.text h k.1)
  served_behind s P bytes rest (Err wire.BadBody) k = (ap ended k.0, Appends-trans old mid new text s.text h k.1)

-- 2. Behind a hello that was read

some_of : (bytes : Option (List ℕ)) (P : List ℕ → Type 0) → ((b : List ℕ) → P b) → IfSome bytes P
some_of None P f = tt
some_of (Some b) P f = f b

on_some : (a b : Option (List ℕ)) (P : List ℕ → List ℕ → Type 0) (Q : List ℕ → Type 0) → ((x y : List ℕ) → P x y → Q x) → OnBytes a b P → IfSome a Q
on_some None b P Q f p = tt
on_some (Some x) None P Q f p = absurd p
on_some (Some x) (Some y) P Q f p = f x y p

module _ (m : Meaning) (end limit : ℕ) (asked : Hello) (bytes : Option (List ℕ)) where
  abbrev own : Hello
  own = hello_of m end

  -- `answered`, by whether the two agree
  abbrev either_way : Served → Bool → Greeted
  either_way s b = cond b (record { text = hello_frame own ++ s.text; result = ended s.result }) (record { text = hello_frame own; result = Ok (OtherModel asked) })

  -- no byte was written
  pub answer_lacks : (old : Option (List ℕ)) (result : Result Ending WireFault) → IsErrAnd result (λ e. e ≡ wire.NoMemory) → IfSome bytes (IsAnswered m end limit asked old old result)
  answer_lacks old (Ok x) e = absurd e
  answer_lacks old (Err f) e =
      subst (λ (g : WireFault). IfSome bytes (IsAnswered m end limit asked old old (Err g))) (sym e)
      (some_of bytes (IsAnswered m end limit asked old old (Err wire.NoMemory)) (λ b. (never, begins_none old (answered own asked (served m never limit b)).text)))

  text_begun : (old new : Option (List ℕ)) (s : Served) (b : Bool) → TakesBeginning old new (hello_frame own) →
      TakesBeginning old new (either_way s b).text
  text_begun old new s true h = begun_first old new (hello_frame own) s.text h
  text_begun old new s false h = h

  pub answer_cut_short : (old new : Option (List ℕ)) (result : Result Ending WireFault) → IsErrAnd result (λ e. e ≡ wire.Io) → TakesBeginning old new (hello_frame own) → IfSome bytes (IsAnswered m end limit asked old new result)
  answer_cut_short old new (Ok x) e h = absurd e
  answer_cut_short old new (Err f) e h =
      subst (λ (g : WireFault). IfSome bytes (IsAnswered m end limit asked old new (Err g))) (sym e)
      (some_of bytes (IsAnswered m end limit asked old new (Err wire.Io)) (λ b. (never, text_begun old new (served m never limit b) (agrees own asked) h)))

  pub answer_other : (old new : Option (List ℕ)) → agrees own asked ≡ false → Appends old new (hello_frame own) → IfSome bytes (IsAnswered m end limit asked old new (Ok (OtherModel asked)))
  answer_other old new other h = some_of bytes (IsAnswered m end limit asked old new (Ok (OtherModel asked))) (λ b. (never, rw other (refl, h)))

  pub answer_served : (old mid new after : Option (List ℕ)) (r : Result ℕ WireFault) → agrees own asked ≡ true → Appends old mid (hello_frame own) → OnBytes bytes after (IsServed m limit mid new r) →
      IfSome bytes (IsAnswered m end limit asked old new (ended r))
  answer_served old mid new after r same h s =
      on_some bytes after (IsServed m limit mid new r) (IsAnswered m end limit asked old new (ended r)) (λ b rest out.
      (out.0, rw same (served_behind old mid new (hello_frame own) h (served m out.0 limit b) _ b rest r out.1))) s

  pub answer_failed : (old mid new after : Option (List ℕ)) (fault : WireFault) (result : Result Ending WireFault) → IsErrAnd result (λ e. e ≡ fault) → agrees own asked ≡ true → Appends old mid (hello_frame own) →
      OnBytes bytes after (IsServed m limit mid new (Err fault)) → IfSome bytes (IsAnswered m end limit asked old new result)
  answer_failed old mid new after fault (Ok x) e same h s = absurd e
  answer_failed old mid new after fault (Err f) e same h s =
      subst (λ (g : WireFault). IfSome bytes (IsAnswered m end limit asked old new (Err g))) (sym e) (answer_served old mid new after (Err fault) same h s)

-- 3. The first frame

module _ (m : Meaning) (end limit : ℕ) where
  greeted_is : (lacks : Lacks) (bytes : List ℕ) (n : ℕ × List ℕ) → hello_length bytes ≡ Some n →
      greeted (hello_of m end) m lacks limit bytes ≡ behind_hello (served m lacks limit) (hello_of m end) (hello_body n.0 n.1).rest (hello_body n.0 n.1).found
  unfolding greeted
  greeted_is lacks bytes n e = ap (greeted_at (served m lacks limit) (hello_of m end) bytes) e

  greeted_alone : (lacks : Lacks) (bytes : List ℕ) → hello_length bytes ≡ None → greeted (hello_of m end) m lacks limit bytes ≡ without_hello (served m lacks limit bytes)
  unfolding greeted
  greeted_alone lacks bytes e = ap (greeted_at (served m lacks limit) (hello_of m end) bytes) e

  pub greeted_hello : (a b old new : Option (List ℕ)) (h : Hello) (result : Result Ending WireFault) → OnBytes a b (IsFirst (Ok (first.Hello h))) → IfSome b (IsAnswered m end limit h old new result) →
      IfSome a (IsGreeted m end limit old new result)
  greeted_hello None b old new h result f k = tt
  greeted_hello (Some bytes) None old new h result f k = absurd f
  greeted_hello (Some bytes) (Some rest) old new h result (n, is, found) (lacks, out) =
      let next = served m lacks limit in
      let as_answered : greeted (hello_of m end) m lacks limit bytes ≡ answered (hello_of m end) h (next rest) =
      greeted_is lacks bytes n is ∙ ap (λ (c : Cut Hello). behind_hello next (hello_of m end) c.rest c.found) found in
      (lacks, subst (λ (g : Greeted). EndsAs g old new result) (sym as_answered) out)

  -- a fault of the hello
  hello_fault : (old : Option (List ℕ)) (fault : WireFault) (bytes : List ℕ) → IsThere bytes (λ c. c.found ≡ Err fault) → greeted (hello_of m end) m never limit bytes ≡ record { text = []; result = Err fault }
  hello_fault old fault bytes (n, is, found) = greeted_is never bytes n is ∙ ap (behind_hello (served m never limit) (hello_of m end) (hello_body n.0 n.1).rest) found

  fault_at : (old : Option (List ℕ)) (fault : WireFault) (bytes rest : List ℕ) → IsFirst (Err fault) bytes rest → IsGreeted m end limit old old (Err fault) bytes
  fault_at old wire.Io bytes rest f = (never, begins_none old (greeted (hello_of m end) m never limit bytes).text)
  fault_at old wire.NoMemory bytes rest f = (never, begins_none old (greeted (hello_of m end) m never limit bytes).text)
  fault_at old wire.Truncated bytes rest f = (never, subst (λ (g : Greeted). EndsAs g old old (Err wire.Truncated)) (sym (hello_fault old wire.Truncated bytes f)) (refl, Appends-nil old))
  fault_at old wire.TooLong bytes rest f = (never, subst (λ (g : Greeted). EndsAs g old old (Err wire.TooLong)) (sym (hello_fault old wire.TooLong bytes f)) (refl, Appends-nil old))
  fault_at old wire.BadKind bytes rest f = (never, subst (λ (g : Greeted). EndsAs g old old (Err wire.BadKind)) (sym (hello_fault old wire.BadKind bytes f)) (refl, Appends-nil old))
  fault_at old wire.BadBody bytes rest f = (never, subst (λ (g : Greeted). EndsAs g old old (Err wire.BadBody)) (sym (hello_fault old wire.BadBody bytes f)) (refl, Appends-nil old))

  pub greeted_fault : (a b old : Option (List ℕ)) (fault : WireFault) (result : Result Ending WireFault) → IsErrAnd result (λ e. e ≡ fault) → OnBytes a b (IsFirst (Err fault)) → IfSome a (IsGreeted m end limit old old result)
  greeted_fault a b old fault (Ok x) e f = absurd e
  greeted_fault a b old fault (Err g) e f = subst (λ (k : WireFault). IfSome a (IsGreeted m end limit old old (Err k))) (sym e) (on_some a b (IsFirst (Err fault)) (IsGreeted m end limit old old (Err fault)) (fault_at old fault) f)

  -- no hello: the bytes that were read come first again
  alone_at : (after old new : Option (List ℕ)) (r : Result ℕ WireFault) (bytes : List ℕ) → hello_length bytes ≡ None → OnBytes (Some bytes) after (IsServed m limit old new r) →
      IsGreeted m end limit old new (ended r) bytes
  alone_at None old new r bytes none s = absurd s
  alone_at (Some rest) old new r bytes none (lacks, out) =
      (lacks, subst (λ (g : Greeted). EndsAs g old new (ended r)) (sym (greeted_alone lacks bytes none)) (served_alone (served m lacks limit bytes) _ bytes rest old new r out))

  pub greeted_other : (a b whole after old new : Option (List ℕ)) (head : List ℕ) (came : ℕ) (r : Result ℕ WireFault) → OnBytes a b (IsFirst (Ok (first.Other head came))) →
      whole ≡ option_append (Some (take came head)) b → OnBytes whole after (IsServed m limit old new r) → IfSome a (IsGreeted m end limit old new (ended r))
  greeted_other None b whole after old new head came r f e s = tt
  greeted_other (Some bytes) None whole after old new head came r f e s = absurd f
  greeted_other (Some bytes) (Some rest) whole after old new head came r f e s =
      let all : whole ≡ Some bytes = e ∙ ap (λ (x : List ℕ). Some x) (sym f.whole) in
      alone_at after old new r bytes f.none (subst (λ (w : Option (List ℕ)). OnBytes w after (IsServed m limit old new r)) all s)

  pub greeted_failed : (a b whole after old new : Option (List ℕ)) (head : List ℕ) (came : ℕ) (fault : WireFault) (result : Result Ending WireFault) → IsErrAnd result (λ e. e ≡ fault) →
      OnBytes a b (IsFirst (Ok (first.Other head came))) → whole ≡ option_append (Some (take came head)) b → OnBytes whole after (IsServed m limit old new (Err fault)) → IfSome a (IsGreeted m end limit old new result)
  greeted_failed a b whole after old new head came fault (Ok x) e f w s = absurd e
  greeted_failed a b whole after old new head came fault (Err g) e f w s =
      subst (λ (k : WireFault). IfSome a (IsGreeted m end limit old new (Err k))) (sym e) (greeted_other a b whole after old new head came (Err fault) f w s)

-- what was read first, under another name
pub first_as : (a b : Option (List ℕ)) (f g : First) → f ≡ g → OnBytes a b (IsFirst (Ok f)) → OnBytes a b (IsFirst (Ok g))
first_as a b f g e h = subst (λ (x : First). OnBytes a b (IsFirst (Ok x))) e h
