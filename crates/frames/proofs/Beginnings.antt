-- The loop's first frame, at each exit of the loop.
use Rattle.std.proofs.Common.{◌≡◌, ℕ, Bool, false, List, [], Option, Some, None, Result, Ok, Err, inl, inr, refl, sym, ap, subst, ◌∙◌}
use Rattle.std.specs.Io.KnownBytes.{Appends}
use Rattle.std.proofs.KnownBytes.{Appends-nil}
use Rattle.std.specs.Result.{IsErrAnd}
use Rattle.model.specs.Meaning.{Meaning}
use Rattle.node.specs.Handling.{Node}
use Rattle.frames.specs.Cutting.{Cut, cut}
use Rattle.frames.specs.Streams.{Finds, IsCutBy, IsFront, OnBytes}
use Rattle.frames.specs.declared.stream.Raw.{Raw}
use Rattle.frames.proofs.Cuts.{IsFront-trans, within_of}
use Rattle.frames.specs.Reactions.{Begins}
use Rattle.frames.specs.Serving.{Lacks, Served, Turn, after_turn, begun_to, ends, first_turn, goes_on, load_turn, on_found, served, served_from, stops}
use Rattle.frames.specs.Outcomes.{IsServed, IsServedFrom, Stops, StopsFrom, HasOutcome}
use Rattle.eventkey.specs.Writing.{TakesBeginning}
use Rattle.frames.specs.declared.reaction.Begun.{Begun}
use Rattle.frames.specs.declared.reaction.Begun.TheVariants.{Loaded, Refused}
use Rattle.wire.specs.declared.port.WireFault.{WireFault}
use Rattle.wire.specs.declared.port.WireFault.TheVariants as wire
use Rattle.frames.proofs.Places.{begins_none}
use Rattle.frames.proofs.Turns.{lacks_first, never, on_map, on_then}

-- the first turn ends with a fault
abbrev stopped : WireFault → List ℕ → Served
stopped fault rest = record { text = []; result = Err fault; rest = rest }

abbrev ended : List ℕ → List ℕ → Served
ended text rest = record { text = text; result = Ok 0; rest = rest }

stops_at : (fault : WireFault) (s : Served) (halts : Type 0) (bytes rest : List ℕ) (old : Option (List ℕ)) → s ≡ stopped fault rest → IsFront bytes rest → halts → HasOutcome s halts bytes rest old old (Err fault)
stops_at wire.Io s halts bytes rest old e f h = (begins_none old s.text, f, h)
stops_at wire.NoMemory s halts bytes rest old e f h = (begins_none old s.text, f, h)
stops_at wire.Truncated s halts bytes rest old e f h = subst (λ (s : Served). HasOutcome s halts bytes rest old old (Err wire.Truncated)) (sym e) (refl, Appends-nil old, refl)
stops_at wire.TooLong s halts bytes rest old e f h = subst (λ (s : Served). HasOutcome s halts bytes rest old old (Err wire.TooLong)) (sym e) (refl, Appends-nil old, refl)
stops_at wire.BadKind s halts bytes rest old e f h = subst (λ (s : Served). HasOutcome s halts bytes rest old old (Err wire.BadKind)) (sym e) (refl, Appends-nil old, refl)
stops_at wire.BadBody s halts bytes rest old e f h = subst (λ (s : Served). HasOutcome s halts bytes rest old old (Err wire.BadBody)) (sym e) (refl, Appends-nil old, refl)

module _ (m : Meaning) (limit : ℕ) where
  abbrev next : Lacks → List ℕ → Node → List ℕ → Served
  next lacks text v rest = served_from m lacks limit v rest

  served_is : (lacks : Bool) (others : Lacks) (bytes : List ℕ) (t : Turn) → first_turn lacks m.lps bytes ≡ t → served m (lacks_first lacks others) limit bytes ≡ after_turn (next others) t
  unfolding served
  served_is lacks others bytes t e = ap (after_turn (next others)) e

  first_found : (lacks : Bool) (bytes rest : List ℕ) (raw : Raw) → Finds (cut bytes) (Ok (Some raw)) rest → first_turn lacks m.lps bytes ≡ load_turn lacks m.lps rest raw
  unfolding first_turn
  first_found lacks bytes rest raw e = ap (λ (c : Cut Raw). on_found c.rest (load_turn lacks m.lps c.rest) c.found) e

  first_none : (bytes rest : List ℕ) → Finds (cut bytes) (Ok None) rest → first_turn false m.lps bytes ≡ ends rest []
  unfolding first_turn
  first_none bytes rest e = ap (λ (c : Cut Raw). on_found c.rest (load_turn false m.lps c.rest) c.found) e

  first_fault : (fault : WireFault) (bytes rest : List ℕ) → Finds (cut bytes) (Err fault) rest → first_turn false m.lps bytes ≡ stops rest fault
  unfolding first_turn
  first_fault fault bytes rest e = ap (λ (c : Cut Raw). on_found c.rest (load_turn false m.lps c.rest) c.found) e

  fault_at : (old : Option (List ℕ)) (fault : WireFault) (x y : List ℕ) → Finds (cut x) (Err fault) y → IsServed m limit old old (Err fault) x y
  fault_at old fault x y h =
      let w = within_of x y (Err fault) h in
      let all = lacks_first false never in
      (all, stops_at fault (served m all limit x) (Stops m all limit old old x y) x y old (served_is false never x (stops y fault) (first_fault fault x y h)) w.front (inl w))

  not_read_at : (old : Option (List ℕ)) (fault : WireFault) (x y : List ℕ) → IsCutBy cut (Err fault) x y → IsServed m limit old old (Err fault) x y
  not_read_at old wire.Io x y h = (never, (begins_none old (served m never limit x).text, h.front, inl h))
  not_read_at old wire.NoMemory x y h = (never, (begins_none old (served m never limit x).text, h.front, inl h))
  not_read_at old wire.Truncated x y h = fault_at old wire.Truncated x y h
  not_read_at old wire.TooLong x y h = fault_at old wire.TooLong x y h
  not_read_at old wire.BadKind x y h = fault_at old wire.BadKind x y h
  not_read_at old wire.BadBody x y h = fault_at old wire.BadBody x y h

  pub serve_not_read : (old a b : Option (List ℕ)) (fault : WireFault) (result : Result ℕ WireFault) → IsErrAnd result (λ e. e ≡ fault) → OnBytes a b (IsCutBy cut (Err fault)) →
      OnBytes a b (IsServed m limit old old result)
  serve_not_read old a b fault (Ok x) e h = absurd e
  serve_not_read old a b fault (Err f) e h =
      subst (λ (g : WireFault). OnBytes a b (IsServed m limit old old (Err g))) (sym e) (on_map a b (IsCutBy cut (Err fault)) (IsServed m limit old old (Err fault)) (not_read_at old fault) h)

  ends_at : (lacks : Bool) (old new : Option (List ℕ)) (text x y : List ℕ) → first_turn lacks m.lps x ≡ ends y text → Appends old new text → IsServed m limit old new (Ok 0) x y
  ends_at lacks old new text x y e h =
      (lacks_first lacks never, subst (λ (s : Served). HasOutcome s (Stops m (lacks_first lacks never) limit old new x y) x y old new (Ok 0)) (sym (served_is lacks never x (ends y text) e)) (refl, h, refl))

  pub serve_ended : (old a b : Option (List ℕ)) → OnBytes a b (IsCutBy cut (Ok None)) → OnBytes a b (IsServed m limit old old (Ok 0))
  serve_ended old a b h =
      on_map a b (IsCutBy cut (Ok None)) (IsServed m limit old old (Ok 0)) (λ x y k. ends_at false old old [] x y (first_none x y k) (Appends-nil old)) h

  -- no node was made
  refused_at : (old : Option (List ℕ)) (raw : Raw) (fault : WireFault) (x y : List ℕ) → Begins m.lps raw (Err fault) → Finds (cut x) (Ok (Some raw)) y → IsServed m limit old old (Err fault) x y
  refused_at old raw fault x y (lacks, inl is) h =
      let w = within_of x y (Ok (Some raw)) h in
      let all = lacks_first lacks never in
      (all, stops_at fault (served m all limit x) (Stops m all limit old old x y) x y old (served_is lacks never x (stops y fault) (first_found lacks x y raw h ∙ ap (begun_to y) (sym is))) w.front (inl w))
  refused_at old raw fault x y (lacks, inr none) h =
      let memory : fault ≡ wire.NoMemory = cc in
      let w = within_of x y (Ok (Some raw)) h in
      subst (λ (f : WireFault). IsServed m limit old old (Err f) x y) (sym memory) (never, (begins_none old (served m never limit x).text, w.front, inl w))

  pub serve_refused : (old a b : Option (List ℕ)) (raw : Raw) (fault : WireFault) (result : Result ℕ WireFault) → IsErrAnd result (λ e. e ≡ fault) → OnBytes a b (IsCutBy cut (Ok (Some raw))) →
      Begins m.lps raw (Err fault) → OnBytes a b (IsServed m limit old old result)
  serve_refused old a b raw fault (Ok x) e h r = absurd e
  serve_refused old a b raw fault (Err f) e h r =
      subst (λ (g : WireFault). OnBytes a b (IsServed m limit old old (Err g))) (sym e)
      (on_map a b (IsCutBy cut (Ok (Some raw))) (IsServed m limit old old (Err fault)) (λ x y k. refused_at old raw fault x y r k) h)

  -- the first turn, by what `begin` returned
  begun_turn : (raw : Raw) (b : Begun) (x y : List ℕ) → Begins m.lps raw (Ok b) → Finds (cut x) (Ok (Some raw)) y → (lacks : Bool) × (first_turn lacks m.lps x ≡ begun_to y (Ok b))
  begun_turn raw b x y (lacks, inl is) h = (lacks, first_found lacks x y raw h ∙ ap (begun_to y) (sym is))
  begun_turn raw b x y (lacks, inr none) h = absurd (cc)

  pub serve_node_refused : (old new a b : Option (List ℕ)) (raw : Raw) (text : List ℕ) → OnBytes a b (IsCutBy cut (Ok (Some raw))) → Begins m.lps raw (Ok (Refused text)) → Appends old new text →
      OnBytes a b (IsServed m limit old new (Ok 0))
  serve_node_refused old new a b raw text h r w =
      on_map a b (IsCutBy cut (Ok (Some raw))) (IsServed m limit old new (Ok 0)) (λ x y k.
      let t = begun_turn raw (Refused text) x y r k in ends_at t.0 old new text x y t.1 w) h

  pub serve_cut_short : (old new a b : Option (List ℕ)) (raw : Raw) (text : List ℕ) (result : Result ℕ WireFault) → IsErrAnd result (λ e. e ≡ wire.Io) → OnBytes a b (IsCutBy cut (Ok (Some raw))) →
      Begins m.lps raw (Ok (Refused text)) → TakesBeginning old new text → OnBytes a b (IsServed m limit old new result)
  serve_cut_short old new a b raw text (Ok x) e h r w = absurd e
  serve_cut_short old new a b raw text (Err f) e h r w =
      subst (λ (g : WireFault). OnBytes a b (IsServed m limit old new (Err g))) (sym e)
      (on_map a b (IsCutBy cut (Ok (Some raw))) (IsServed m limit old new (Err wire.Io)) (λ x y k.
      let t = begun_turn raw (Refused text) x y r k in
      let is = ap (λ (s : Served). s.text) (served_is t.0 never x (ends y text) t.1) in
      let within = within_of x y (Ok (Some raw)) k in
      (lacks_first t.0 never, (subst (TakesBeginning old new) (sym is) w, within.front, inl within))) h)

  -- the same bytes served, after a frame that was read before them
  from_front : (s : Served) (P Q : Type 0) (bytes mid rest : List ℕ) (old new : Option (List ℕ)) (result : Result ℕ WireFault) → IsFront bytes mid → (P → Q) → HasOutcome s P mid rest old new result →
      HasOutcome s Q bytes rest old new result
  from_front s P Q bytes mid rest old new (Ok k) f g h = h
  from_front s P Q bytes mid rest old new (Err wire.Io) f g h = (h.0, IsFront-trans bytes mid rest f h.1, g h.2)
  from_front s P Q bytes mid rest old new (Err wire.NoMemory) f g h = (h.0, IsFront-trans bytes mid rest f h.1, g h.2)
  from_front s P Q bytes mid rest old new (Err wire.Truncated) f g h = h
  from_front s P Q bytes mid rest old new (Err wire.TooLong) f g h = h
  from_front s P Q bytes mid rest old new (Err wire.BadKind) f g h = h
  from_front s P Q bytes mid rest old new (Err wire.BadBody) f g h = h

  stops_later : (lacks : Bool) (others : Lacks) (n : Node) (old new : Option (List ℕ)) (x y z : List ℕ) → first_turn lacks m.lps x ≡ goes_on y [] n → StopsFrom m others limit n old new y z →
      Stops m (lacks_first lacks others) limit old new x z
  stops_later lacks others n old new x y z e s =
      inr (n, ap (λ (t : Turn). t.result) e, subst (λ (b : List ℕ). StopsFrom m others limit n old new b z) (sym (ap (λ (t : Turn). t.rest) e)) s)

  pub serve_loaded : (old new a b c : Option (List ℕ)) (raw : Raw) (n : Node) (result : Result ℕ WireFault) → OnBytes a b (IsCutBy cut (Ok (Some raw))) → Begins m.lps raw (Ok (Loaded n)) →
      OnBytes b c (IsServedFrom m limit n old new result) → OnBytes a c (IsServed m limit old new result)
  serve_loaded old new a b c raw n result h r s =
      on_then a b c (IsCutBy cut (Ok (Some raw))) (IsServedFrom m limit n old new result) (IsServed m limit old new result) (λ x y z k p.
      let t = begun_turn raw (Loaded n) x y r k in
      let is : served m (lacks_first t.0 p.0) limit x ≡ served_from m p.0 limit n y = served_is t.0 p.0 x (goes_on y [] n) t.1 in
      let w = within_of x y (Ok (Some raw)) k in
      let all = lacks_first t.0 p.0 in (
        all,
        subst (λ (s : Served). HasOutcome s (Stops m all limit old new x z) x z old new result) (sym is)
            (from_front (served_from m p.0 limit n y) (StopsFrom m p.0 limit n old new y z) (Stops m all limit old new x z) x y z old new result w.front (stops_later t.0 p.0 n old new x y z t.1) p.1),
      )) h s
