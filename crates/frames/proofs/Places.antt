-- One turn of the loop, at each exit.
use Rattle.std.proofs.Common.{◌≡◌, ℕ, Bool, true, false, cond, List, [], Option, Some, None, Result, Ok, Err, inl, inr, refl, sym, ap, subst, ◌∙◌}
use Rattle.std.specs.Io.KnownBytes.{Appends}
use Rattle.std.proofs.KnownBytes.{Appends-nil}
use Rattle.std.specs.Result.{IsErrAnd}
use Rattle.model.specs.Meaning.{Meaning}
use Rattle.node.specs.Handling.{Node}
use Rattle.frames.specs.Cutting.{Cut, cut}
use Rattle.frames.specs.Streams.{Finds, IsCutBy, OnBytes}
use Rattle.frames.specs.declared.stream.Raw.{Raw}
use Rattle.frames.proofs.Cuts.{within_of}
use Rattle.frames.specs.Reactions.{Reacts, reaction}
use Rattle.frames.specs.Serving.{Turn, ends, goes_on, next_turn, on_found, parcel_turn, stops, turn_to}
use Rattle.frames.specs.Outcomes.{IsTurn, TurnHasOutcome}
use Rattle.eventkey.specs.Writing.{TakesBeginning}
use Rattle.frames.specs.declared.reaction.Response.{Response}
use Rattle.wire.specs.declared.port.WireFault.{WireFault}
use Rattle.wire.specs.declared.port.WireFault.TheVariants as wire
use Rattle.frames.proofs.Turns.{on_map}

-- nothing is written yet
pub begins_none : (old : Option (List ℕ)) (text : List ℕ) → TakesBeginning old old text
begins_none old text = record { taken = []; left = text; whole = refl; appended = Appends-nil old }

-- what was read, under another name
pub found_as : (a b : Option (List ℕ)) (o p : Option Raw) → o ≡ p → OnBytes a b (IsCutBy cut (Ok o)) → OnBytes a b (IsCutBy cut (Ok p))
found_as a b o p e h = subst (λ (x : Option Raw). OnBytes a b (IsCutBy cut (Ok x))) e h

-- the turn ends with a fault
turn_stops_at : (fault : WireFault) (t : Turn) (rest : List ℕ) (old : Option (List ℕ)) (n : Node) → t ≡ stops rest fault → TurnHasOutcome t rest old old (Err fault) n
turn_stops_at wire.Io t rest old n e = begins_none old t.text
turn_stops_at wire.NoMemory t rest old n e = begins_none old t.text
turn_stops_at wire.Truncated t rest old n e = subst (λ (t : Turn). TurnHasOutcome t rest old old (Err wire.Truncated) n) (sym e) (refl, Appends-nil old, refl)
turn_stops_at wire.TooLong t rest old n e = subst (λ (t : Turn). TurnHasOutcome t rest old old (Err wire.TooLong) n) (sym e) (refl, Appends-nil old, refl)
turn_stops_at wire.BadKind t rest old n e = subst (λ (t : Turn). TurnHasOutcome t rest old old (Err wire.BadKind) n) (sym e) (refl, Appends-nil old, refl)
turn_stops_at wire.BadBody t rest old n e = subst (λ (t : Turn). TurnHasOutcome t rest old old (Err wire.BadBody) n) (sym e) (refl, Appends-nil old, refl)

module _ (m : Meaning) (n : Node) where
  next_found : (lacks : Bool) (bytes rest : List ℕ) (raw : Raw) → Finds (cut bytes) (Ok (Some raw)) rest → next_turn lacks m n bytes ≡ parcel_turn lacks m n rest raw
  unfolding next_turn
  next_found lacks bytes rest raw e = ap (λ (c : Cut Raw). on_found c.rest (parcel_turn lacks m n c.rest) c.found) e

  next_none : (bytes rest : List ℕ) → Finds (cut bytes) (Ok None) rest → next_turn false m n bytes ≡ ends rest []
  unfolding next_turn
  next_none bytes rest e = ap (λ (c : Cut Raw). on_found c.rest (parcel_turn false m n c.rest) c.found) e

  next_fault : (fault : WireFault) (bytes rest : List ℕ) → Finds (cut bytes) (Err fault) rest → next_turn false m n bytes ≡ stops rest fault
  unfolding next_turn
  next_fault fault bytes rest e = ap (λ (c : Cut Raw). on_found c.rest (parcel_turn false m n c.rest) c.found) e

  fault_at : (old : Option (List ℕ)) (fault : WireFault) (x y : List ℕ) → Finds (cut x) (Err fault) y → IsTurn m n n old old (Err fault) x y
  fault_at old fault x y h = record { lacks = false; within = within_of x y (Err fault) h; outcome = turn_stops_at fault (next_turn false m n x) y old n (next_fault fault x y h) }

  not_read_at : (old : Option (List ℕ)) (fault : WireFault) (x y : List ℕ) → IsCutBy cut (Err fault) x y → IsTurn m n n old old (Err fault) x y
  not_read_at old wire.Io x y h = record { lacks = false; within = h; outcome = begins_none old (next_turn false m n x).text }
  not_read_at old wire.NoMemory x y h = record { lacks = false; within = h; outcome = begins_none old (next_turn false m n x).text }
  not_read_at old wire.Truncated x y h = fault_at old wire.Truncated x y h
  not_read_at old wire.TooLong x y h = fault_at old wire.TooLong x y h
  not_read_at old wire.BadKind x y h = fault_at old wire.BadKind x y h
  not_read_at old wire.BadBody x y h = fault_at old wire.BadBody x y h

  pub turn_not_read : (old a b : Option (List ℕ)) (fault : WireFault) (result : Result Bool WireFault) → IsErrAnd result (λ e. e ≡ fault) → OnBytes a b (IsCutBy cut (Err fault)) →
      OnBytes a b (IsTurn m n n old old result)
  turn_not_read old a b fault (Ok x) e h = absurd e
  turn_not_read old a b fault (Err f) e h =
      subst (λ (g : WireFault). OnBytes a b (IsTurn m n n old old (Err g))) (sym e) (on_map a b (IsCutBy cut (Err fault)) (IsTurn m n n old old (Err fault)) (not_read_at old fault) h)

  pub turn_ended : (old a b : Option (List ℕ)) → OnBytes a b (IsCutBy cut (Ok None)) → OnBytes a b (IsTurn m n n old old (Ok false))
  turn_ended old a b h =
      on_map a b (IsCutBy cut (Ok None)) (IsTurn m n n old old (Ok false)) (λ x y k. record {
        lacks = false;
        within = within_of x y (Ok None) k;
        outcome = subst (λ (t : Turn). TurnHasOutcome t y old old (Ok false) n) (sym (next_none x y k)) (refl, Appends-nil old, refl);
      }) h

module _ (m : Meaning) (n v : Node) (old new : Option (List ℕ)) (raw : Raw) where
  -- no response was made
  refused_at : (fault : WireFault) (x y : List ℕ) → Reacts m n v raw (Err fault) → Finds (cut x) (Ok (Some raw)) y → IsTurn m n v old old (Err fault) x y
  refused_at fault x y (lacks, inl is) h = record {
    lacks = lacks;
    within = within_of x y (Ok (Some raw)) h;
    outcome = turn_stops_at fault (next_turn lacks m n x) y old v (next_found m n lacks x y raw h ∙ ap (turn_to y (reaction lacks m n raw).node) (sym is.0));
  }
  refused_at fault x y (lacks, inr none) h =
      let memory : fault ≡ wire.NoMemory = cc in
      subst (λ (f : WireFault). IsTurn m n v old old (Err f) x y) (sym memory)
      (record { lacks = lacks; within = within_of x y (Ok (Some raw)) h; outcome = begins_none old (next_turn lacks m n x).text })

  pub turn_refused : (a b : Option (List ℕ)) (fault : WireFault) (result : Result Bool WireFault) → IsErrAnd result (λ e. e ≡ fault) → OnBytes a b (IsCutBy cut (Ok (Some raw))) →
      Reacts m n v raw (Err fault) → OnBytes a b (IsTurn m n v old old result)
  turn_refused a b fault (Ok x) e h r = absurd e
  turn_refused a b fault (Err f) e h r =
      subst (λ (g : WireFault). OnBytes a b (IsTurn m n v old old (Err g))) (sym e)
      (on_map a b (IsCutBy cut (Ok (Some raw))) (IsTurn m n v old old (Err fault)) (λ x y k. refused_at fault x y r k) h)

  -- a response was made
  responded : (response : Response) (x y : List ℕ) → Reacts m n v raw (Ok response) → Finds (cut x) (Ok (Some raw)) y → (lacks : Bool) × (next_turn lacks m n x ≡ turn_to y v (Ok response))
  responded response x y (lacks, inl is) h =
      (lacks, next_found m n lacks x y raw h ∙ ap (λ (w : Node). turn_to y w (reaction lacks m n raw).response) (sym is.1) ∙ ap (turn_to y v) (sym is.0))
  responded response x y (lacks, inr none) h = absurd (cc)

  wrote_all : (more : Bool) (frame y : List ℕ) (t : Turn) → t ≡ cond more (goes_on y frame v) (ends y frame) → Appends old new frame → TurnHasOutcome t y old new (Ok more) v
  wrote_all true frame y t e h = subst (λ (t : Turn). TurnHasOutcome t y old new (Ok true) v) (sym e) (refl, h, refl)
  wrote_all false frame y t e h = subst (λ (t : Turn). TurnHasOutcome t y old new (Ok false) v) (sym e) (refl, h, refl)

  pub turn_answered : (a b : Option (List ℕ)) (response : Response) → OnBytes a b (IsCutBy cut (Ok (Some raw))) → Reacts m n v raw (Ok response) → Appends old new response.frame →
      OnBytes a b (IsTurn m n v old new (Ok response.goes_on))
  turn_answered a b response h r w =
      on_map a b (IsCutBy cut (Ok (Some raw))) (IsTurn m n v old new (Ok response.goes_on)) (λ x y k.
      let t = responded response x y r k in
      record { lacks = t.0; within = within_of x y (Ok (Some raw)) k; outcome = wrote_all response.goes_on response.frame y (next_turn t.0 m n x) t.1 w }) h

  text_of : (more : Bool) (frame y : List ℕ) → (cond more (goes_on y frame v) (ends y frame)).text ≡ frame
  text_of true frame y = refl
  text_of false frame y = refl

  pub turn_cut_short : (a b : Option (List ℕ)) (response : Response) (result : Result Bool WireFault) → IsErrAnd result (λ e. e ≡ wire.Io) → OnBytes a b (IsCutBy cut (Ok (Some raw))) →
      Reacts m n v raw (Ok response) → TakesBeginning old new response.frame → OnBytes a b (IsTurn m n v old new result)
  turn_cut_short a b response (Ok x) e h r w = absurd e
  turn_cut_short a b response (Err f) e h r w =
      subst (λ (g : WireFault). OnBytes a b (IsTurn m n v old new (Err g))) (sym e)
      (on_map a b (IsCutBy cut (Ok (Some raw))) (IsTurn m n v old new (Err wire.Io)) (λ x y k.
      let t = responded response x y r k in
      let text : (next_turn t.0 m n x).text ≡ response.frame = ap (λ (t : Turn). t.text) t.1 ∙ text_of response.goes_on response.frame y in
      record { lacks = t.0; within = within_of x y (Ok (Some raw)) k; outcome = subst (TakesBeginning old new) (sym text) w }) h)
