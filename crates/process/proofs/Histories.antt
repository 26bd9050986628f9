-- Handlings that are what the model does: parts of them, one more of them, and their reports.
use Rattle.std.proofs.Common.{◌≡◌, ℕ, ◌+◌, ◌++◌, [], ◌∷◌, List, length, map, flat_map, ap, ◌^◌, ◌≤◌, ◌∙◌, refl, sym, subst, arith}
use Rattle.std.specs.List.{AllByRecursion as Every}
use Rattle.eventkey.specs.Message.{Message}
use Rattle.model.specs.Meaning.{Meaning, stamp}
use Rattle.queues.specs.Record.{Record, messages, number_before, sent_in, state_before}
use Rattle.process.specs.Process.{number_after, state_after, reported}
use Rattle.process.specs.Consistent.{IsFold, AreConsistent}
use Rattle.process.specs.declared.Done.{Done}

-- 1. The state and number before concatenated handlings

pub state_before-append : (hs ks : List Record) (state : List ℕ) → state_before (hs ++ ks) state ≡ state_before hs (state_before ks state)
state_before-append [] ks state = refl
state_before-append (h ∷ hs) ks state = refl

pub number_before-append : (hs ks : List Record) (number : ℕ) → number_before (hs ++ ks) number ≡ number_before hs (number_before ks number)
number_before-append [] ks number = refl
number_before-append (h ∷ hs) ks number = refl

-- 2. Folds

module _ (m : Meaning) (lp : ℕ) where
  -- a fold begins where the first handling does
  pub fold_start : (hs : List Record) (state : List ℕ) (number : ℕ) (state' : List ℕ) (number' : ℕ) →
      IsFold m lp state number hs state' number' → (state_before hs state' ≡ state) × (number_before hs number' ≡ number)
  fold_start [] state number state' number' f = f
  fold_start (h ∷ hs) state number state' number' f = (f.0, f.1)

  pub fold_whole : (hs : List Record) (state : List ℕ) (number : ℕ) (state' : List ℕ) (number' : ℕ) →
      IsFold m lp state number hs state' number' → IsFold m lp (state_before hs state') (number_before hs number') hs state' number'
  fold_whole hs state number state' number' f =
      let start = fold_start hs state number state' number' f in
      subst (λ (s : List ℕ). IsFold m lp s (number_before hs number') hs state' number') (sym start.0)
      (subst (λ (n : ℕ). IsFold m lp state n hs state' number') (sym start.1) f)

  -- a fold ends where the handlings after it begin
  pub fold_front : (hs ks : List Record) (state : List ℕ) (number : ℕ) (state' : List ℕ) (number' : ℕ) →
      IsFold m lp state number (hs ++ ks) state' number' → IsFold m lp state number hs (state_before ks state') (number_before ks number')
  fold_front [] [] state number state' number' f = f
  fold_front [] (k ∷ ks) state number state' number' f = (f.0, f.1)
  fold_front (h ∷ hs) ks state number state' number' f = (f.0, f.1, f.2, f.3, fold_front hs ks (m.next_state lp state h.message) (number + length h.sent) state' number' f.4)

  pub fold_end : (hs ks : List Record) (state : List ℕ) (number : ℕ) (state' : List ℕ) (number' : ℕ) →
      IsFold m lp state number (hs ++ ks) state' number' → IsFold m lp (state_before ks state') (number_before ks number') ks state' number'
  fold_end [] ks state number state' number' f = fold_whole ks state number state' number' f
  fold_end (h ∷ hs) ks state number state' number' f = fold_end hs ks (m.next_state lp state h.message) (number + length h.sent) state' number' f.4

  pub fold_push : (hs : List Record) (h : Record) (state : List ℕ) (number : ℕ) (state' : List ℕ) (number' : ℕ) →
      IsFold m lp state number hs state' number' → h.before ≡ state' → h.number_before ≡ number' → h.sent ≡ stamp lp h.message.time number' (m.sends lp state' h.message) → number' + length h.sent ≤ 2 ^ 63 →
      IsFold m lp state number (hs ++ h ∷ []) (m.next_state lp state' h.message) (number' + length h.sent)
  fold_push [] h state number state' number' f b n s l =
      (b ∙ f.0, n ∙ f.1, rw (← f.0, ← f.1) s, rw (← f.1) l, (ap (λ (u : List ℕ). m.next_state lp u h.message) f.0, ap (λ (u : ℕ). u + length h.sent) f.1))
  fold_push (k ∷ hs) h state number state' number' f b n s l =
      (f.0, f.1, f.2, f.3, fold_push hs h (m.next_state lp state k.message) (number + length k.sent) state' number' f.4 b n s l)

  -- the send numbers of a fold are at most the limit
  pub fold_numbers : (hs : List Record) (state : List ℕ) (number : ℕ) (state' : List ℕ) (number' : ℕ) →
      IsFold m lp state number hs state' number' → Every (λ (h : Record). h.number_before ≤ 2 ^ 63) hs
  fold_numbers [] state number state' number' f = tt
  fold_numbers (h ∷ hs) state number state' number' f =
      (let same : h.number_before ≡ number = f.1 in let room : number + length h.sent ≤ 2 ^ 63 = f.3 in omega arith, fold_numbers hs (m.next_state lp state h.message) (number + length h.sent) state' number' f.4)

  -- the reports of a fold are what the model does, and end where the fold does
  pub fold_consistent : (hs : List Record) (state : List ℕ) (number : ℕ) (state' : List ℕ) (number' : ℕ) → IsFold m lp state number hs state' number' →
      AreConsistent m lp state number (reported hs state' number') × (state_after (reported hs state' number') state ≡ state') × (number_after (reported hs state' number') number ≡ number')
  fold_consistent [] state number state' number' f = (tt, sym f.0, sym f.1)
  fold_consistent (h ∷ hs) state number state' number' f =
      let next : List ℕ = m.next_state lp state h.message in
      let up : ℕ = number + length h.sent in
      let start = fold_start hs next up state' number' f.4 in
      let rest = fold_consistent hs (state_before hs state') (number_before hs number') state' number' (fold_whole hs next up state' number' f.4) in
      ((f.2, start.0, start.1, subst (λ (n : ℕ). n ≤ 2 ^ 63) (sym start.1) f.3, rest.0), rest.1, rest.2)

  -- 3. Concatenated reports

  pub consistent_fold-append : (ds es : List Done) (state : List ℕ) (number : ℕ) → AreConsistent m lp state number ds → AreConsistent m lp (state_after ds state) (number_after ds number) es →
      AreConsistent m lp state number (ds ++ es)
  consistent_fold-append [] es state number f g = g
  consistent_fold-append (d ∷ ds) es state number f g = (f.0, f.1, f.2, f.3, consistent_fold-append ds es d.after d.number_after f.4 g)

pub state_after-append : (ds es : List Done) (state : List ℕ) → state_after (ds ++ es) state ≡ state_after es (state_after ds state)
state_after-append [] es state = refl
state_after-append (d ∷ ds) es state = state_after-append ds es d.after

pub number_after-append : (ds es : List Done) (number : ℕ) → number_after (ds ++ es) number ≡ number_after es (number_after ds number)
number_after-append [] es number = refl
number_after-append (d ∷ ds) es number = number_after-append ds es d.number_after

pub reported_messages : (hs : List Record) (state : List ℕ) (number : ℕ) → map (λ (d : Done). d.message) (reported hs state number) ≡ messages hs
reported_messages [] state number = refl
reported_messages (h ∷ hs) state number = ap (λ (xs : List Message). h.message ∷ xs) (reported_messages hs state number)

pub reported_sends : (hs : List Record) (state : List ℕ) (number : ℕ) → flat_map (λ (d : Done). d.sent) (reported hs state number) ≡ sent_in hs
reported_sends [] state number = refl
reported_sends (h ∷ hs) state number = ap (λ (xs : List Message). h.sent ++ xs) (reported_sends hs state number)
