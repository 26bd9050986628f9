-- The number of messages that each handling of a log sends, and when each process sent.
use Rattle.std.proofs.Common.{◌≡◌, ◌≢◌, ℕ, ◌+◌, ◌<◌, ◌≤◌, ◌==◌, List, [], ◌∷◌, ◌++◌, length, get_or, set, drop, replicate, ap, ◌∙◌, sym, append_assoc, append-nil, eqb-true, inl, inr, if◌then◌else◌}
use Rattle.std.proofs.lemmas.Bool.{cases_Bool, eqb-false}
use Rattle.std.proofs.lemmas.List.{drop_all, drop_more, get_or-set_other, get_or-set_same, replicate-append-replicate}
use Rattle.eventkey.proofs.Lists.{drop_here}
use Rattle.eventkey.specs.Message.{Message}
use Rattle.model.specs.Meaning.{Meaning}
use Rattle.pictures.specs.Run.{sends_of, sent_in}

-- 1. One more time

pub once_more : (row : List ℕ) (k time : ℕ) → (row ++ replicate k time) ++ (time ∷ []) ≡ row ++ replicate (k + 1) time
once_more row k time = append_assoc row (replicate k time) (time ∷ []) ∙ ap (λ r. row ++ r) (replicate-append-replicate k 1 time)

-- 2. One more handling

module _ (m : Meaning) where
  pub sends_more : (states : List (List ℕ)) (log : List Message) (i : ℕ) (x : Message) (n : ℕ) (words done all : List ℕ) → i < length log → x ≡ get_or log i x
      → n ≡ length (m.sends x.to (get_or states x.to []) x) → words ≡ m.next_state x.to (get_or states x.to []) x
      → done ++ sends_of m states (drop i log) ≡ all → (done ++ n ∷ []) ++ sends_of m (set states x.to words) (drop (i + 1) log) ≡ all
  sends_more states log i x n words done all l is count next so_far =
      append_assoc done (n ∷ []) (sends_of m (set states x.to words) (drop (i + 1) log))
      ∙ ap (λ k. done ++ (k ∷ sends_of m (set states x.to words) (drop (i + 1) log))) count
      ∙ ap (λ w. done ++ (length (m.sends x.to (get_or states x.to []) x) ∷ sends_of m (set states x.to w) (drop (i + 1) log))) next
      ∙ ap (λ es. done ++ sends_of m states es) (sym (drop_here log i x l is))
      ∙ so_far

  -- the same in terms of the values that the code has
  pub sends_read : (states : List (List ℕ)) (log : List Message) (i : ℕ) (x : Message) (lp n : ℕ) (state words done all : List ℕ) → i < length log → x ≡ get_or log i x
      → lp ≡ x.to → state ≡ get_or states lp [] → n ≡ length (m.sends lp state x) → words ≡ m.next_state lp state x
      → done ++ sends_of m states (drop i log) ≡ all → (done ++ n ∷ []) ++ sends_of m (set states lp words) (drop (i + 1) log) ≡ all
  sends_read states log i x lp n state words done all l is to here count next so_far =
      let s = rw to at here in
      let k = rw (to, s) at count in
      let w = rw (to, s) at next in
      rw to (sends_more states log i x n words done all l is k w so_far)

  pub sends_none : (states : List (List ℕ)) (log : List Message) (i : ℕ) (done all : List ℕ) → length log ≤ i → done ++ sends_of m states (drop i log) ≡ all → done ≡ all
  sends_none states log i done all l so_far = sym (append-nil done) ∙ sym (ap (λ es. done ++ sends_of m states es) (drop_all i log l)) ∙ so_far

-- 3. More times in the row of one process

-- each row, together with the times of the events that are left, stays the same
pub row_kept : (rows : List (List ℕ)) (events : List Message) (sends : List ℕ) (i lp k n : ℕ) (x : Message) (row all : List ℕ) → i < length events → i < length sends → x ≡ get_or events i x
    → lp < length rows → lp ≡ x.to → n ≡ get_or sends i 0 → row ≡ get_or rows lp [] ++ replicate n x.time
    → get_or rows k [] ++ sent_in k (drop i events) (drop i sends) ≡ all
    → get_or (set rows lp row) k [] ++ sent_in k (drop (i + 1) events) (drop (i + 1) sends) ≡ all
row_kept rows events sends i lp k n x row all l l' is inside to count row_is so_far =
    let f = drop_here events i x l is in
    let g : drop i sends ≡ n ∷ drop (i + 1) sends = drop_more sends i 0 l' ∙ ap (λ c. c ∷ drop (i + 1) sends) (sym count) in
    let es : List Message = drop (i + 1) events in
    let ns : List ℕ = drop (i + 1) sends in
    let h : get_or rows k [] ++ ((if x.to == k then replicate n x.time else []) ++ sent_in k es ns) ≡ all = rw (f, g) at so_far in
    elim (cases_Bool (x.to == k)) [
      | inl e ↦
          let same : k ≡ lp = sym (to ∙ eqb-true x.to k e) in
          let here : get_or (set rows lp row) k [] ≡ row = ap (λ j. get_or (set rows lp row) j []) same ∙ get_or-set_same rows lp row [] inside in
          ap (λ r. r ++ sent_in k es ns) (here ∙ row_is ∙ ap (λ j. get_or rows j [] ++ replicate n x.time) (sym same))
          ∙ append_assoc (get_or rows k []) (replicate n x.time) (sent_in k es ns)
          ∙ (rw e at h)
      | inr e ↦
          let other : k ≢ lp = λ same. eqb-false x.to k e (sym to ∙ sym same) in
          ap (λ r. r ++ sent_in k es ns) (get_or-set_other rows lp k row [] other) ∙ (rw e at h)
    ]
