-- What a crash of a growing disk leaves.
use Rattle.std.specs.Prelude.{replicate}
use Rattle.std.proofs.Common.{◌≡◌, inl, inr, ◌⊎◌, ⊎_elim, ℕ, zero, suc, ◌+◌, ◌-◌, ◌<◌, ◌≤◌, Bool, false, List, []}
use Rattle.std.proofs.Common.{◌∷◌, ◌++◌, length, get_or, take, drop, refl, sym, ◌∙◌, ap, subst, arith}
use Rattle.std.proofs.lemmas.List.{append-nil, ext_get_or, get_or-take, get_or-drop, get_or_past, get_or_append_left, get_or-append-add, get_or-append_right}
use Rattle.std.proofs.lemmas.List.{length-take-le, length-drop, length-append, length-replicate, take-append-drop}
use Rattle.std.proofs.lemmas.Bool.{cases_lt}
use Rattle.disk.specs.Disk.{IsDisk, IsSector, IsSynced, MayLeave, PastState, DiskState, past_state, LeftIn, left_since, moment, LeavesOnly}
use Rattle.disk.specs.Growth.{zero_sectors, grown_to, growth, MayLeaveGrown}
use Rattle.disk.specs.Laws.{only_now, only_reads, reads_left}
use Rattle.disk.proofs.Sectors.{zeros_whole}

-- an image that a crash may leave, with no sector appended
pub none_behind : (reads : List (List ℕ)) (dirty : List Bool) (most : ℕ) (image : List (List ℕ)) → MayLeave reads dirty image → MayLeaveGrown reads dirty most image
none_behind reads dirty most image left = record { before = image; zeros = 0; left = left; few = omega arith; is = sym (append-nil image) }

module _ (reads : List (List ℕ)) (dirty : List Bool) (disk : IsDisk reads dirty) where
  length-grown : (more : ℕ) → length (reads ++ zero_sectors more) ≡ length reads + more
  length-grown more = length-append reads (zero_sectors more) ∙ ap (λ n. length reads + n) (length-replicate more (replicate {A = ℕ} 512 0))

  module _ (more : ℕ) (image : List (List ℕ)) (left : MayLeave (reads ++ zero_sectors more) dirty image) where
    size : length image ≡ length reads + more
    size = left.sectors ∙ length-grown more

    -- a crash leaves the old sectors as it may leave them before the growth
    front : MayLeave reads dirty (take (length reads) image)
    front = record {
      sectors = length-take-le (length reads) image (omega (arith, size));
      in_sync = λ n in_sync. ⊎_elim
          (λ (small : n < length reads). get_or-take (length reads) image n [] small ∙ left.in_sync n in_sync ∙ get_or_append_left reads (zero_sectors more) [] n small)
          (λ (past : length reads ≤ n). get_or_past (take (length reads) image) n [] (omega (arith, past, length-take-le (length reads) image (omega (arith, size)))) ∙ sym (get_or_past reads n [] past))
          (cases_lt n (length reads));
      torn = λ n torn. ⊎_elim
          (λ (small : n < length reads). subst IsSector (sym (get_or-take (length reads) image n [] small)) (left.torn n torn))
          (λ (past : length reads ≤ n). let none : get_or dirty n false ≡ false = get_or_past dirty n false (omega (arith, past, disk.each)) in cc)
          (cases_lt n (length reads));
    }

    -- a crash leaves the new sectors as zeros
    behind : drop (length reads) image ≡ zero_sectors more
    behind = ext_get_or [] (drop (length reads) image) (zero_sectors more)
        (omega (arith, length-drop (length reads) image, size, length-replicate more (replicate {A = ℕ} 512 0)))
        (λ i within. get_or-drop (length reads) image i []
        ∙ left.in_sync (length reads + i) (get_or_past dirty (length reads + i) false (omega (arith, disk.each)))
        ∙ get_or-append-add reads (zero_sectors more) i [])

    pub zeros_behind : (most : ℕ) → more ≤ most → MayLeaveGrown reads dirty most image
    zeros_behind most few = record {
      before = take (length reads) image;
      zeros = more;
      left = front;
      few = few;
      is = sym (take-append-drop (length reads) image) ∙ ap (λ (l : List (List ℕ)). take (length reads) image ++ l) behind;
    }

  -- a crash at a moment during the growth
  pub left_in_growth : (more most : ℕ) (past : List PastState) (t : ℕ) (image : List (List ℕ)) → more ≤ most → LeftIn (growth reads dirty more ++ past) t image →
      LeftIn (past_state reads dirty ∷ past) t image ⊎ MayLeaveGrown reads dirty most image
  left_in_growth zero most past t image few left = inl left
  left_in_growth (suc more) most past t image few left = ⊎_elim
      (λ here. inr (zeros_behind (suc more) image here.1 most few))
      (λ there. left_in_growth more most past t image (omega (arith, few)) there) left

  -- a crash after the growth
  pub all_behind : (sectors : ℕ) (grown : List (List ℕ)) (in_sync : List Bool) (image : List (List ℕ)) → grown ≡ grown_to sectors reads → IsSynced in_sync → MayLeave grown in_sync image →
      MayLeaveGrown reads dirty (sectors - length reads) image
  all_behind sectors grown in_sync image is is_synced left = record {
    before = reads;
    zeros = sectors - length reads;
    left = reads_left reads dirty disk;
    few = omega arith;
    is = only_reads grown in_sync image is_synced left ∙ is;
  }

-- what a crash before the growth may have left still counts
pub stays_in_growth : (reads : List (List ℕ)) (dirty : List Bool) (more : ℕ) (past : List PastState) (t : ℕ) (image : List (List ℕ)) →
    LeftIn (past_state reads dirty ∷ past) t image → LeftIn (growth reads dirty more ++ past) t image
stays_in_growth reads dirty zero past t image left = left
stays_in_growth reads dirty (suc more) past t image left = inr (stays_in_growth reads dirty more past t image left)

-- the moment does not fall
later_by_growth : (reads : List (List ℕ)) (dirty : List Bool) (more : ℕ) (past : List PastState) → length past ≤ length (growth reads dirty more ++ past)
later_by_growth reads dirty zero past = omega arith
later_by_growth reads dirty (suc more) past = omega (arith, later_by_growth reads dirty more past)

-- the number of new sectors
more_of : (sectors : ℕ) (reads grown : List (List ℕ)) → grown ≡ grown_to sectors reads → length grown - length reads ≡ sectors - length reads
more_of sectors reads grown is = omega (arith, ap length is, length-append reads (zero_sectors (sectors - length reads)), length-replicate (sectors - length reads) (replicate {A = ℕ} 512 0))

module _ (old new : DiskState) (sectors : ℕ) (grown : List (List ℕ)) (past : new.past ≡ growth old.reads old.dirty (length grown - length old.reads) ++ old.past) where
  leaves : grown ≡ grown_to sectors old.reads → IsDisk old.reads old.dirty →
      ((image : List (List ℕ)) → MayLeave new.reads new.dirty image → MayLeaveGrown old.reads old.dirty (sectors - length old.reads) image) →
      LeavesOnly old new (MayLeaveGrown old.reads old.dirty (sectors - length old.reads))
  unfolding left_since moment
  leaves is disk now =
      let more : ℕ = length grown - length old.reads in
      let most : ℕ = sectors - length old.reads in
      let since : (t : ℕ) (image : List (List ℕ)) → left_since new t image → left_since old t image ⊎ MayLeaveGrown old.reads old.dirty most image =
      λ t image left. ⊎_elim (λ here. inr (now image here.1))
      (λ there. left_in_growth old.reads old.dirty disk more most old.past t image (omega (arith, more_of sectors old.reads grown is)) (subst (λ (stood : List PastState). LeftIn stood t image) past there)) left in
      record {
        later = omega (arith, ap length past, later_by_growth old.reads old.dirty more old.past);
        each = λ image left. ⊎_elim (λ was. none_behind old.reads old.dirty most image (only_now old image was)) (λ p. p) (since (moment old) image left);
        before = λ t image le left. since t image left;
      }

  keeps : (t : ℕ) (image : List (List ℕ)) → left_since old t image → left_since new t image
  unfolding left_since
  keeps t image left = inr (subst (λ (stood : List PastState). LeftIn stood t image) (sym past) (stays_in_growth old.reads old.dirty (length grown - length old.reads) old.past t image left))

-- the same, with the old disk given by an equal inner state
module _ (inside old new : DiskState) (same : inside ≡ old) (sectors : ℕ) (grown : List (List ℕ))
    (past : new.past ≡ growth inside.reads inside.dirty (length grown - length inside.reads) ++ inside.past) where
  past_is : new.past ≡ growth old.reads old.dirty (length grown - length old.reads) ++ old.past
  past_is = past ∙ ap (λ (d : DiskState). growth d.reads d.dirty (length grown - length d.reads) ++ d.past) same

  pub growth_stops : grown ≡ grown_to sectors inside.reads → IsDisk old.reads old.dirty → new.reads ≡ inside.reads → new.dirty ≡ inside.dirty →
      LeavesOnly old new (MayLeaveGrown old.reads old.dirty (sectors - length old.reads))
  growth_stops is disk reads dirty =
      let same_reads : new.reads ≡ old.reads = reads ∙ ap (λ (d : DiskState). d.reads) same in
      let same_dirty : new.dirty ≡ old.dirty = dirty ∙ ap (λ (d : DiskState). d.dirty) same in
      leaves old new sectors grown past_is (is ∙ ap (λ (d : DiskState). grown_to sectors d.reads) same) disk
      (λ image left. none_behind old.reads old.dirty (sectors - length old.reads) image
      (subst (λ (r : List (List ℕ)). MayLeave r old.dirty image) same_reads (subst (λ (l : List Bool). MayLeave new.reads l image) same_dirty left)))

  pub growth_ends : new.reads ≡ grown → grown ≡ grown_to sectors inside.reads → IsDisk old.reads old.dirty → IsSynced new.dirty →
      LeavesOnly old new (MayLeaveGrown old.reads old.dirty (sectors - length old.reads))
  growth_ends reads is disk in_sync =
      let grown_is : grown ≡ grown_to sectors old.reads = is ∙ ap (λ (d : DiskState). grown_to sectors d.reads) same in
      leaves old new sectors grown past_is grown_is disk
      (λ image left. all_behind old.reads old.dirty disk sectors new.reads new.dirty image (reads ∙ grown_is) in_sync left)

  pub growth_keeps : (t : ℕ) (image : List (List ℕ)) → left_since old t image → left_since new t image
  growth_keeps t image left = keeps old new sectors grown past_is t image left

-- the old sectors and the new ones are sectors of 512 bytes
pub all_whole : (reads : List (List ℕ)) (more : ℕ) → ((n : ℕ) → n < length reads → IsSector (get_or reads n [])) → (n : ℕ) → n < length (reads ++ zero_sectors more) → IsSector (get_or (reads ++ zero_sectors more) n [])
all_whole reads more whole n within =
    let all = length-append reads (zero_sectors more) in
    let new = length-replicate more (replicate {A = ℕ} 512 0) in
    ⊎_elim
    (λ (old : n < length reads). subst IsSector (sym (get_or_append_left reads (zero_sectors more) [] n old)) (whole n old))
    (λ (past : length reads ≤ n). subst IsSector (sym (get_or-append_right reads (zero_sectors more) (length reads) n [] refl past)) (zeros_whole more (n - length reads) (omega (arith, within, all, new, past))))
    (cases_lt n (length reads))

pub put_behind : (sectors count : ℕ) (reads first last all more : List (List ℕ)) → count ≡ length reads → more ≡ zero_sectors (sectors - count) → first ≡ reads → last ≡ more → all ≡ first ++ last →
    all ≡ grown_to sectors reads
put_behind sectors count reads first last all more counted zeros is_first is_last whole =
    whole ∙ ap (λ (l : List (List ℕ)). l ++ last) is_first ∙ ap (λ (l : List (List ℕ)). reads ++ l) (is_last ∙ zeros ∙ ap (λ n. zero_sectors (sectors - n)) counted)
