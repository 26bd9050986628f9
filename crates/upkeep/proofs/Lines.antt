-- The lines of the text, and the numbers in them.
use Rattle.std.specs.Prelude.{◌==◌, ◌||◌, nat_le, Err, Ok, Option, Result, None, Some, map, get_or, codes, decimal}
use Rattle.std.proofs.Common.{◌≡◌, ℕ, ◌+◌, ◌<◌, ◌≤◌, Bool, true, false, List, [], ◌∷◌, ◌++◌, cond, length, drop, refl, sym, ap, ◌∙◌}
use Rattle.std.proofs.lemmas.Bool.{cond-false, cond-true, eq-eqb, ne_eqb}
use Rattle.std.proofs.lemmas.List.{append-nil, drop_all, drop_more}
use Rattle.std.proofs.lemmas.Option.{none-some, same_Some}
use Rattle.eventkey.proofs.Writers.{HasWritten, writes_broken, writes_end, written_next}
use Rattle.eventkey.specs.Writing.{Writes}
use Rattle.upkeep.specs.declared.inspection.inspecting.Inspection.{Inspection}
use Rattle.upkeep.specs.Text.{bytes_each, events_text, full_at, line, pace_text, seals_text}

-- 1. One line

module _ {X : Type 0} (f : X → List ℕ × ℕ) (last : List ℕ) where
  -- the line from a fact on begins with that fact
  pub line-drop : (xs : List X) (i : ℕ) (d : X) → i < length xs → line (map f (drop i xs)) last ≡ (f (get_or xs i d)).0 ++ decimal (f (get_or xs i d)).1 ++ line (map f (drop (i + 1) xs)) last
  line-drop xs i d l = ap (λ (ys : List X). line (map f ys) last) (drop_more xs i d l)

  pub line_done : (xs : List X) (i : ℕ) → length xs ≤ i → line (map f (drop i xs)) last ≡ last
  line_done xs i l = ap (λ (ys : List X). line (map f ys) last) (drop_all i xs l)

-- the rest of a text is written
pub writes_rest : {T E : Type 0} {old mid new : Option (List ℕ)} {text rest a : List ℕ} (r : Result T E) → HasWritten old mid text rest → rest ≡ a → Writes mid new r a → Writes old new r text
writes_rest {a = a} (Ok x) h e k = writes_end x refl (written_next [] h (e ∙ sym (append-nil a)) k refl)
writes_rest {a = a} (Err y) h e k = writes_broken [] (Err y) h (e ∙ sym (append-nil a)) k refl refl

-- 2. Which line it is

none_if : {A : Type 0} (b : Bool) (x : A) → None ≡ cond b None (Some x) → b ≡ true
none_if true x e = refl
none_if false x e = absurd (none-some x e)

some_if : {A : Type 0} (b : Bool) (x y : A) → Some y ≡ cond b None (Some x) → (b ≡ false) × (y ≡ x)
some_if true x y e = absurd (none-some y (sym e))
some_if false x y e = (refl, same_Some y x e)

module _ (i : Inspection) where
  pub no_event : i.events ≡ 0 → line ((codes "events ", i.events) ∷ []) (codes ", - bytes of disk an event\n") ≡ events_text i
  no_event none = sym (cond-true (i.events == 0) _ _ (eq-eqb i.events 0 none))

  pub some_event : (each : ℕ) → (i.events ≡ 0 → ⊥) → each ≡ bytes_each i.used i.events → line ((codes "events ", i.events) ∷ (codes ", ", each) ∷ []) (codes " bytes of disk an event\n") ≡ events_text i
  some_event each some is =
      ap (λ (n : ℕ). line ((codes "events ", i.events) ∷ (codes ", ", n) ∷ []) (codes " bytes of disk an event\n")) is
      ∙ sym (cond-false (i.events == 0) _ _ (ne_eqb i.events 0 some))

  pub no_seal : i.seals ≡ 0 → [] ≡ seals_text i
  no_seal none = sym (cond-true (i.seals == 0) _ _ (eq-eqb i.seals 0 none))

  pub some_seal : (i.seals ≡ 0 → ⊥) → line ((codes "seals ", i.seals) ∷ []) (codes ", compared with the records before them\n") ≡ seals_text i
  some_seal some = sym (cond-false (i.seals == 0) _ _ (ne_eqb i.seals 0 some))

  abbrev is_room : Bool
  is_room = i.pace.sectors == 0 || nat_le i.end (full_at i)

  pub room : (i.pace.commits ≡ 0 → ⊥) → None ≡ cond is_room None (Some (full_at i)) → line ((codes "room to the end at the pace of the last ", i.pace.commits) ∷ []) (codes " commits\n") ≡ pace_text i
  room some is = sym (cond-false (i.pace.commits == 0) _ _ (ne_eqb i.pace.commits 0 some) ∙ cond-true is_room _ _ (none_if is_room (full_at i) is))

  pub full : (time : ℕ) → (i.pace.commits ≡ 0 → ⊥) → Some time ≡ cond is_room None (Some (full_at i)) → line ((codes "full at about ", time) ∷ (codes " ticks at the pace of the last ", i.pace.commits) ∷ []) (codes " commits\n") ≡ pace_text i
  full time some is =
      let parts = some_if is_room (full_at i) time is in
      ap (λ (n : ℕ). line ((codes "full at about ", n) ∷ (codes " ticks at the pace of the last ", i.pace.commits) ∷ []) (codes " commits\n")) parts.1
      ∙ sym (cond-false (i.pace.commits == 0) _ _ (ne_eqb i.pace.commits 0 some) ∙ cond-false is_room _ _ parts.0)
