-- Values of a table that are set.
use Rattle.std.specs.Prelude.{◌≡◌, ℕ, List, [], ◌∷◌, Some, None, false, String, string_bytes}
use Rattle.std.specs.BTreeMap.{insert_entry}
use Rattle.std.specs.Cmp.Lexicographic.{slice_cmp}
use Rattle.std.specs.Ordering.{match_ordering}
use Rattle.std.specs.String.{string_cmp}
use Rattle.std.proofs.Common.{Ordering, Less, Equal, Greater, Global, is_eq, nat_cmp, refl, ap, sym, ◌∙◌}
use Rattle.std.proofs.lemmas.Map.Lookups.{exact_bytes}
use Rattle.toml.specs.Data.{get_member, same_key}
use Rattle.toml.specs.View.{members_view, view}
use Rattle.toml.specs.declared.value.Value.{Value}
use Rattle.toml.proofs.Views.{Entry, table_insert}
use Rattle.texts.specs.Settings.{IsPut}

skip : {X : Type 0} (o : Ordering) (r d : X) → is_eq o ≡ false → match_ordering o r d r ≡ r
skip Less r d h = refl
skip Equal r d h = cc
skip Greater r d h = refl

-- an entry that is put leaves what other keys have
others_at : (other : List ℕ) (o : Ordering) (k : String Global) (v : Value) (e : Entry) (es : List Entry) → o ≡ string_cmp k e.0 → same_key other (string_bytes k) ≡ false
    → get_member other (members_view (insert_entry string_cmp es k v)) ≡ get_member other (members_view es)
    → get_member other (members_view (match_ordering o ((k, v) ∷ e ∷ es) ((e.0, v) ∷ es) (e ∷ insert_entry string_cmp es k v))) ≡ get_member other (members_view (e ∷ es))
others_at other Less k v e es same ne more = skip (slice_cmp nat_cmp other (string_bytes k)) (get_member other (members_view (e ∷ es))) (Some (view v)) ne
others_at other Equal k v e es same ne more =
    let keys : string_bytes k ≡ string_bytes e.0 = exact_bytes (string_bytes k) (string_bytes e.0) (sym same) in
    let ne-there : same_key other (string_bytes e.0) ≡ false = rw (← keys) ne in
    let rest = get_member other (members_view es) in
    skip (slice_cmp nat_cmp other (string_bytes e.0)) rest (Some (view v)) ne-there ∙ sym (skip (slice_cmp nat_cmp other (string_bytes e.0)) rest (Some (view e.1)) ne-there)
others_at other Greater k v e es same ne more = ap (λ m. match_ordering (slice_cmp nat_cmp other (string_bytes e.0)) m (Some (view e.1)) m) more

others_stay : (other : List ℕ) (k : String Global) (v : Value) (es : List Entry) → same_key other (string_bytes k) ≡ false
    → get_member other (members_view (insert_entry string_cmp es k v)) ≡ get_member other (members_view es)
others_stay other k v [] ne = skip (slice_cmp nat_cmp other (string_bytes k)) None (Some (view v)) ne
others_stay other k v (e ∷ es) ne = others_at other (string_cmp k e.0) k v e es refl ne (others_stay other k v es ne)

pub put_entry : (k : String Global) (name : List ℕ) (v : Value) (es new : List Entry) → string_bytes k ≡ name → new ≡ insert_entry string_cmp es k v
    → IsPut name (view v) (members_view es) (members_view new)
put_entry k name v es new is inserted = rw inserted (record {
  there = table_insert k name v (view v) es is refl;
  others = λ other ne. others_stay other k v es (rw is ne);
})
