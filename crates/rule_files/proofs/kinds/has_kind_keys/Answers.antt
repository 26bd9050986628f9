use Rattle.std.proofs.Common.{◌≡◌, ◌==◌, ℕ, suc, arith, false, List, [], ◌∷◌, Result, Ok, Err, ap, length, refl, sym, ◌∙◌}
use Rattle.std.proofs.lemmas.Bool.Decides.{nat_tests}
use Rattle.std.specs.Prelude.{◌≢◌, IsErr, OnOk, is_ok}
use Rattle.texts.specs.ModelFile.{Wrong, unknown_wrong}
use Rattle.toml.specs.View.{table_view}
use Rattle.rule_files.specs.Kinds.{kind_keys}
use Rattle.rule_files.proofs.kinds.has_kind_keys.Goals as goal

not_zero : (n : ℕ) → false ≡ (suc n == 0)
not_zero n = grind (arith, nat_tests)

only_is : {A E : Type 0} (r : Result A E) (ws : List Wrong) → OnOk r (ws ≡ []) → (IsErr r → ws ≢ []) → is_ok r ≡ (length ws == 0)
only_is (Ok x) ws none some = sym (ap (λ w. length w == 0) none)
only_is (Err e) [] none some = absurd (some refl refl)
only_is (Err e) (w ∷ ws) none some = not_zero (length ws)

pub returns : goal.returns
returns c = c.is_ok.ensures.value ∙ only_is c.only.result (unknown_wrong kind_keys (table_view c.args.table.now)) c.only.ensures.ok c.only.ensures.err
