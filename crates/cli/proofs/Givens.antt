-- What is set, word by word.
use Rattle.std.specs.Prelude.{◌≡◌, ◌++◌, List, [], ◌∷◌, Option, Some, None, Bool, true, false, codes}
use Rattle.std.specs.Str.{bytes_eq}
use Rattle.std.proofs.Common.{refl, ap, sym, ◌∙◌}
use Rattle.std.proofs.lemmas.List.{append_assoc}
use Rattle.clap.specs.Words.{Text}
use Rattle.cli.specs.Command.{Setting, set_by, settings_after, with_setting}

pub set_none : (before : Text) → settings_after before [] ≡ []
unfolding settings_after
set_none before = refl

pub set_end : (before word : Text) (rest : List Text) → bytes_eq word (codes "--") ≡ true → settings_after before (word ∷ rest) ≡ []
unfolding settings_after
set_end before word rest e = rw e refl

set_on : (before word : Text) (rest : List Text) → bytes_eq word (codes "--") ≡ false → settings_after before (word ∷ rest) ≡ with_setting (set_by before word) (settings_after word rest)
unfolding settings_after
set_on before word rest e = rw e refl

apart : (one : Option Setting) (more : List Setting) → with_setting one more ≡ with_setting one [] ++ more
apart None more = refl
apart (Some setting) more = refl

-- one word more
pub set_more : (done new : List Setting) (before word : Text) (rest : List Text) (one : Option Setting) → bytes_eq word (codes "--") ≡ false → one ≡ set_by before word
    → new ≡ done ++ with_setting one [] → new ++ settings_after word rest ≡ done ++ settings_after before (word ∷ rest)
set_more done new before word rest one going is added =
    let more = settings_after word rest in
    let all : settings_after before (word ∷ rest) ≡ with_setting one more = set_on before word rest going ∙ ap (λ (o : Option Setting). with_setting o more) (sym is) in
    ap (λ (n : List Setting). n ++ more) added ∙ append_assoc done (with_setting one []) more ∙ ap (λ (n : List Setting). done ++ n) (sym (apart one more) ∙ sym all)
