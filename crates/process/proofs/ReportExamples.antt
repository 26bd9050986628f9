-- Reports, computed: the bytes of a handling without sends, and what is read of them.
use Rattle.std.proofs.Common.{◌≡◌, List, ℕ, [], ◌∷◌, ◌++◌, None, Some, refl, replicate}
use Rattle.eventkey.specs.Encoding.{message_at, message_bytes}
use Rattle.eventkey.specs.Reading.{items_at, number_at}
use Rattle.model.specs.Encoding.{words_at, words_bytes}
use Rattle.process.specs.Reports.{IsFirstOf, done_at, done_bytes, reports_in}
use Rattle.process.specs.declared.Done.{Done}

abbrev one : Done
one = record {
  message = record { time = 5; from = 2; number = 3; to = 1; a = 0; b = 0; c = 0; d = 9 };
  sent = [];
  after = 7 ∷ [];
  number_after = 4;
}

abbrev message_text : List ℕ
message_text = replicate 7 0 ++ (5 ∷ (replicate 3 0 ++ (2 ∷ (replicate 7 0 ++ (3 ∷ (replicate 3 0 ++ (1 ∷ (replicate 31 0 ++ 9 ∷ []))))))))

abbrev text : List ℕ
text = message_text ++ (0 ∷ (1 ∷ (replicate 7 0 ++ (7 ∷ (replicate 7 0 ++ 4 ∷ [])))))

written : done_bytes one ≡ text
unfolding done_bytes message_bytes words_bytes
written = refl

read : done_at (text ++ 8 ∷ []) ≡ Some (one, 8 ∷ [])
unfolding done_at message_at number_at items_at words_at
read = refl

two : reports_in 2 (text ++ text) ≡ one ∷ one ∷ []
unfolding done_at message_at number_at items_at words_at
two = refl

-- a ninth send is refused before it is read
nine : done_at (message_text ++ 9 ∷ []) ≡ None
unfolding done_at message_at number_at items_at words_at
nine = refl

first : IsFirstOf (one ∷ []) [] (Some one)
first = refl
