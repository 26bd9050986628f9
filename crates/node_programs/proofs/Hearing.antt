-- The answers of node programs.
use Rattle.std.proofs.Common.{◌≡◌, ◌++◌, ℕ, List, [], ◌∷◌, Option, Some, None, Ok, ap, arith, length, map, refl, sym, ◌∙◌}
use Rattle.std.proofs.lemmas.List.{append-nil}
use Rattle.std.specs.Prelude.{IfSome, replicate}
use Rattle.frames.specs.Cutting.{Cut}
use Rattle.frames.specs.Streams.{OnBytes}
use Rattle.frames.specs.declared.greeting.Hello.{Hello}
use Rattle.node_programs.specs.Greeting.{IsOther}
use Rattle.frames.specs.Meeting.{IsHeardFrom}
use Rattle.frames.specs.declared.meeting.Heard.TheVariants.{Other}

-- another hello was heard
pub other_heard : (a b : Option (List ℕ)) (own h : Hello) → OnBytes a b (IsHeardFrom own (Ok (Other h))) → IfSome a (IsOther own)
other_heard None b own h heard = tt
other_heard (Some bytes) None own h heard = absurd heard
other_heard (Some bytes) (Some rest) own h heard = (h, ap (λ (c : Cut Hello). c.found) heard.0, heard.1)

-- where none is left, all are there
pub none_left : {X : Type 0} (done rest xs : List X) → done ++ rest ≡ xs → length rest ≡ 0 → done ≡ xs
none_left done [] xs all none = sym (append-nil done) ∙ all
none_left done (x ∷ rest) xs all none = absurd (omega arith)
