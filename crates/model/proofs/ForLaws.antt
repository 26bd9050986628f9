-- For authors of models: the lemmas that the ten laws of a model need, in one place. The guide to models
-- names them beside the laws.
use Rattle.std.specs.List.{AllByRecursion as Every}
use Rattle.std.specs.Prelude.{ℕ, zero, suc, ◌^◌, ◌<◌, ◌≤◌, List, [], ◌∷◌, drop, length, map, slice_index, take}
use Rattle.std.proofs.Common.{arith, lit<}
use Rattle.std.proofs.lemmas.List.{length-map}
use Rattle.model.specs.Meaning.{IsSend, IsWords}
use Rattle.model.specs.World.{below}
use Rattle.model.specs.declared.Outgoing.{Outgoing}
-- about every item of a list: an item that is read, with a default; mapped items; a weaker fact; by index
pub use Rattle.eventkey.proofs.Lists.{Every-append, Every-get_or, Every-get_or-default, Every-map, Every-set, Every-weaker}
pub use Rattle.eventkey.proofs.Times.{Every-from_get_or}
-- about 0, 1, .. below a number
pub use Rattle.model.proofs.Worlds.{Every-below, length-below}

-- about a part of a list
pub Every-drop : {X : Type 0} (P : X → Type 0) (n : ℕ) (xs : List X) → Every P xs → Every P (drop n xs)
Every-drop P zero xs h = h
Every-drop P (suc n) [] h = tt
Every-drop P (suc n) (x ∷ xs) h = Every-drop P n xs h.1

pub Every-take : {X : Type 0} (P : X → Type 0) (n : ℕ) (xs : List X) → Every P xs → Every P (take n xs)
Every-take P zero xs h = tt
Every-take P (suc n) [] h = tt
Every-take P (suc n) (x ∷ xs) h = (h.0, Every-take P n xs h.1)

pub length-take-le : {X : Type 0} (n : ℕ) (xs : List X) → length (take n xs) ≤ n
length-take-le zero xs = omega arith
length-take-le (suc n) [] = omega arith
length-take-le (suc n) (x ∷ xs) = omega (arith, length-take-le n xs)

-- a word of a state fits; a missing one is 0
pub word_fits : (state : List ℕ) (i : ℕ) → IsWords state → slice_index state i < 2 ^ 64
word_fits state i words = Every-get_or-default (λ w. w < 2 ^ 64) state i 0 words.1 (lit< tt)

-- `count` sends, one for each number, are lawful if each of them is
module _ (lps count : ℕ) (send : ℕ → Outgoing) where
  pub few_numbered : count ≤ 8 → length (map send (below count)) ≤ 8
  few_numbered few = rw (length-map, length-below count) few

  pub each_numbered : ((k : ℕ) → k < count → IsSend lps (send k)) → Every (IsSend lps) (map send (below count))
  each_numbered each = Every-map (IsSend lps) send (below count)
      (Every-weaker (λ k. k < count) (λ k. IsSend lps (send k)) each (below count) (Every-below count))
