-- Bags of messages: a bag is the ascending list of its messages, equal ones repeated.
use Rattle.std.specs.List.{AllByRecursion as Every}
use Rattle.std.specs.Prelude.{ℕ, if◌then◌else◌, ◌+◌, List, [], ◌∷◌, Bool, nat_lt, min}
use Rattle.eventkey.specs.Message.{IsAtMost, Message, is_before, is_same}

-- 1 if both messages are the same, else 0
abbrev pub one_if_same : Message → Message → ℕ
one_if_same m n = if is_same m n then 1 else 0

-- how many messages of the list are m
abbrev pub copies : Message → List Message → ℕ
copies m [] = 0
copies m (x ∷ xs) = one_if_same m x + copies m xs

-- the bag with one more message
abbrev pub add : Message → List Message → List Message
add m [] = m ∷ []
add m (x ∷ xs) = if is_before m x then m ∷ x ∷ xs else x ∷ add m xs

abbrev pub add_all : List Message → List Message → List Message
add_all [] bag = bag
add_all (m ∷ ms) bag = add_all ms (add m bag)

-- the bag without one copy of m, if it has one
abbrev pub remove_one : Message → List Message → List Message
remove_one m [] = []
remove_one m (x ∷ xs) = if is_same m x then xs else x ∷ remove_one m xs

-- the bag without one copy of each of these messages that it has
abbrev pub remove_all : List Message → List Message → List Message
remove_all [] bag = bag
remove_all (m ∷ ms) bag = remove_all ms (remove_one m bag)

abbrev pub IsAscending : List Message → Type 0
IsAscending [] = Unit {0}
IsAscending (x ∷ xs) = Every (IsAtMost x) xs × IsAscending xs

abbrev pub is_among : Message → List Message → Bool
is_among m xs = nat_lt 0 (copies m xs)

-- the least of a time and the times of these messages
abbrev pub least_time : ℕ → List Message → ℕ
least_time t [] = t
least_time t (x ∷ xs) = least_time (min t x.time) xs
