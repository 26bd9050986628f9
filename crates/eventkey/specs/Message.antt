-- Messages and their order. A message is stamped with its receive time (Jefferson 1985).
use Rattle.std.specs.Ordering.{nat_cmp, ordering_then, is_lt, is_eq}
use Rattle.std.specs.Prelude.{ℕ, ◌^◌, ◌<◌, Bool, ◌≡◌, false}
use Rattle.std.specs.declared.cmp.Ordering.{Ordering}

pub record Message : Type 0 where
  pub time : ℕ
  pub from : ℕ
  pub number : ℕ
  pub to : ℕ
  pub a : ℕ
  pub b : ℕ
  pub c : ℕ
  pub d : ℕ

abbrev pub zero_message : Message  -- all its numbers are 0
zero_message = record { time = 0; from = 0; number = 0; to = 0; a = 0; b = 0; c = 0; d = 0 }

-- all numbers are in their ranges
pub record IsRanged (x : Message) : Type 0 where
  pub time : x.time < 2 ^ 41
  pub from : x.from < 2 ^ 32
  pub number : x.number < 2 ^ 64
  pub to : x.to < 2 ^ 32
  pub a : x.a < 2 ^ 64
  pub b : x.b < 2 ^ 64
  pub c : x.c < 2 ^ 64
  pub d : x.d < 2 ^ 64

-- compares field by field, in the order of the fields
unfoldable pub message_cmp : Message → Message → Ordering
message_cmp m n =
    ordering_then (nat_cmp m.time n.time)
    (ordering_then (nat_cmp m.from n.from)
    (ordering_then (nat_cmp m.number n.number)
    (ordering_then (nat_cmp m.to n.to)
    (ordering_then (nat_cmp m.a n.a)
    (ordering_then (nat_cmp m.b n.b)
    (ordering_then (nat_cmp m.c n.c) (nat_cmp m.d n.d)))))))

abbrev pub is_before : Message → Message → Bool
is_before m n = is_lt (message_cmp m n)

abbrev pub is_same : Message → Message → Bool
is_same m n = is_eq (message_cmp m n)

-- y does not come before x
abbrev pub IsAtMost : Message → Message → Type 0
IsAtMost x y = is_before y x ≡ false
