-- The order of messages is total, and two messages are equal in it exactly if `==` holds.
use Rattle.std.proofs.Common.{◌∙◌}
use Rattle.std.specs.Cmp.{IsTotalOrder, both_tied, nat_cmp_total, on_total, then_total}
use Rattle.std.specs.Cmp.{unsigned_ties}
use Rattle.std.specs.Ordering.{eq_by_cmp, nat_cmp}
use Rattle.std.specs.Prelude.{◌≡◌, Bool, ◌&&◌, ◌==◌, true, false, refl}
use Rattle.eventkey.specs.Message.{Message, message_cmp}

pub messages_are_total : IsTotalOrder message_cmp
unfolding message_cmp
messages_are_total =
    then_total (on_total (λ (x : Message). x.time) nat_cmp_total)
    (then_total (on_total (λ (x : Message). x.from) nat_cmp_total)
    (then_total (on_total (λ (x : Message). x.number) nat_cmp_total)
    (then_total (on_total (λ (x : Message). x.to) nat_cmp_total)
    (then_total (on_total (λ (x : Message). x.a) nat_cmp_total)
    (then_total (on_total (λ (x : Message). x.b) nat_cmp_total)
    (then_total (on_total (λ (x : Message). x.c) nat_cmp_total)
    (on_total (λ (x : Message). x.d) nat_cmp_total)))))))

-- two tests can be swapped, whatever follows them
swapped : (n o after : Bool) → (o && (n && after)) ≡ (n && (o && after))
swapped false false after = refl
swapped false true after = refl
swapped true false after = refl
swapped true true after = refl

-- `==` compares the fields in the order of their declaration, which is not that of `message_cmp`
pub messages_are_tied : (x y : Message) →
    ((x.time == y.time) && ((x.from == y.from) && ((x.to == y.to)
    && ((x.number == y.number) && ((x.a == y.a) && ((x.b == y.b)
    && ((x.c == y.c) && (x.d == y.d))))))))
    ≡ eq_by_cmp message_cmp x y
unfolding message_cmp
messages_are_tied x y =
    both_tied _ _ (nat_cmp x.time y.time) _ (unsigned_ties x.time y.time)
    (both_tied _ _ (nat_cmp x.from y.from) _ (unsigned_ties x.from y.from)
    (swapped (x.number == y.number) (x.to == y.to)
    ((x.a == y.a) && ((x.b == y.b) && ((x.c == y.c) && (x.d == y.d))))
    ∙ both_tied _ _ (nat_cmp x.number y.number) _ (unsigned_ties x.number y.number)
    (both_tied _ _ (nat_cmp x.to y.to) _ (unsigned_ties x.to y.to)
    (both_tied _ _ (nat_cmp x.a y.a) _ (unsigned_ties x.a y.a)
    (both_tied _ _ (nat_cmp x.b y.b) _ (unsigned_ties x.b y.b)
    (both_tied _ _ (nat_cmp x.c y.c) (nat_cmp x.d y.d) (unsigned_ties x.c y.c)
    (unsigned_ties x.d y.d)))))))
