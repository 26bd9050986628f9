-- The bounds of drawn words and keys.
use Rattle.std.specs.Prelude.{ℕ, ◌+◌, ◌-◌, ◌*◌, ◌/◌, ◌%◌, ◌^◌, ◌<◌, bit_xor}
use Rattle.std.proofs.Common.{arith, lit<}
use Rattle.std.proofs.Math.Nat.{mod-lt}
use Rattle.std.proofs.lemmas.Nat.{or_of_32, shr_le}
use Rattle.rand_pcg.specs.Lcg.{increment_of, started}
use Rattle.rand_pcg.specs.Pcg.{multiplier_64, output_xsh_rr}
use Rattle.models.specs.Words.{first_word, next_key}

output_lt : (state : ℕ) → output_xsh_rr state < 2 ^ 32
output_lt state =
    let n : ℕ = bit_xor (state / 2 ^ 18) state / 2 ^ 27 % 2 ^ 32 in
    let by : ℕ = state / 2 ^ 59 in
    let small : n < 2 ^ 32 = mod-lt (bit_xor (state / 2 ^ 18) state / 2 ^ 27) (lit< tt) in
    or_of_32 (n / 2 ^ (by % 32)) ((n * 2 ^ ((32 - by % 32) % 32)) % 2 ^ 32)
    (omega (arith, shr_le n (by % 32))) (mod-lt (n * 2 ^ ((32 - by % 32) % 32)) (lit< tt))

pub word_lt : (key stream : ℕ) → first_word key stream < 2 ^ 32
unfolding first_word
word_lt key stream = output_lt (started 64 multiplier_64 key (increment_of 64 stream)).state

pub key_lt : (key lp j : ℕ) → next_key key lp j < 2 ^ 64
key_lt key lp j = omega (arith, word_lt key (16 * lp + j), word_lt key (16 * lp + (j + 1)))
