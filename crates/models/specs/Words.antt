-- The words that a process draws. Each is the first word of a generator of
-- its own, PCG's XSH RR 64/32 (O'Neill 2014), so a handling is a function of its arguments.
use Rattle.std.specs.Prelude.{ℕ, ◌+◌, ◌*◌, ◌^◌}
use Rattle.rand_pcg.specs.Lcg.{increment_of, started}
use Rattle.rand_pcg.specs.Pcg.{multiplier_64, pcg32}

-- the first word of the generator with this key, in this stream
unfoldable pub first_word : ℕ → ℕ → ℕ
first_word key stream = (pcg32 (started 64 multiplier_64 key (increment_of 64 stream))).0

-- word j of process lp with this key
abbrev pub word : ℕ → ℕ → ℕ → ℕ
word key lp j = first_word key (16 * lp + j)

-- the next key: words j and j + 1, side by side
abbrev pub next_key : ℕ → ℕ → ℕ → ℕ
next_key key lp j = word key lp j * 2 ^ 32 + word key lp (j + 1)
