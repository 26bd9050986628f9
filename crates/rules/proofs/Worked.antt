-- Worked examples of the distributions, computed from their definitions. The same numbers come from
-- tools/try-distributions, which is written on its own.
use Rattle.std.proofs.Common.{◌≡◌, [], ◌∷◌, refl}
use Rattle.std.specs.Int.Count.{count_leading_zeros}
use Rattle.rules.specs.Quantiles.{exponential_quantiles, normal_quantiles}
use Rattle.rules.specs.Distributions.{choice_of, exponential, geometric, normal, standard_exponential}
use Rattle.rules.specs.Distributions.{standard_normal, triangular}

-- the greatest one, the median, the least one, and one between two entries
exponential_rows : (exponential 1000 0 ≡ 22874) × (exponential 1000 2147483648 ≡ 693)
    × (exponential 1000 4294967295 ≡ 0) × (exponential 1000 123456789 ≡ 3549)
    × (exponential 0 0 ≡ 0) × (exponential 18446744073709551615 0 ≡ 18446744073709551615)
unfolding exponential standard_exponential exponential_quantiles count_leading_zeros
exponential_rows = (refl, refl, refl, refl, refl, refl)

-- below the mean, on both sides of it, and above it; at least 0
normal_rows : (normal 100 15 0 ≡ 5) × (normal 100 15 2147483647 ≡ 100)
    × (normal 100 15 4294967295 ≡ 100) × (normal 100 15 2147483648 ≡ 195)
    × (normal 100 15 4000000000 ≡ 103) × (normal 10 15 100000 ≡ 0) × (normal 7 0 5 ≡ 7)
unfolding normal standard_normal normal_quantiles count_leading_zeros
normal_rows = (refl, refl, refl, refl, refl, refl, refl)

-- the corners, the middle of a side, and limits that are out of order
triangular_rows : (triangular 10 20 60 0 0 ≡ 10) × (triangular 10 20 60 4294967295 4294967295 ≡ 60)
    × (triangular 10 20 60 0 4294967295 ≡ 20) × (triangular 10 20 60 2147483648 2147483648 ≡ 35)
    × (triangular 50 20 10 7 9 ≡ 50)
unfolding triangular
triangular_rows = (refl, refl, refl, refl, refl)

geometric_rows : (geometric 0 5 ≡ 0) × (geometric 1 2147483648 ≡ 1) × (geometric 1 0 ≡ 33)
    × (geometric 3 1000000000 ≡ 5) × (geometric 8191 123456789 ≡ 29074)
    × (geometric 8192 123456789 ≡ 29077)
unfolding geometric standard_exponential exponential_quantiles count_leading_zeros
geometric_rows = (refl, refl, refl, refl, refl, refl)

-- a quarter of the words chooses the first place, none the second
choice_rows : (choice_of (1 ∷ 0 ∷ 3 ∷ []) 0 ≡ 0) × (choice_of (1 ∷ 0 ∷ 3 ∷ []) 1073741823 ≡ 0)
    × (choice_of (1 ∷ 0 ∷ 3 ∷ []) 1073741824 ≡ 2) × (choice_of (0 ∷ 0 ∷ []) 77 ≡ 0)
unfolding choice_of
choice_rows = (refl, refl, refl, refl)
