-- Bits of a number of 64 bits by their places.
use Rattle.std.specs.Prelude.{ℕ, ◌+◌, ◌-◌, ◌^◌, ◌==◌, Bool, if◌then◌else◌, List, [], ◌∷◌, bit_and}
use Rattle.std.specs.Prelude.{bit_or}
use Rattle.std.specs.Int.{bit_at}

-- bit k is 1
abbrev pub has_bit : ℕ → ℕ → Bool
has_bit k number = bit_at number k == 1

-- the number with bit k as given
abbrev pub with_bit : ℕ → Bool → ℕ → ℕ
with_bit k value number =
    if value then bit_or number (2 ^ k) else bit_and number (2 ^ 64 - 1 - 2 ^ k)

-- the number whose bits are those of the list
abbrev pub mask : List ℕ → ℕ
mask [] = 0
mask (k ∷ ks) = 2 ^ k + mask ks
