-- Pairs of the memory reservation block, one after the other.
use Rattle.std.proofs.Common.{◌≡◌, ℕ, suc, ◌+◌, ◌-◌, ◌<◌, ◌≤◌, true, false, List, refl, arith}
use Rattle.xv_fdt.specs.Header.{is_zero_pair, has_zero_pair}

-- a pair of zeros
pub has_zero_pair-here : (count i : ℕ) (bytes : List ℕ) (at : ℕ) → i < count
    → is_zero_pair bytes at ≡ true → has_zero_pair (count - i) bytes at ≡ true
unfolding has_zero_pair
has_zero_pair-here count i bytes at lt here = let k : count - i ≡ suc (count - (i + 1)) =
    omega arith in rw (k, here) refl

-- another pair, and those behind it
pub has_zero_pair-more : (count i : ℕ) (bytes : List ℕ) (at : ℕ) → i < count
    → is_zero_pair bytes at ≡ false
    → has_zero_pair (count - i) bytes at ≡ has_zero_pair (count - (i + 1)) bytes (at + 16)
unfolding has_zero_pair
has_zero_pair-more count i bytes at lt other = let k : count - i ≡ suc (count - (i + 1)) =
    omega arith in rw (k, other) refl

pub has_zero_pair-none : (count i : ℕ) (bytes : List ℕ) (at : ℕ) → count ≤ i
    → has_zero_pair (count - i) bytes at ≡ false
unfolding has_zero_pair
has_zero_pair-none count i bytes at le = let k : count - i ≡ 0 = omega arith in rw k refl
