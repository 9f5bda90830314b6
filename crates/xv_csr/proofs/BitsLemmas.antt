-- Numbers whose bits lie in a mask, with some bits fixed to 1.
use Rattle.std.proofs.Common.{◌≡◌, ℕ, ◌+◌, ap, arith}
use Rattle.std.specs.Int.RustNames.{bit_and, bit_or}
use Rattle.std.specs.Int.{bit_at}
use Rattle.std.proofs.lemmas.Nat.{or_disjoint}
use Rattle.std.proofs.lemmas.Nat.Bits.{bit_at_and, bit_at_or, bit_at-zero, same_from_bits}

-- the bits of a number that lie in the mask, and the fixed bits
abbrev pub masked : ℕ → ℕ → ℕ → ℕ
masked mask fixed number = bit_or (bit_and number mask) fixed

-- a part of a mask meets nothing that the mask doesn't meet
disjoint : (mask fixed number : ℕ) → bit_and mask fixed ≡ 0
    → bit_and (bit_and number mask) fixed ≡ 0
disjoint mask fixed number apart = same_from_bits _ _ (λ i.
    let outer = bit_at_and (bit_and number mask) fixed i in
    let inner = bit_at_and number mask i in
    let both = bit_at_and mask fixed i in
    let none = ap (λ n. bit_at n i) apart in
    let zero = bit_at-zero i in
    omega (arith, outer, inner, both, none, zero))

-- where no fixed bit lies in the mask the fixed bits are added
pub masked-add : (mask fixed number : ℕ) → bit_and mask fixed ≡ 0
    → masked mask fixed number ≡ bit_and number mask + fixed
masked-add mask fixed number apart =
    or_disjoint (bit_and number mask) fixed (disjoint mask fixed number apart)

pub and-and : (mask number : ℕ) → bit_and (bit_and number mask) mask ≡ bit_and number mask
and-and mask number = same_from_bits _ _ (λ i.
    rw (bit_at_and (bit_and number mask) mask i, bit_at_and number mask i) (omega arith))

pub masked-masked : (mask fixed number : ℕ)
    → masked mask fixed (masked mask fixed number) ≡ masked mask fixed number
masked-masked mask fixed number = same_from_bits _ _ (λ i.
    let outer = bit_at_or (bit_and (masked mask fixed number) mask) fixed i in
    let middle = bit_at_and (masked mask fixed number) mask i in
    let inner = bit_at_or (bit_and number mask) fixed i in
    let core = bit_at_and number mask i in
    omega (arith, outer, middle, inner, core))

-- a bit of the mask may be set
pub masked-set : (mask fixed number part : ℕ) → masked mask fixed number ≡ number
    → bit_and part mask ≡ part → masked mask fixed (bit_or number part) ≡ bit_or number part
masked-set mask fixed number part same inside = same_from_bits _ _ (λ i.
    let outer = bit_at_or (bit_and (bit_or number part) mask) fixed i in
    let middle = bit_at_and (bit_or number part) mask i in
    let inner = bit_at_or number part i in
    let before = bit_at_or (bit_and number mask) fixed i in
    let core = bit_at_and number mask i in
    let kept = ap (λ n. bit_at n i) same in
    let of_part = ap (λ n. bit_at n i) inside in
    let at_part = bit_at_and part mask i in
    omega (arith, outer, middle, inner, before, core, kept, of_part, at_part))

-- a bit that isn't fixed may be cleared
pub masked-clear : (mask fixed number others : ℕ) → masked mask fixed number ≡ number
    → bit_and fixed others ≡ fixed
    → masked mask fixed (bit_and number others) ≡ bit_and number others
masked-clear mask fixed number others same inside = same_from_bits _ _ (λ i.
    let outer = bit_at_or (bit_and (bit_and number others) mask) fixed i in
    let middle = bit_at_and (bit_and number others) mask i in
    let inner = bit_at_and number others i in
    let before = bit_at_or (bit_and number mask) fixed i in
    let core = bit_at_and number mask i in
    let kept = ap (λ n. bit_at n i) same in
    let of_fixed = ap (λ n. bit_at n i) inside in
    let at_fixed = bit_at_and fixed others i in
    omega (arith, outer, middle, inner, before, core, kept, of_fixed, at_fixed))
