-- Which VCPUs a mask names, by its bits.
use Rattle.std.proofs.Common.{◌≡◌, ◌≢◌, ℕ, zero, suc, ◌+◌, ◌-◌, ◌<◌, ◌≤◌, ◌==◌, Bool, true, false}
use Rattle.std.proofs.Common.{not, ◌&&◌, ◌||◌, ltb, leb, ◌⊎◌, inl, inr, refl, sym, subst, ◌∙◌}
use Rattle.std.proofs.Common.{arith, add-one}
use Rattle.std.proofs.lemmas.Bool.{cases_eq, false≢true, leb-true, le-leb, ltb-true, lt-ltb}
use Rattle.std.proofs.lemmas.Bool.Decides.{nat_tests}
use Rattle.xv_base.specs.Bits.{has_bit}
use Rattle.xv_sbi.specs.Mask.{bit_ok, bits_ok, names, all_vcpus}

-- one bit more
pub bits_ok_suc : (n mask base vcpus : ℕ)
    → bits_ok (suc n) mask base vcpus ≡ (bit_ok mask base vcpus n && bits_ok n mask base vcpus)
unfolding bits_ok
bits_ok_suc n mask base vcpus = refl

both : (a b : Bool) → (a && b) ≡ true → (a ≡ true) × (b ≡ true)
both true true is = (refl, refl)
both true false is = cc
both false b is = cc

either : (a b : Bool) → (a && b) ≡ false → (a ≡ false) ⊎ (b ≡ false)
either true b is = inr is
either false b is = inl refl

passes : (set small : Bool) → (not set || small) ≡ true → set ≡ true → small ≡ true
passes true small is here = is
passes false small is here = cc

fails : (set small : Bool) → (not set || small) ≡ false → (set ≡ true) × (small ≡ false)
fails true small is = (refl, is)
fails false small is = cc

module _ (mask base vcpus : ℕ) where
  -- where each bit that is set names one of the VCPUs
  bits_ok-named : (n i : ℕ) → bits_ok n mask base vcpus ≡ true → i < n → has_bit i mask ≡ true
      → base + i < vcpus
  bits_ok-named zero i ok below set = absurd (omega arith)
  bits_ok-named (suc n) i ok below set =
      let parts = both (bit_ok mask base vcpus n) (bits_ok n mask base vcpus)
      (sym (bits_ok_suc n mask base vcpus) ∙ ok) in
      elim (cases_eq i n) [
        | inl here ↦ last here parts.0
        | inr apart ↦ bits_ok-named n i parts.1 (omega arith) set
      ]
    where
      last : i ≡ n → bit_ok mask base vcpus n ≡ true → base + i < vcpus
      last here is =
          let P : ℕ → Type 0 = λ k. has_bit k mask ≡ true in
          let small = passes (has_bit n mask) (ltb (base + n) vcpus) is (subst P here set) in
          grind (arith, nat_tests)

  -- where a bit that is set names none of the VCPUs
  bits_ok-missing : (n : ℕ) → bits_ok n mask base vcpus ≡ false → (i : ℕ) × (i < n)
      × (has_bit i mask ≡ true) × (vcpus ≤ base + i)
  unfolding bits_ok
  bits_ok-missing zero wrong = absurd (false≢true (sym wrong))
  bits_ok-missing (suc n) wrong =
      elim (either (bit_ok mask base vcpus n) (bits_ok n mask base vcpus)
      (sym (bits_ok_suc n mask base vcpus) ∙ wrong)) [
        | inl here ↦ last (fails (has_bit n mask) (ltb (base + n) vcpus) here)
        | inr below ↦ earlier (bits_ok-missing n below)
      ]
    where
      last : (has_bit n mask ≡ true) × (ltb (base + n) vcpus ≡ false) → (i : ℕ) × (i < suc n)
          × (has_bit i mask ≡ true) × (vcpus ≤ base + i)
      last facts = (n, omega arith, facts.0, grind (arith, nat_tests))

      earlier : ((i : ℕ) × (i < n) × (has_bit i mask ≡ true) × (vcpus ≤ base + i))
          → (i : ℕ) × (i < suc n) × (has_bit i mask ≡ true) × (vcpus ≤ base + i)
      earlier found = (found.0, omega arith, found.2, found.3)

  -- one bit more that is right, and one that is wrong
  pub bits_ok-more : (i : ℕ) → bits_ok i mask base vcpus ≡ true → bit_ok mask base vcpus i ≡ true
      → bits_ok (i + 1) mask base vcpus ≡ true
  bits_ok-more i ok here = rw (add-one, bits_ok_suc, here) ok

  pub bits_ok-wrong : (n i : ℕ) → i < n → bit_ok mask base vcpus i ≡ false
      → bits_ok n mask base vcpus ≡ false
  bits_ok-wrong zero i below wrong = absurd (omega arith)
  bits_ok-wrong (suc n) i below wrong =
      elim (cases_eq i n) [
        | inl here ↦ bits_ok_suc n mask base vcpus
            ∙ at_bit (bit_ok mask base vcpus n) (bits_ok n mask base vcpus) (last here)
        | inr apart ↦ bits_ok_suc n mask base vcpus
            ∙ below_bit (bit_ok mask base vcpus n) (bits_ok n mask base vcpus)
            (bits_ok-wrong n i (omega arith) wrong)
      ]
    where
      last : i ≡ n → bit_ok mask base vcpus n ≡ false
      last here = let P : ℕ → Type 0 = λ k. bit_ok mask base vcpus k ≡ false in subst P here wrong

      at_bit : (a b : Bool) → a ≡ false → (a && b) ≡ false
      at_bit true b is = cc
      at_bit false b is = refl

      below_bit : (a b : Bool) → b ≡ false → (a && b) ≡ false
      below_bit true b is = is
      below_bit false b is = refl

  -- every VCPU that is named is there
  pub names-there : bits_ok 64 mask base vcpus ≡ true → base ≢ all_vcpus → (vcpu : ℕ)
      → names mask base vcpu ≡ true → vcpu < vcpus
  names-there bits some vcpu named =
      let single : (base == all_vcpus) ≡ false = grind (arith, nat_tests) in
      let parts : (leb base vcpu && (ltb (vcpu - base) 64 && has_bit (vcpu - base) mask)) ≡ true =
      rw single at named in
      let first = both (leb base vcpu) (ltb (vcpu - base) 64 && has_bit (vcpu - base) mask) parts in
      let rest = both (ltb (vcpu - base) 64) (has_bit (vcpu - base) mask) first.1 in
      let least : base ≤ vcpu = leb-true base vcpu first.0 in
      let near : vcpu - base < 64 = ltb-true (vcpu - base) 64 rest.0 in
      let small = bits_ok-named 64 (vcpu - base) bits near rest.1 in
      omega arith

  -- some VCPU that is named isn't there
  pub names-missing : bits_ok 64 mask base vcpus ≡ false → base ≢ all_vcpus
      → (vcpu : ℕ) × (vcpus ≤ vcpu) × (names mask base vcpu ≡ true)
  names-missing bits some =
      let found = bits_ok-missing 64 bits in
      (base + found.0, found.3, named found.0 found.1 found.2)
    where
      named : (i : ℕ) → i < 64 → has_bit i mask ≡ true → names mask base (base + i) ≡ true
      named i below set =
          let single : (base == all_vcpus) ≡ false = grind (arith, nat_tests) in
          let place : base + i - base ≡ i = omega arith in
          let least : leb base (base + i) ≡ true = le-leb base (base + i) (omega arith) in
          let near : ltb i 64 ≡ true = lt-ltb i 64 below in
          rw (single, least, place, near) set
