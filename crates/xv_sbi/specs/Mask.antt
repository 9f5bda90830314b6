-- Which VCPUs a mask names (Supervisor Binary Interface 1.0, section 3.1).
use Rattle.std.specs.Prelude.{ℕ, zero, suc, ◌+◌, ◌-◌, ◌^◌, ◌==◌, Bool, true, not, ◌&&◌, ◌||◌}
use Rattle.std.specs.Prelude.{nat_le, nat_lt}
use Rattle.xv_base.specs.Bits.{has_bit}

-- the base that names every VCPU, whatever the mask
abbrev pub all_vcpus : ℕ
all_vcpus = 2 ^ 64 - 1

-- the mask names VCPU base + i for each of its 64 bits i that is set, as whole numbers
abbrev pub names : ℕ → ℕ → ℕ → Bool
names mask base vcpu =
    base == all_vcpus
    || (nat_le base vcpu && (nat_lt (vcpu - base) 64 && has_bit (vcpu - base) mask))

-- bit i isn't set, or the VCPU that it names is one of so many
abbrev pub bit_ok : ℕ → ℕ → ℕ → ℕ → Bool
bit_ok mask base vcpus i = not (has_bit i mask) || nat_lt (base + i) vcpus

-- the same of each of the first so many bits
unfoldable pub bits_ok : ℕ → ℕ → ℕ → ℕ → Bool
bits_ok zero mask base vcpus = true
bits_ok (suc i) mask base vcpus = bit_ok mask base vcpus i && bits_ok i mask base vcpus

-- every VCPU that is named is there
unfoldable pub mask_ok : ℕ → ℕ → ℕ → Bool
mask_ok mask base vcpus = base == all_vcpus || bits_ok 64 mask base vcpus
